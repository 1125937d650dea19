-- A well typed call of a helper has a result, and changes only declared counters.
use Rattle.std.proofs.Common.{◌≡◌, ℕ, ◌+◌, ◌-◌, ◌<◌, ◌≤◌, List, [], ◌++◌, Option, Some, None, Bool, true, false, refl, sym, ap, ◌∙◌, subst, inl, inr, arith}
use Rattle.std.proofs.Common.{length, length-append}
use Rattle.std.specs.Prelude.{Result, Ok, Err, pos, ◌^◌, ◌/◌, ◌%◌, ◌==◌, ◌&&◌, cond, nat_le, is_some, slice_set, slice_index_or}
use Rattle.std.proofs.lemmas.Bool.{cases_eq, cases_lt}
use Rattle.std.proofs.lemmas.Bool.Decides.{nat_tests}
use Rattle.std.proofs.lemmas.List.{get_or-set_other, get_or-set_same, get_or_past, length-set}
use Rattle.byteorder.specs.Endian.{little_bytes}
use Rattle.bpf_model.specs.declared.machine.Value.{Value}
use Rattle.bpf_model.specs.declared.machine.Value.TheVariants.{Unset, Number, Context, Stack}
use Rattle.bpf_model.specs.declared.machine.Cell.{Cell}
use Rattle.bpf_model.specs.declared.machine.View.{View}
use Rattle.bpf_model.specs.declared.machine.PointView.{PointView}
use Rattle.bpf_model.specs.declared.machine.Helper.{Helper}
use Rattle.bpf_model.specs.declared.machine.Helper.TheVariants.{CounterGet, CounterAdd, CounterTake, PointState, PointRecord, PriceOf}
use Rattle.bpf_model.specs.Machine.{Counters, counter, counter_argument, HelperResult, answer, added, taken, written, record_bytes, record_place, map_option}
use Rattle.bpf_model.specs.Machine.{and_then, number, shifted, point, point_or_zero, is_there, price}
use Rattle.bpf_model.specs.Runs.{AreCounters}
use Rattle.verifier.specs.declared.helpers.Kind.{Kind}
use Rattle.verifier.specs.HelperCalls.{kinds}
use Rattle.verifier.specs.declared.types.RegType.{RegType}
use Rattle.verifier.specs.declared.types.RegType.TheVariants.{Unset as Anything, Num, Const, Ctx, Stk}
use Rattle.verifier.specs.Effects.{Effect}
use Rattle.verifier.specs.declared.types.Flaw.{Flaw}
use Rattle.verifier.specs.declared.types.Flaw.TheVariants.{BadArgument, UndeclaredCounter}
use Rattle.verifier.specs.Rules.{type_at, is_numeric, natural, lowest, place_by, fits_counter, declares, after_call, unmarked, marks_record, kind_at}
use Rattle.verifier.specs.Rules.{call_with, call_type}
use Rattle.verifier.specs.Facts.{FitsType, Changes}
use Rattle.verifier.proofs.Stack.{at_most, length-little}

abbrev Effects : Type 0
Effects = Result Effect Flaw

abbrev ok_of : Effect → Effects
ok_of e = Ok e

pub Changes-refl : (declared : ℕ) (counters : Counters) → Changes declared counters counters
Changes-refl declared counters = record { right = λ a. a; undeclared = λ c h. refl; bounds = λ c. refl }

-- setting a declared counter to a value of at most its bound changes only declared counters, within their bounds
changes_set : (declared : ℕ) (counters : Counters) (c v : ℕ) → declared / 2 ^ c % 2 ≡ 1 → (AreCounters counters → v ≤ (counter counters c).1)
    → Changes declared counters (slice_set counters c (v, (counter counters c).1))
changes_set declared counters c v bit l =
    let cell : ℕ × ℕ = (v, (counter counters c).1) in
    let new = slice_set counters c cell in
    let long = length-set counters c cell in
    record {
      right =
          λ old. record {
            many = long ∙ old.many;
            bounded =
                λ k d inside. let within : k < length counters = omega (arith, inside, long) in elim (cases_eq k c) [
                  | inl same ↦ subst (λ q. (slice_index_or new q d).0 ≤ (slice_index_or new q d).1) (sym same)
                      (subst (λ x. x.0 ≤ x.1) (sym (get_or-set_same counters c cell d (omega (arith, same, within)))) (l old))
                  | inr other ↦ subst (λ x. x.0 ≤ x.1) (sym (get_or-set_other counters c k cell d other)) (old.bounded k d within)
                ];
            small =
                λ k d inside. let within : k < length counters = omega (arith, inside, long) in elim (cases_eq k c) [
                  | inl same ↦ subst
                      (λ q. (slice_index_or new q d).1 < 2 ^ 64) (sym same)
                      (subst (λ x. x.1 < 2 ^ 64) (sym (get_or-set_same counters c cell d (omega (arith, same, within))))
                      (old.small c (0, 0) (omega (arith, same, within))))
                  | inr other ↦ subst (λ x. x.1 < 2 ^ 64) (sym (get_or-set_other counters c k cell d other)) (old.small k d within)
                ];
          };
      undeclared =
          λ q none. elim (cases_eq q c) [
            | inl same ↦ let off = subst (λ x. declared / 2 ^ x % 2 ≡ 0) same none in absurd (omega (arith, off, bit))
            | inr other ↦ get_or-set_other counters c q cell (0, 0) other
          ];
      bounds =
          λ q. elim (cases_eq q c) [
            | inl same ↦ subst (λ x. (counter new x).1 ≡ (counter counters x).1) (sym same) (elim (cases_lt c (length counters)) [
              | inl inside ↦ ap (λ x. x.1) (get_or-set_same counters c cell (0, 0) inside)
              | inr past ↦ ap (λ x. x.1) (get_or_past new c (0, 0) (omega (arith, past, long)) ∙ sym (get_or_past counters c (0, 0) past))
            ])
            | inr other ↦ ap (λ x. x.1) (get_or-set_other counters c q cell (0, 0) other)
          ];
    }

le_from : (m n : ℕ) → nat_le m n ≡ true → m ≤ n
le_from m n e = grind (arith, nat_tests)

-- A call is answered: it has a result. It changes only declared counters, and writes `bytes` to the stack from `at` on,
-- as its effect e states.
pub record Answered (declared : ℕ) (types : List RegType) (view : View) (counters : Counters) (stack : List Cell) (given : Option HelperResult)
    (e : Effect) : Type 0 where
  pub reply : HelperResult
  pub there : given ≡ Some reply
  pub changes : Changes declared counters reply.counters
  pub at : ℕ
  pub bytes : List ℕ
  pub marks : record { types = after_call types; at = at; len = length bytes; spilled = Anything } ≡ e
  pub stack_is : reply.stack ≡ written stack at bytes
  pub inside : at + length bytes ≤ 512

call_test : (p q d : Bool) (x e : Effect) → cond p (cond q (cond d (ok_of x) (Err UndeclaredCounter)) (Err (BadArgument 2))) (Err (BadArgument 1)) ≡ ok_of e
    → (p ≡ true) × (q ≡ true) × (d ≡ true) × (x ≡ e)
call_test true true true x e h = (refl, refl, refl, cc)
call_test true true false x e h = absurd (cc)
call_test true false d x e h = absurd (cc)
call_test false q d x e h = absurd (cc)

-- a well typed counter argument is the number of a declared counter
counter_is : (declared : ℕ) (t : RegType) (v : Value) → FitsType t v → fits_counter t ≡ true → declares declared t ≡ true
    → (c : ℕ) × (counter_argument declared v ≡ Some c) × (declared / 2 ^ c % 2 ≡ 1) × (c ≤ 31)
counter_is declared (Const c) (Number n) h f d = (
  c,
  ap (λ m. counter_argument declared (Number m)) h ∙ ap (λ b. cond (b && (declared / 2 ^ c % 2 == 1)) (Some c) None) f ∙ ap (λ b. cond b (Some c) None) d,
  grind (arith, nat_tests, d),
  le_from _ _ f,
)
counter_is declared Anything v h f d = absurd (cc)
counter_is declared Num v h f d = absurd (cc)
counter_is declared (Ctx k) v h f d = absurd (cc)
counter_is declared (Stk k) v h f d = absurd (cc)
counter_is declared (Const c) Unset h f d = absurd h
counter_is declared (Const c) (Context n) h f d = absurd h
counter_is declared (Const c) (Stack n) h f d = absurd h

number_is : (t : RegType) (v : Value) → FitsType t v → is_numeric t ≡ true → (n : ℕ) × (number v ≡ Some n)
number_is Num (Number n) h e = (n, refl)
number_is (Const c) (Number n) h e = (n, refl)
number_is Anything v h e = absurd (cc)
number_is (Ctx k) v h e = absurd (cc)
number_is (Stk k) v h e = absurd (cc)
number_is Num Unset h e = absurd h
number_is Num (Context n) h e = absurd h
number_is Num (Stack n) h e = absurd h
number_is (Const c) Unset h e = absurd h
number_is (Const c) (Context n) h e = absurd h
number_is (Const c) (Stack n) h e = absurd h

some_of : (o : Option ℕ) → is_some o ≡ true → (n : ℕ) × (o ≡ Some n)
some_of None e = absurd (cc)
some_of (Some n) e = (n, refl)

-- an argument that the typing rules accept as a record's place is a stack pointer to that place, with the 16 bytes
-- inside the stack
place_of : (t : RegType) (v : Value) → FitsType t v → is_some (place_by t) ≡ true → (at : ℕ) × (place_by t ≡ Some at) × (record_place v ≡ Some at) × (at ≤ 496)
place_of (Stk k) (Stack n) h e =
    let x = some_of (shifted (lowest k) (pos 0) 496) e in
    let there : lowest k ≡ n = ap natural (sym h) in
    let y : shifted n (pos 0) 496 ≡ Some x.0 = ap (λ m. shifted m (pos 0) 496) (sym there) ∙ x.1 in
    (x.0, x.1, y, at_most n (pos 0) x.0 496 y)
place_of Anything v h e = absurd (cc)
place_of Num v h e = absurd (cc)
place_of (Const c) v h e = absurd (cc)
place_of (Ctx k) v h e = absurd (cc)
place_of (Stk k) Unset h e = absurd h
place_of (Stk k) (Number n) h e = absurd h
place_of (Stk k) (Context n) h e = absurd h

pub length-record : (p : PointView) → length (record_bytes p) ≡ 16
length-record p =
    let a = length-append (little_bytes 4 p.state ++ little_bytes 4 p.nozzle) (little_bytes 8 p.amount) in
    let b = length-append (little_bytes 4 p.state) (little_bytes 4 p.nozzle) in
    let c = length-little 0 4 p.state in
    let d = length-little 0 4 p.nozzle in
    let e = length-little 0 8 p.amount in
    omega (arith, a, b, c, d, e)

module _ (declared : ℕ) (types : List RegType) (view : View) (va vb : Value) (counters : Counters) (stack : List Cell) (a b : RegType) (fa : FitsType a va)
    (fb : FitsType b vb) where
  abbrev record_reply : ℕ → ℕ → HelperResult
  record_reply f at = record { value = is_there (point view f); counters = counters; stack = written stack at (record_bytes (point_or_zero (point view f))) }

  abbrev record_effect : ℕ → ℕ → Effect
  record_effect at len = record { types = after_call types; at = at; len = len; spilled = Anything }

  abbrev first_of_two : Helper → Kind
  first_of_two h = kind_at (kinds h) 0

  abbrev second_of_two : Helper → Kind
  second_of_two h = kind_at (kinds h) 1

  -- a call is answered (`Answered`) if it has a result, changes only declared counters, leaves the stack as it was, and
  -- has an effect e that writes nothing to the stack
  plainly : (given : Option HelperResult) (e : Effect) (reply : HelperResult) → given ≡ Some reply → Changes declared counters reply.counters → reply.stack ≡ stack
      → unmarked (after_call types) ≡ e → Answered declared types view counters stack given e
  plainly given e reply there changes same marks =
      record { reply = reply; there = there; changes = changes; at = 0; bytes = []; marks = marks; stack_is = same; inside = omega arith }

  -- Adding n to counter c, if c is declared, changes only declared counters. n is added if the sum is within the bound
  -- of c; else all counters stay as they are.
  added_if : (t : Bool) (n c : ℕ) → nat_le ((counter counters c).0 + n) (counter counters c).1 ≡ t → declared / 2 ^ c % 2 ≡ 1
      → Changes declared counters (cond {A = HelperResult} t (record {
        value = 1;
        counters = slice_set counters c ((counter counters c).0 + n, (counter counters c).1);
        stack = stack;
      }) (record {
        value = 0;
        counters = counters;
        stack =
            stack;
      })).counters
  added_if true n c e bit = changes_set declared counters c ((counter counters c).0 + n) bit (λ old. le_from _ _ e)
  added_if false n c e bit = Changes-refl declared counters

  taken_if : (t : Bool) (n c : ℕ) → nat_le n (counter counters c).0 ≡ t → c ≤ 31 → declared / 2 ^ c % 2 ≡ 1
      → Changes declared counters (cond {A = HelperResult} t (record {
        value = 1;
        counters = slice_set counters c ((counter counters c).0 - n, (counter counters c).1);
        stack = stack;
      }) (record {
        value = 0;
        counters = counters;
        stack =
            stack;
      })).counters
  taken_if true n c e small bit =
      changes_set declared counters c ((counter counters c).0 - n) bit (λ old. let h = old.bounded c (0, 0) (omega (arith, old.many)) in omega (arith, h))
  taken_if false n c e small bit = Changes-refl declared counters

  stack_if : (t : Bool) (x y : Counters)
      → (cond {A = HelperResult} t (record { value = 1; counters = x; stack = stack }) (record { value = 0; counters = y; stack = stack })).stack ≡ stack
  stack_if true x y = refl
  stack_if false x y = refl

  counter_there : (t : RegType) (e : Effect) (go : ℕ → HelperResult) → FitsType t va → fits_counter t ≡ true → declares declared t ≡ true
      → ((c : ℕ) → c ≤ 31 → declared / 2 ^ c % 2 ≡ 1 → Changes declared counters (go c).counters × ((go c).stack ≡ stack)) → unmarked (after_call types) ≡ e
      → Answered declared types view counters stack (map_option go (counter_argument declared va)) e
  counter_there t e go f fits dec all marks =
      let c = counter_is declared t va f fits dec in
      let h = all c.0 c.3 c.2 in
      plainly (map_option go (counter_argument declared va)) e (go c.0) (ap (map_option go) c.1) h.0 h.1 marks

  counter_and_number : (e : Effect) (go : ℕ → ℕ → HelperResult) → fits_counter a ≡ true → is_numeric b ≡ true → declares declared a ≡ true
      → ((c n : ℕ) → c ≤ 31 → declared / 2 ^ c % 2 ≡ 1 → Changes declared counters (go c n).counters × ((go c n).stack ≡ stack))
      → unmarked (after_call types) ≡ e
      → Answered declared types view counters stack (and_then (counter_argument declared va) (λ c. map_option (λ n. go c n) (number vb))) e
  counter_and_number e go fits num dec all marks =
      let c = counter_is declared a va fa fits dec in
      let n = number_is b vb fb num in
      let h = all c.0 n.0 c.3 c.2 in
      plainly (and_then (counter_argument declared va) (λ c. map_option (λ n. go c n) (number vb))) e (go c.0 n.0)
      (ap (λ o. and_then o (λ c. map_option (λ n. go c n) (number vb))) c.1 ∙ ap (map_option (λ n. go c.0 n)) n.1) h.0 h.1 marks

  number_there : (e : Effect) (go : ℕ → HelperResult) → is_numeric a ≡ true → ((n : ℕ) → Changes declared counters (go n).counters × ((go n).stack ≡ stack))
      → unmarked (after_call types) ≡ e → Answered declared types view counters stack (map_option go (number va)) e
  number_there e go num all marks =
      let n = number_is a va fa num in
      let h = all n.0 in
      plainly (map_option go (number va)) e (go n.0) (ap (map_option go) n.1) h.0 h.1 marks

  record_there : (e : Effect) → is_numeric a ≡ true → is_some (place_by b) ≡ true → marks_record (after_call types) (place_by b) ≡ e
      → Answered declared types view counters stack (answer PointRecord declared view va vb counters stack) e
  record_there e num place marks =
      let n = number_is a va fa num in
      let at = place_of b vb fb place in
      let bytes = record_bytes (point_or_zero (point view n.0)) in
      let long = length-record (point_or_zero (point view n.0)) in
      record {
        reply = record_reply n.0 at.0;
        there = ap (λ o. and_then o (λ f. map_option (record_reply f) (record_place vb))) n.1 ∙ ap (map_option (record_reply n.0)) at.2;
        changes = Changes-refl declared counters;
        at = at.0;
        bytes = bytes;
        marks = ap (λ l. record_effect at.0 l) long ∙ ap (marks_record (after_call types)) (sym at.1) ∙ marks;
        stack_is = refl;
        inside = omega (arith, at.3, long);
      }

  -- each helper answers a well typed call
  pub answered : (h : Helper) (e : Effect) → call_with declared types (first_of_two h) (second_of_two h) a b ≡ ok_of e
      → Answered declared types view counters stack (answer h declared view va vb counters stack) e
  answered CounterGet e g =
      let x = call_test (fits_counter a) true (declares declared a) (unmarked (after_call types)) e g in
      counter_there a e (λ c. record { value = (counter counters c).0; counters = counters; stack = stack }) fa x.0 x.2
      (λ c small bit. (Changes-refl declared counters, refl)) x.3
  answered CounterAdd e g =
      let x = call_test (fits_counter a) (is_numeric b) (declares declared a) (unmarked (after_call types)) e g in
      counter_and_number e (λ c n. added counters stack c n (counter counters c)) x.0 x.1 x.2
      (λ c n small bit. (
        added_if (nat_le ((counter counters c).0 + n) (counter counters c).1) n c refl bit,
        stack_if (nat_le ((counter counters c).0 + n) (counter counters c).1) (slice_set counters c ((counter counters c).0 + n, (counter counters c).1))
            counters,
      )) x.3
  answered CounterTake e g =
      let x = call_test (fits_counter a) (is_numeric b) (declares declared a) (unmarked (after_call types)) e g in
      counter_and_number e (λ c n. taken counters stack c n (counter counters c)) x.0 x.1 x.2
      (λ c n small bit. (
        taken_if (nat_le n (counter counters c).0) n c refl small bit,
        stack_if (nat_le n (counter counters c).0) (slice_set counters c ((counter counters c).0 - n, (counter counters c).1)) counters,
      )) x.3
  answered PointState e g =
      let x = call_test (is_numeric a) true true (unmarked (after_call types)) e g in
      number_there e (λ f. record { value = (point_or_zero (point view f)).state; counters = counters; stack = stack }) x.0
      (λ n. (Changes-refl declared counters, refl)) x.3
  answered PointRecord e g =
      let x = call_test (is_numeric a) (is_some (place_by b)) true (marks_record (after_call types) (place_by b)) e g in
      record_there e x.0 x.1 x.3
  answered PriceOf e g =
      let x = call_test (is_numeric a) true true (unmarked (after_call types)) e g in
      number_there e (λ p. record { value = price view p; counters = counters; stack = stack }) x.0 (λ n. (Changes-refl declared counters, refl)) x.3

  -- a well typed call of a helper by its number is answered
  pub called : (o : Option Helper) (e : Effect) → type_at types 1 ≡ a → type_at types 2 ≡ b → call_type declared types (map_option kinds o) ≡ ok_of e
      → Answered declared types view counters stack (and_then o (λ h. answer h declared view va vb counters stack)) e
  called None e p q g = absurd (cc)
  called (Some h) e p q g = answered h e (ap (λ t. call_with declared types (kind_at (kinds h) 0) (kind_at (kinds h) 1) t b) (sym p) ∙ ap
      (λ t. call_with declared types (kind_at (kinds h) 0) (kind_at (kinds h) 1) (type_at types 1) t) (sym q) ∙ g)
