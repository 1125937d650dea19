-- A unit that isn't the first, and that no reached jump goes to, is reached only from the instruction before it.
use Rattle.std.proofs.Common.{◌≡◌, ◌≢◌, ℕ, zero, suc, ◌+◌, ◌<◌, ◌⊎◌, List, [], ◌∷◌, Option, Some, None, true, false, refl, sym, ap, ◌∙◌, subst, inl, inr, arith}
use Rattle.std.proofs.Common.{length}
use Rattle.std.specs.Prelude.{Result, Ok, Err, ◌==◌, ◌&&◌, ◌-◌, is_some, slice_get}
use Rattle.std.proofs.lemmas.Bool.{cases_eq, eq-eqb, or_parts, cond-false}
use Rattle.bpf_model.specs.declared.instruction.Inst.{Inst}
use Rattle.bpf_model.specs.declared.instruction.Form.{Form}
use Rattle.bpf_model.specs.declared.instruction.Form.TheVariants.{Arithmetic, Wide, Load, LoadSigned, StoreImmediate, StoreRegister, Ja, Ja32, Branch}
use Rattle.bpf_model.specs.declared.instruction.Form.TheVariants.{Call, Exit}
use Rattle.bpf_model.specs.declared.instruction.Unit.{Unit as ProgramUnit}
use Rattle.bpf_model.specs.Reading.{units}
use Rattle.bpf_model.specs.Machine.{and_then, shifted}
use Rattle.bpf_model.specs.Flow.{distance_by, distance_of, target}
use Rattle.bpf_model.proofs.Reading.{wide_at}
use Rattle.verifier.specs.declared.types.LoadOptions.{LoadOptions}
use Rattle.verifier.specs.declared.types.Fact.{Fact}
use Rattle.verifier.specs.Effects.{Effect}
use Rattle.verifier.specs.declared.types.Flaw.{Flaw}
use Rattle.verifier.specs.Inference.{known, inferred, entry_fact, successor_units, option_cons, instruction_of, instruction_at, ruled, arrived_all, fact_after}
use Rattle.verifier.specs.Inference.{passed_by, passed_from, passed, goes, is_entered}
use Rattle.verifier.specs.Passing.{following, IsBrought, AreWalked}
use Rattle.verifier.specs.Operations.{target_by}
use Rattle.verifier.proofs.Storing.{not_arrived}
use Rattle.verifier.proofs.Accepted.{instruction_is}

no_two_truths : true ≡ false → ⊥
no_two_truths e = absurd (cc)

-- unit q is neither the target of the instruction's jump nor the unit of the next instruction
record IsElsewhere (pc q : ℕ) (i : Inst) (form : Form) : Type 0 where
  pub jump : target_by pc form i ≢ Some q
  pub next : q ≢ following pc form

abbrev led : ℕ → Fact → Option (List ℕ) → Option Fact → Option Fact
led q fact None o = o
led q fact (Some tos) o = arrived_all q fact tos o

-- If a fact is passed on to `to`, the target of a jump, and to the units `tos`, then what is known of unit q stays the
-- same, provided that q isn't `to`, and that passing the fact on to `tos` changes nothing for q. If `to` is None, the
-- fact is passed on to no unit at all.
jump_elsewhere : (q : ℕ) (fact : Fact) (to : Option ℕ) (tos : List ℕ) (o : Option Fact) → to ≢ Some q → ((p : Option Fact) → arrived_all q fact tos p ≡ p)
    → led q fact (option_cons to tos) o ≡ o
jump_elsewhere q fact None tos o n rest = refl
jump_elsewhere q fact (Some to) tos o n rest =
    let other : q ≢ to = λ e. n (ap Some (sym e)) in
    ap (arrived_all q fact tos) (not_arrived q to fact o other) ∙ rest o

elsewhere : (pc q : ℕ) (i : Inst) (form : Form) (fact : Fact) (o : Option Fact) → IsElsewhere pc q i form → led q fact (successor_units pc i form) o ≡ o
elsewhere pc q i Exit fact o e = refl
elsewhere pc q i Ja fact o e = jump_elsewhere q fact (shifted (pc + 1) i.offset 512) [] o e.jump (λ p. refl)
elsewhere pc q i Ja32 fact o e = jump_elsewhere q fact (shifted (pc + 1) i.imm 512) [] o e.jump (λ p. refl)
elsewhere pc q i (Branch c w s) fact o e =
    jump_elsewhere q fact (shifted (pc + 1) i.offset 512) ((pc + 1) ∷ []) o e.jump (λ p. not_arrived q (pc + 1) fact p e.next)
elsewhere pc q i Wide fact o e = not_arrived q (pc + 2) fact o e.next
elsewhere pc q i (Arithmetic op w s) fact o e = not_arrived q (pc + 1) fact o e.next
elsewhere pc q i (Load size) fact o e = not_arrived q (pc + 1) fact o e.next
elsewhere pc q i (LoadSigned size) fact o e = not_arrived q (pc + 1) fact o e.next
elsewhere pc q i (StoreImmediate size) fact o e = not_arrived q (pc + 1) fact o e.next
elsewhere pc q i (StoreRegister size) fact o e = not_arrived q (pc + 1) fact o e.next
elsewhere pc q i Call fact o e = not_arrived q (pc + 1) fact o e.next

by_led : (q : ℕ) (fact : Fact) (r : Result Effect Flaw) (tos : Option (List ℕ)) (o : Option Fact) → ((f : Fact) → led q f tos o ≡ o)
    → passed_by q fact r tos o ≡ o
by_led q fact (Err flaw) tos o h = refl
by_led q fact (Ok e) None o h = refl
by_led q fact (Ok e) (Some tos) o h = h (fact_after fact e)

module _ (us : List ProgramUnit) (options : LoadOptions) (pc q : ℕ) (no_jump : target us pc ≢ Some q) where
  goes_is : (x : Inst × Form) → instruction_at us pc ≡ Some x → target us pc ≡ target_by pc x.1 x.0
  goes_is x at =
      let is = instruction_is (slice_get us pc) x at in
      ap (λ o. and_then (and_then o distance_of) (λ z. shifted (pc + 1) z 512)) is.0 ∙ ap (λ o. and_then (distance_by o x.0) (λ z. shifted (pc + 1) z 512)) is.1

  -- an instruction doesn't change what is known of unit q if q is neither its jump's target nor the unit of the next
  -- instruction
  from_elsewhere : (fact : Fact) (o : Option (Inst × Form)) (old : Option Fact) → instruction_at us pc ≡ o
      → ((x : Inst × Form) → o ≡ Some x → q ≢ following pc x.1) → passed_from us options pc fact o q old ≡ old
  from_elsewhere fact None old at n = refl
  from_elsewhere fact (Some x) old at n =
      by_led q fact (ruled us options pc fact x) _ old
      (λ f. elsewhere pc q x.0 x.1 f old (record { jump = λ e. no_jump (goes_is x at ∙ e); next = n x refl }))

  passed_elsewhere : (here old : Option Fact) → ((x : Inst × Form) → instruction_at us pc ≡ Some x → q ≢ following pc x.1) → passed us options pc here q old ≡ old
  passed_elsewhere None old n = refl
  passed_elsewhere (Some fact) old n = from_elsewhere fact (instruction_at us pc) old refl n

after_is : (pc : ℕ) (form : Form) → (following pc form ≡ pc + 1) ⊎ ((following pc form ≡ pc + 2) × (form ≡ Wide))
after_is pc Wide = inr (refl, refl)
after_is pc (Arithmetic op w s) = inl refl
after_is pc (Load size) = inl refl
after_is pc (LoadSigned size) = inl refl
after_is pc (StoreImmediate size) = inl refl
after_is pc (StoreRegister size) = inl refl
after_is pc Ja = inl refl
after_is pc Ja32 = inl refl
after_is pc (Branch c w s) = inl refl
after_is pc Call = inl refl
after_is pc Exit = inl refl

after_more : (pc : ℕ) (form : Form) → pc < following pc form
after_more pc form = elim (after_is pc form) [ inl one ↦ omega (arith, one) | inr two ↦ (let e = two.0 in omega (arith, e)) ]

not_gone : (o : Option ℕ) (q : ℕ) → goes o q ≡ false → o ≢ Some q
not_gone None q e = λ x. cc
not_gone (Some to) q e = λ x. let same : to ≡ q = cc in no_two_truths (sym (eq-eqb q to (sym same)) ∙ e)

one_instruction : (x y : Inst × Form) (o : Option (Inst × Form)) → o ≡ Some x → o ≡ Some y → x ≡ y
one_instruction x y o a b = cc

module _ (us : List ProgramUnit) (options : LoadOptions) (q : ℕ) where
  -- An instruction begins at one of the first n units and ends just before unit q. The only thing known of q from these
  -- n units is the fact after that instruction.
  record IsLast (n : ℕ) : Type 0 where
    before : ℕ
    below : before < n
    instruction : Inst × Form
    stands : instruction_at us before ≡ Some instruction
    next : q ≡ following before instruction.1
    is : known us options n q ≡ passed us options before (inferred us options before) q None

  still_last : (n : ℕ) → known us options (suc n) q ≡ known us options n q → (known us options n q ≡ None) ⊎ IsLast n
      → (known us options (suc n) q ≡ None) ⊎ IsLast (suc n)
  still_last n e h =
      elim h [
        | inl none ↦ inl (e ∙ none)
        | inr l ↦ inr (record {
          before = l.before;
          below = (let b = l.below in omega (arith, b));
          instruction = l.instruction;
          stands = l.stands;
          next = l.next;
          is = e ∙ l.is;
        })
      ]

  known_is : (n : ℕ) → known us options (suc n) q ≡ passed us options n (inferred us options n) q (known us options n q)
  unfolding known
  known_is n = refl

  not_both : (x : Inst × Form) (o : Option (Inst × Form)) → o ≡ Some x → o ≡ None → ⊥
  not_both x o a b = cc

  module _ (bytes : List ℕ) (reads : units bytes ≡ Some us) where
    -- no two instructions have the same next instruction
    apart : (p n : ℕ) (x y : Inst × Form) → p < n → instruction_at us p ≡ Some x → instruction_at us n ≡ Some y → following p x.1 ≡ following n y.1 → ⊥
    apart p n x y l first second same =
        let is = instruction_is (slice_get us p) x first in
        elim (after_is p x.1) [
          | inl one ↦ (let f = after_more n y.1 in omega (arith, l, one, same, f))
          | inr wide ↦
              let f = after_more n y.1 in
              let two = wide.0 in
              let there : p + 1 ≡ n = omega (arith, l, two, same, f) in
              let is_second = wide_at bytes us p x.0 reads is.0 (is.1 ∙ ap Some wide.1) in
              not_both y (instruction_at us n) second (ap (instruction_at us) (sym there) ∙ ap instruction_of is_second)
        ]

    here_or_not : (n : ℕ) (fact : Option Fact) → inferred us options n ≡ fact → (is_some fact && goes (target us n) q) ≡ false → (o : Option (Inst × Form))
        → instruction_at us n ≡ o → (known us options n q ≡ None) ⊎ IsLast n → (known us options (suc n) q ≡ None) ⊎ IsLast (suc n)
    here_or_not n None at e o i h = still_last n (known_is n ∙ ap (λ f. passed us options n f q (known us options n q)) at) h
    here_or_not n (Some fact) at e None i h =
        still_last n (known_is n ∙ ap (λ f. passed us options n f q (known us options n q)) at ∙ ap (λ x. passed_from us options n fact x q (known us options n q)) i) h
    here_or_not n (Some fact) at e (Some x) i h =
        elim (cases_eq q (following n x.1)) [
          | inl next ↦ elim h [
            | inl none ↦ inr (record {
              before = n;
              below = omega arith;
              instruction = x;
              stands = i;
              next = next;
              is = known_is n ∙ ap (passed us options n (inferred us options n) q) none;
            })
            | inr l ↦ absurd (apart l.before n l.instruction x l.below l.stands i (sym l.next ∙ next))
          ]
          | inr other ↦
              still_last n
              (known_is n
              ∙ passed_elsewhere us options n q (not_gone (target us n) q e) (inferred us options n) (known us options n q)
              (λ y there. subst (λ z. q ≢ following n z.1) (one_instruction x y (instruction_at us n) i there) other))
              h
        ]

    -- if q isn't 0 and no reached jump below n goes to it, then nothing is known of q from the units below n, or only
    -- the fact after the instruction that comes just before q
    lasts : (n : ℕ) → is_entered us options n q ≡ false → (known us options n q ≡ None) ⊎ IsLast n
    unfolding known is_entered
    lasts zero e = inl (cond-false (q == 0) (Some entry_fact) None e)
    lasts (suc n) e =
        let parts = or_parts (is_entered us options n q) (is_some (inferred us options n) && goes (target us n) q) e in
        here_or_not n (inferred us options n) refl parts.1 (instruction_at us n) refl (lasts n parts.0)

    not_before : (n k : ℕ) → is_entered us options (k + n) q ≡ false → is_entered us options n q ≡ false
    unfolding is_entered
    not_before n zero e = let z : zero + n ≡ n = omega arith in subst (λ m. is_entered us options m q ≡ false) z e
    not_before n (suc k) e =
        let s : suc k + n ≡ suc (k + n) = omega arith in
        let g = subst (λ m. is_entered us options m q ≡ false) s e in
        not_before n k (or_parts (is_entered us options (k + n) q) (is_some (inferred us options (k + n)) && goes (target us (k + n)) q) g).0

    walks : is_entered us options (length us) q ≡ false → q < length us → (inferred us options q ≡ None) ⊎ IsBrought us options q
    walks e l =
        let rest : length us - q + q ≡ length us = omega (arith, l) in
        let here = not_before q (length us - q) (subst (λ m. is_entered us options m q ≡ false) (sym rest) e) in
        elim (lasts q here) [
          | inl none ↦ inl none
          | inr is ↦ inr (record { before = is.before; instruction = is.instruction; stands = is.stands; next = is.next; is = is.is })
        ]

-- a unit without a stored fact isn't reached, or the only thing known of it is the fact after the instruction that
-- comes just before it
pub walked : (bytes : List ℕ) (us : List ProgramUnit) (options : LoadOptions) → units bytes ≡ Some us → AreWalked us options
walked bytes us options reads q e l = walks us options q bytes reads e l
