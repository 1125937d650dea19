-- A well typed instruction doesn't lead to a stuck machine, and the state after the instruction fits the verifier's
-- fact after the instruction.
use Rattle.std.proofs.Common.{◌≡◌, ◌≢◌, ℕ, zero, suc, ◌+◌, ◌-◌, ◌*◌, ◌<◌, ◌≤◌, ◌⊎◌, List, [], ◌∷◌, Option, Some, None, Bool, true, false, refl, sym, ap, ◌∙◌}
use Rattle.std.proofs.Common.{subst, inl, inr, arith, length}
use Rattle.std.specs.Prelude.{Result, Ok, Err, ℤ, ◌^◌, ◌==◌, ◌/◌, ◌%◌, cond, drop, slice_set, slice_index}
use Rattle.std.specs.Int.{cast_unsigned, w32, w64}
use Rattle.std.proofs.lemmas.Bool.{cases_lt}
use Rattle.std.proofs.lemmas.List.{get_or-set_other, length-set, get_or-drop, length-drop}
use Rattle.byteorder.specs.Endian.{little_bytes}
use Rattle.bpf_model.specs.declared.instruction.Inst.{Inst}
use Rattle.bpf_model.specs.declared.instruction.Width.{Width}
use Rattle.bpf_model.specs.declared.instruction.Source.{Source}
use Rattle.bpf_model.specs.declared.instruction.Source.TheVariants.{Immediate, Register}
use Rattle.bpf_model.specs.declared.instruction.Form.{Form}
use Rattle.bpf_model.specs.declared.instruction.Form.TheVariants.{Arithmetic, Wide, Load, LoadSigned, StoreImmediate, StoreRegister, Ja, Ja32, Branch}
use Rattle.bpf_model.specs.declared.instruction.Form.TheVariants.{Call, Exit}
use Rattle.bpf_model.specs.declared.machine.Value.{Value}
use Rattle.bpf_model.specs.declared.machine.Value.TheVariants.{Unset, Number, Context, Stack}
use Rattle.bpf_model.specs.declared.machine.View.{View}
use Rattle.bpf_model.specs.declared.machine.State.{State}
use Rattle.bpf_model.specs.Reading.{bytes_in}
use Rattle.bpf_model.specs.Layouts.{context_len}
use Rattle.bpf_model.specs.Arithmetic.{holds, extended}
use Rattle.bpf_model.specs.Machine.{Next, Continues, Exits, Stuck, Place, InContext, InStack, or_stuck, shifted, number, map_option, mem, read, register, operand}
use Rattle.bpf_model.specs.Machine.{alu_value, sets, jumps, branches, stores, stores_value, stores_pointer as keeps_value, stack_at, aligned_place, is_aligned, cell_at}
use Rattle.bpf_model.specs.Machine.{pointer_at, pointer_in, number_in, loaded, number_or, written, pieces_written, after_call as call_state, HelperResult, helper_of, form_step}
use Rattle.verifier.specs.declared.types.LoadOptions.{LoadOptions}
use Rattle.verifier.specs.declared.types.RegType.{RegType}
use Rattle.verifier.specs.declared.types.RegType.TheVariants.{Unset as Anything, Num, Const, Ctx, Stk}
use Rattle.verifier.specs.declared.types.Fact.{Fact}
use Rattle.verifier.specs.Effects.{Effect}
use Rattle.verifier.specs.declared.types.Flaw.{Flaw}
use Rattle.verifier.specs.declared.types.Flaw.TheVariants.{WriteR10, NotANumber, UnsetBytes, StorePointer}
use Rattle.verifier.specs.Rules.{type_at, is_numeric, is_unset, is_pointer, operand_type, alu_type, unmarked, put_type, set_type, natural, lowest, number_at}
use Rattle.verifier.specs.Rules.{number_set, all_in, load_type, spilled_type, spill_in, reload_type, loaded_type, marks, store_type, stores_pointer, stores_if_pointer}
use Rattle.verifier.specs.Rules.{after_call, effect}
use Rattle.verifier.specs.Facts.{FitsType, HasByte, Covered, FitsSpill, Fits, Changes, HasAfter, IsAfter}
use Rattle.verifier.specs.Inference.{option_cons, successor_units}
use Rattle.verifier.proofs.Values.{Gives, arithmetic}
use Rattle.verifier.proofs.Stack.{covered_load, keeps_bytes, sets_bytes, length-written, length-little, store_inside, size_small}
use Rattle.verifier.proofs.Calls.{Changes-refl, called}
use Rattle.verifier.proofs.Keeping.{IsPointer, pieces_other, length-pieces, no_number, pointer_of, pointer_set, aligned, kept_after_bytes, kept_after_pointer}
use Rattle.verifier.proofs.Keeping.{outside}

abbrev pub IsIn : ℕ → List ℕ → Type 0
IsIn x [] = ⊥
IsIn x (y ∷ ys) = (x ≡ y) ⊎ IsIn x ys

-- The step leads to one of the units `tos`, in a state that fits the fact `after`, or it ends the run. Only declared
-- counters change.
abbrev pub Follows : ℕ → Fact → List ℕ → State → Next → Type 0
Follows declared after tos s (Continues t) = IsIn t.pc tos × Fits after t × Changes declared s.counters t.counters
Follows declared after tos s (Exits r counters) = counters ≡ s.counters
Follows declared after tos s Stuck = ⊥

abbrev Effects : Type 0
Effects = Result Effect Flaw

abbrev ok_of : Effect → Effects
ok_of e = Ok e

abbrev typed_as : RegType → Result RegType Flaw
typed_as t = Ok t

same_effect : {x y : Effect} → ok_of x ≡ ok_of y → x ≡ y
same_effect e = cc

write_test : (b : Bool) (r : Effects) (e : Effect) → cond b (Err WriteR10) r ≡ ok_of e → (b ≡ false) × (r ≡ ok_of e)
write_test true r e h = absurd (cc)
write_test false r e h = (refl, h)

put_is : (types : List RegType) (dst : ℕ) (r : Result RegType Flaw) (e : Effect) → put_type types dst r ≡ ok_of e
    → (t : RegType) × (r ≡ typed_as t) × (unmarked (slice_set types dst t) ≡ e)
put_is types dst (Err f) e h = absurd (cc)
put_is types dst (Ok t) e h = (t, refl, same_effect h)

pub set_is : (types : List RegType) (dst : ℕ) (r : Result RegType Flaw) (e : Effect) → set_type types dst r ≡ ok_of e
    → (t : RegType) × (r ≡ typed_as t) × ((dst == 10) ≡ false) × (unmarked (slice_set types dst t) ≡ e)
set_is types dst r e h =
    let x = write_test (dst == 10) (put_type types dst r) e h in
    let y = put_is types dst r e x.1 in
    (y.0, y.1, x.0, y.2)

-- ---- if a value fits a type, and a register gets this value and this type, the register's value fits its type

written_type : (types : List RegType) (dst : ℕ) (t : RegType) (v : Value) → FitsType t v → FitsType (type_at (slice_set types dst t) dst) v
written_type [] dst t v h = tt
written_type (x ∷ xs) zero t v h = h
written_type (x ∷ xs) (suc n) t v h = written_type xs n t v h

written_value : (vs : List Value) (dst : ℕ) (v : Value) → dst < length vs → register (slice_set vs dst v) dst ≡ v
written_value [] dst v lt = absurd (omega arith)
written_value (x ∷ xs) zero v lt = refl
written_value (x ∷ xs) (suc n) v lt = written_value xs n v (omega arith)

same_or_other : (r q : ℕ) → (r ≡ q) ⊎ (r ≢ q)
same_or_other r q = elim (cases_lt r q) [ inl l ↦ inr (omega arith) | inr g ↦ elim (cases_lt q r) [ inl l ↦ inr (omega arith) | inr h ↦ inl (omega arith) ] ]

-- ---- a value that fits a number's type is a number, and an accepted comparison or exit has passed its tests

abbrev HasNumber : Value → Type 0
HasNumber v = (n : ℕ) × (v ≡ Number n)

pub numeric : (t : RegType) (v : Value) → FitsType t v → is_numeric t ≡ true → HasNumber v
numeric Num (Number n) h e = (n, refl)
numeric (Const c) (Number n) h e = (n, refl)
numeric Anything v h e = absurd (cc)
numeric (Ctx k) v h e = absurd (cc)
numeric (Stk k) v h e = absurd (cc)
numeric Num Unset h e = absurd h
numeric Num (Context n) h e = absurd h
numeric Num (Stack n) h e = absurd h
numeric (Const c) Unset h e = absurd h
numeric (Const c) (Context n) h e = absurd h
numeric (Const c) (Stack n) h e = absurd h

compare_test : (a b : Bool) (x y : Flaw) (r e : Effect) → cond a (cond b (ok_of r) (Err y)) (Err x) ≡ ok_of e → (a ≡ true) × (b ≡ true) × (r ≡ e)
compare_test true true x y r e h = (refl, refl, same_effect h)
compare_test true false x y r e h = absurd (cc)
compare_test false b x y r e h = absurd (cc)

exit_test : (a : Bool) (x : Flaw) (r e : Effect) → cond a (ok_of r) (Err x) ≡ ok_of e → a ≡ true
exit_test true x r e h = refl
exit_test false x r e h = absurd (cc)

-- ---- these lemmas give the place, the type or the effect of an accepted load or store

set_test : (b : Bool) (t : RegType) → cond b (typed_as Num) (Err UnsetBytes) ≡ typed_as t → (b ≡ true) × (Num ≡ t)
set_test true t h = (refl, cc)
set_test false t h = absurd (cc)

mark_is : (types : List RegType) (size : ℕ) (o : Option ℕ) (e : Effect) → marks types size o ≡ ok_of e → (at : ℕ) × (o ≡ Some at) × (record {
  types = types;
  at = at;
  len = size;
  spilled = Anything;
} ≡ e)
mark_is types size None e h = absurd (cc)
mark_is types size (Some at) e h = (at, refl, same_effect h)

-- Let x be the effect of a store of a number, and e the effect of a store of a value of type `value` to the same place.
-- If the value isn't a pointer, e is x. If it is a pointer, then the place can hold a pointer (it is eight bytes at a
-- multiple of eight), and e is x with `value` as the type of the spilled pointer.
abbrev StoresPointerOrNot : RegType → Bool → Effect → Effect → Type 0
StoresPointerOrNot value pointer x e = ((pointer ≡ false) × (x ≡ e)) ⊎ ((pointer ≡ true) × (is_aligned x.len x.at ≡ true) × (record x { spilled = value } ≡ e))

keeps_test : (b : Bool) (x e : Effect) → cond b (ok_of x) (Err StorePointer) ≡ ok_of e → (b ≡ true) × (x ≡ e)
keeps_test true x e h = (refl, same_effect h)
keeps_test false x e h = absurd (cc)

by_pointer : (pointer : Bool) (value : RegType) (x e : Effect) → cond pointer (stores_pointer value x) (ok_of x) ≡ ok_of e → StoresPointerOrNot value pointer x e
by_pointer false value x e h = inl (refl, same_effect h)
by_pointer true value x e h = let t = keeps_test (is_aligned x.len x.at) (record x { spilled = value }) e h in inr (refl, t.0, t.1)

pointer_is : (value : RegType) (r : Effects) (e : Effect) → stores_if_pointer value r ≡ ok_of e
    → (x : Effect) × (r ≡ ok_of x) × StoresPointerOrNot value (is_pointer value) x e
pointer_is value (Err f) e h = absurd (cc)
pointer_is value (Ok x) e h = (x, refl, by_pointer (is_pointer value) value x e h)

-- a load gives either the type that `load_type` gives, or the type of the spilled pointer
kept_cases : (k : RegType) (b : Bool) (r : Result RegType Flaw) (t : RegType) → is_unset k ≡ b → cond b r (typed_as k) ≡ typed_as t
    → ((b ≡ true) × (r ≡ typed_as t)) ⊎ ((is_unset k ≡ false) × (typed_as k ≡ typed_as t))
kept_cases k true r t u h = inl (refl, h)
kept_cases k false r t u h = inr (u, h)

unset_test : (b : Bool) (f : Flaw) (r : Effects) (e : Effect) → cond b (Err f) r ≡ ok_of e → (b ≡ false) × (r ≡ ok_of e)
unset_test true f r e h = absurd (cc)
unset_test false f r e h = (refl, h)

pub neither : (t : RegType) → is_unset t ≡ false → is_pointer t ≡ false → is_numeric t ≡ true
neither Num a b = refl
neither (Const c) a b = refl
neither Anything a b = absurd (cc)
neither (Ctx k) a b = absurd (cc)
neither (Stk k) a b = absurd (cc)

-- if a store is well typed, then `stack_at` gives its place in the stack, and its effect writes `size` bytes there
pub store_is : (types : List RegType) (base : RegType) (v : Value) (i : Inst) (size : ℕ) (e : Effect) → FitsType base v → store_type types base i size ≡ ok_of e
    → (at : ℕ) × (stack_at v i.offset size ≡ Some at) × (record { types = types; at = at; len = size; spilled = Anything } ≡ e)
store_is types (Stk k) (Stack n) i size e h g =
    let x = mark_is types size (shifted (lowest k) i.offset (512 - size)) e g in
    let there : lowest k ≡ n = ap natural (sym h) in
    (x.0, ap (λ m. shifted m i.offset (512 - size)) (sym there) ∙ x.1, x.2)
store_is types Anything v i size e h g = absurd (cc)
store_is types Num v i size e h g = absurd (cc)
store_is types (Const c) v i size e h g = absurd (cc)
store_is types (Ctx k) v i size e h g = absurd (cc)
store_is types (Stk k) Unset i size e h g = absurd h
store_is types (Stk k) (Number n) i size e h g = absurd h
store_is types (Stk k) (Context n) i size e h g = absurd h

abbrev marked_by : List RegType → ℕ → ℕ → Effect
marked_by types at len = record { types = types; at = at; len = len; spilled = Anything }

-- if the registers fit their types before a call, then they fit them after it: R0 is a number, R1 to R5 are unset, and
-- R6 to R10 are as before
called_fits : (types : List RegType) (values : List Value) (n r : ℕ) → ((q : ℕ) → FitsType (type_at types q) (register values q))
    → FitsType (type_at (after_call types) r) (register (Number n ∷ Unset ∷ Unset ∷ Unset ∷ Unset ∷ Unset ∷ drop 6 values) r)
called_fits types values n zero h = tt
called_fits types values n (suc zero) h = tt
called_fits types values n (suc (suc zero)) h = tt
called_fits types values n (suc (suc (suc zero))) h = tt
called_fits types values n (suc (suc (suc (suc zero)))) h = tt
called_fits types values n (suc (suc (suc (suc (suc zero))))) h = tt
called_fits types values n (suc (suc (suc (suc (suc (suc r)))))) h =
    subst (λ t. FitsType t (register (drop 6 values) r)) (sym (get_or-drop 6 types r Anything))
    (subst (FitsType (type_at types (6 + r))) (sym (get_or-drop 6 values r Unset)) (h (6 + r)))

module _ (options : LoadOptions) (fact after : Fact) (s : State) (fits : Fits fact s) where
  after_types : (e x : Effect) → IsAfter fact e after → x ≡ e → after.types ≡ x.types
  after_types e x h same = h.types ∙ ap (λ y. y.types) (sym same)

  as_effect : (e x : Effect) → IsAfter fact e after → x ≡ e → IsAfter fact x after
  as_effect e x is same = subst (λ y. IsAfter fact y after) (sym same) is

  stays : (e : Effect) (types : List RegType) → IsAfter fact e after → unmarked types ≡ e → Covered after.stack s.stack
  stays e types h same =
      let is = as_effect e (unmarked types) h same in
      record { bytes = λ p has. elim ((is.places p).0 has) [ inl old ↦ fits.stack.bytes p old | inr w ↦ absurd (omega (arith, w.0, w.1)) ] }

  spills_stay : (e : Effect) (types : List RegType) → IsAfter fact e after → unmarked types ≡ e → (k : ℕ)
      → FitsSpill (spilled_type (slice_index after.spills k)) s.stack (8 * k)
  spills_stay e types h same =
      let is = as_effect e (unmarked types) h same in kept_after_bytes fact.spills after.spills s.stack 0 [] is.spills fits.spills

  fits_written : (e : Effect) (dst : ℕ) (t : RegType) (v : Value) (pc : ℕ) → IsAfter fact e after → unmarked (slice_set fact.types dst t) ≡ e → dst ≤ 10
      → FitsType t v → Fits after (record s { pc = pc; registers = slice_set s.registers dst v })
  fits_written e dst t v pc is same small h =
      let types = fact.types in
      let lt : dst < length s.registers = omega (arith, fits.many) in
      record {
        registers =
            λ r. subst (λ ts. FitsType (type_at ts r) (register (slice_set s.registers dst v) r))
            (sym (after_types e (unmarked (slice_set types dst t)) is same))
            (elim (same_or_other r dst) [
              | inl at ↦ subst (λ q. FitsType (type_at (slice_set types dst t) q) (register (slice_set s.registers dst v) q)) (sym at)
                  (subst (FitsType (type_at (slice_set types dst t) dst)) (sym (written_value s.registers dst v lt)) (written_type types dst t v h))
              | inr other ↦ subst (λ w. FitsType (type_at (slice_set types dst t) r) w) (sym (get_or-set_other s.registers dst r v Unset other))
                  (subst (λ u. FitsType u (register s.registers r)) (sym (get_or-set_other types dst r t Anything other)) (fits.registers r))
            ]);
        many = length-set s.registers dst v ∙ fits.many;
        stack = stays e (slice_set types dst t) is same;
        long = fits.long;
        spills = spills_stay e (slice_set types dst t) is same;
      }

  fits_moved : (e : Effect) (pc : ℕ) → IsAfter fact e after → unmarked fact.types ≡ e → Fits after (record s { pc = pc })
  fits_moved e pc is same =
      record {
        registers = λ r. subst (λ ts. FitsType (type_at ts r) (register s.registers r)) (sym (after_types e (unmarked fact.types) is same)) (fits.registers r);
        many = fits.many;
        stack = stays e fact.types is same;
        long = fits.long;
        spills = spills_stay e fact.types is same;
      }

  sets_follow : (e : Effect) (dst : ℕ) (r : Result RegType Flaw) (o : Option Value) → IsAfter fact e after → dst ≤ 10 → set_type fact.types dst r ≡ ok_of e
      → ((t : RegType) → r ≡ typed_as t → Gives o t) → Follows options.mask after ((s.pc + 1) ∷ []) s (or_stuck o (λ v. sets s dst v))
  sets_follow e dst r None is small h g = let x = set_is fact.types dst r e h in absurd (g x.0 x.1)
  sets_follow e dst r (Some v) is small h g =
      let x = set_is fact.types dst r e h in
      let fit = fits_written e dst x.0 v (s.pc + 1) is x.3 small (g x.0 x.1) in
      subst (λ b. Follows options.mask after ((s.pc + 1) ∷ []) s (cond b Stuck (Continues (record s { pc = s.pc + 1; registers = slice_set s.registers dst v }))))
      (sym x.2)
      (inl refl, fit, Changes-refl options.mask s.counters)

  wide_follows : (e : Effect) (dst n : ℕ) → IsAfter fact e after → dst ≤ 10 → set_type fact.types dst (Ok (Const n)) ≡ ok_of e
      → Follows options.mask after ((s.pc + 2) ∷ []) s
      (cond (dst == 10) Stuck (Continues (record s { pc = s.pc + 2; registers = slice_set s.registers dst (Number n) })))
  wide_follows e dst n is small h =
      let x = write_test (dst == 10) (put_type fact.types dst (Ok (Const n))) e h in
      let fit = fits_written e dst (Const n) (Number n) (s.pc + 2) is (same_effect x.1) small refl in
      subst (λ b. Follows options.mask after ((s.pc + 2) ∷ []) s
      (cond b Stuck (Continues (record s { pc = s.pc + 2; registers = slice_set s.registers dst (Number n) })))) (sym x.0)
      (inl refl, fit, Changes-refl options.mask s.counters)

  operand_fits : (source : Source) (w : Width) (i : Inst) → FitsType (operand_type source w i fact.types) (operand source w i s.registers)
  operand_fits Immediate w i = refl
  operand_fits Register w i = fits.registers i.src

  -- ---- a well typed load leads to the next unit, in a state that fits the fact after the load

  context_is : (o : Option ℕ) (t : RegType) → number_at o ≡ typed_as t → (at : ℕ) × (o ≡ Some at) × (Num ≡ t)
  context_is None t e = absurd (cc)
  context_is (Some at) t e = (at, refl, cc)

  stack_is : (size : ℕ) (o : Option ℕ) (t : RegType) → number_set fact.stack size o ≡ typed_as t
      → (at : ℕ) × (o ≡ Some at) × (all_in fact.stack at size ≡ true) × (Num ≡ t)
  stack_is size None t e = absurd (cc)
  stack_is size (Some at) t e = let x = set_test (all_in fact.stack at size) t e in (at, refl, x.0, x.1)

  load_gives : (context : List ℕ) → length context ≡ context_len options.layout → (a : RegType) (v : Value) (i : Inst) (size : ℕ) (t : RegType) → FitsType a v
      → load_type options.layout fact.stack a i size ≡ typed_as t → (n : ℕ) × (at : Place) × (mem (length context) v i.offset size ≡ Some at)
      × (read at size context s.stack ≡ Some n) × (Num ≡ t)
  load_gives context long (Ctx k) (Context n) i size t h e =
      let x = context_is (shifted k i.offset (context_len options.layout - size)) t e in
      let here = ap (λ m. map_option InContext (shifted m i.offset (length context - size))) h in
      let room = ap (λ l. map_option InContext (shifted k i.offset (l - size))) long in
      (_, InContext x.0, here ∙ room ∙ ap (map_option InContext) x.1, refl, x.2)
  load_gives context long (Stk k) (Stack n) i size t h e =
      let x = stack_is size (shifted (lowest k) i.offset (512 - size)) t e in
      let there : lowest k ≡ n = ap natural (sym h) in
      let got = covered_load fact.stack s.stack x.0 size fits.stack x.2 in
      (got.0, InStack x.0, ap (λ m. map_option InStack (shifted m i.offset (512 - size))) (sym there) ∙ ap (map_option InStack) x.1, got.1, x.3)
  load_gives context long Anything v i size t h e = absurd (cc)
  load_gives context long Num v i size t h e = absurd (cc)
  load_gives context long (Const c) v i size t h e = absurd (cc)
  load_gives context long (Ctx k) Unset i size t h e = absurd h
  load_gives context long (Ctx k) (Number n) i size t h e = absurd h
  load_gives context long (Ctx k) (Stack n) i size t h e = absurd h
  load_gives context long (Stk k) Unset i size t h e = absurd h
  load_gives context long (Stk k) (Number n) i size t h e = absurd h
  load_gives context long (Stk k) (Context n) i size t h e = absurd h

  same_type : (x y : RegType) → typed_as x ≡ typed_as y → x ≡ y
  same_type x y e = cc

  loads_follow : (context : List ℕ) → length context ≡ context_len options.layout → (f : ℕ → ℕ) (i : Inst) (size : ℕ) (e : Effect) → IsAfter fact e after
      → i.dst ≤ 10 → set_type fact.types i.dst (load_type options.layout fact.stack (type_at fact.types i.src) i size) ≡ ok_of e
      → Follows options.mask after ((s.pc + 1) ∷ []) s (or_stuck (mem (length context) (register s.registers i.src) i.offset size)
      (λ at. or_stuck (read at size context s.stack) (λ n. sets s i.dst (Number (f n)))))
  loads_follow context long f i size e is small h =
      let r = load_type options.layout fact.stack (type_at fact.types i.src) i size in
      let x = set_is fact.types i.dst r e h in
      let g = load_gives context long (type_at fact.types i.src) (register s.registers i.src) i size x.0 (fits.registers i.src) x.1 in
      subst (λ o. Follows options.mask after ((s.pc + 1) ∷ []) s (or_stuck o
      (λ at. or_stuck (read at size context s.stack) (λ n. sets s i.dst (Number (f n)))))) (sym g.2)
      (subst (λ o. Follows options.mask after ((s.pc + 1) ∷ []) s (or_stuck o (λ n. sets s i.dst (Number (f n))))) (sym g.3)
      (sets_follow e i.dst r (Some (Number (f g.0))) is small h (λ t k. subst (λ u. FitsType u (Number (f g.0))) (g.4 ∙ same_type x.0 t (sym x.1 ∙ k)) tt)))

  -- if `fact` has a spill (a pointer's type as a number) for the `size` bytes from `at` on, then these bytes are an
  -- aligned place, and the stack holds a pointer that fits this type there
  spill_test : (size at : ℕ) (b : Bool) → is_aligned size at ≡ b → is_unset (cond b (spilled_type (slice_index fact.spills (at / 8))) Anything) ≡ false
      → (w : Value) × (is_aligned size at ≡ true) × (pointer_at s.stack at ≡ Some w) × FitsType (cond b (spilled_type (slice_index fact.spills (at / 8))) Anything) w
  spill_test size at true a u =
      let h = aligned size at a in
      let place : 8 * (at / 8) ≡ at = omega (arith, h.1) in
      let x = fits.spills (at / 8) u in
      (x.0, a, ap (pointer_at s.stack) (sym place) ∙ x.2, x.1)
  spill_test size at false a u = absurd (cc)

  spill_gives : (size : ℕ) (o : Option ℕ) → is_unset (spill_in fact.spills size o) ≡ false → (at : ℕ) × (w : Value) × (o ≡ Some at) × (is_aligned size at ≡ true)
      × (pointer_at s.stack at ≡ Some w) × FitsType (spill_in fact.spills size o) w
  spill_gives size None u = absurd (cc)
  spill_gives size (Some at) u = let x = spill_test size at (is_aligned size at) refl u in (at, x.0, refl, x.1, x.2, x.3)

  number_none : (size at : ℕ) (w : Value) → is_aligned size at ≡ true → pointer_at s.stack at ≡ Some w → number_in s.stack at size ≡ None
  number_none size at w a e =
      let h = aligned size at a in
      ap (number_in s.stack at) h.0 ∙ no_number (cell_at s.stack at) s.stack at w (number_in s.stack (suc at) 7) e

  -- if a load reads the eight bytes of an aligned place for which `fact` has a spill, then it reads the pointer that is
  -- stored there, and this pointer fits the spill's type
  kept_gives : (context : List ℕ) (a : RegType) (v : Value) (i : Inst) (size : ℕ) → FitsType a v → is_unset (reload_type fact.spills a i size) ≡ false
      → (at : Place) × (w : Value) × (mem (length context) v i.offset size ≡ Some at) × (loaded at size context s.stack ≡ Some w)
      × FitsType (reload_type fact.spills a i size) w
  kept_gives context (Stk k) (Stack n) i size h u =
      let x = spill_gives size (shifted (lowest k) i.offset (512 - size)) u in
      let there : lowest k ≡ n = ap natural (sym h) in
      let spilled : pointer_in (InStack x.0) size s.stack ≡ Some x.1 = ap (λ b. cond b (pointer_at s.stack x.0) None) x.3 ∙ x.4 in (
        InStack x.0,
        x.1,
        ap (λ m. map_option InStack (shifted m i.offset (512 - size))) (sym there) ∙ ap (map_option InStack) x.2,
        ap (λ o. number_or o (pointer_in (InStack x.0) size s.stack)) (number_none size x.0 x.1 x.3 x.4) ∙ spilled,
        x.5,
      )
  kept_gives context Anything v i size h u = absurd (cc)
  kept_gives context Num v i size h u = absurd (cc)
  kept_gives context (Const c) v i size h u = absurd (cc)
  kept_gives context (Ctx k) v i size h u = absurd (cc)
  kept_gives context (Stk k) Unset i size h u = absurd h
  kept_gives context (Stk k) (Number n) i size h u = absurd h
  kept_gives context (Stk k) (Context n) i size h u = absurd h

  loaded_follow : (context : List ℕ) → length context ≡ context_len options.layout → (i : Inst) (size : ℕ) (e : Effect) → IsAfter fact e after → i.dst ≤ 10
      → set_type fact.types i.dst (loaded_type options.layout fact.stack fact.spills (type_at fact.types i.src) i size) ≡ ok_of e
      → Follows options.mask after ((s.pc + 1) ∷ []) s (or_stuck (mem (length context) (register s.registers i.src) i.offset size)
      (λ at. or_stuck (loaded at size context s.stack) (λ v. sets s i.dst v)))
  loaded_follow context long i size e is small h =
      let base = type_at fact.types i.src in
      let value = register s.registers i.src in
      let spilled = reload_type fact.spills base i size in
      let r = loaded_type options.layout fact.stack fact.spills base i size in
      let x = set_is fact.types i.dst r e h in
      elim (kept_cases spilled (is_unset spilled) (load_type options.layout fact.stack base i size) x.0 refl x.1) [
        | inl number ↦
            let g = load_gives context long base value i size x.0 (fits.registers i.src) number.1 in
            let got : loaded g.1 size context s.stack ≡ Some (Number g.0) = ap (λ o. number_or o (pointer_in g.1 size s.stack)) g.3 in
            subst (λ o. Follows options.mask after ((s.pc + 1) ∷ []) s (or_stuck o (λ at. or_stuck (loaded at size context s.stack) (λ v. sets s i.dst v))))
            (sym g.2)
            (subst (λ o. Follows options.mask after ((s.pc + 1) ∷ []) s (or_stuck o (λ v. sets s i.dst v))) (sym got)
            (sets_follow e i.dst r (Some (Number g.0)) is small h (λ t k. subst (λ u. FitsType u (Number g.0)) (g.4 ∙ same_type x.0 t (sym x.1 ∙ k)) tt)))
        | inr pointer ↦
            let g = kept_gives context base value i size (fits.registers i.src) pointer.0 in
            subst (λ o. Follows options.mask after ((s.pc + 1) ∷ []) s (or_stuck o (λ at. or_stuck (loaded at size context s.stack) (λ v. sets s i.dst v))))
            (sym g.2)
            (subst (λ o. Follows options.mask after ((s.pc + 1) ∷ []) s (or_stuck o (λ v. sets s i.dst v))) (sym g.3)
            (sets_follow e i.dst r (Some g.1) is small h (λ t k. subst (λ u. FitsType u g.1) (same_type spilled t (pointer.1 ∙ sym x.1 ∙ k)) g.4)))
      ]

  -- ---- a well typed store leads to the next unit, in a state that fits the fact after the store

  fits_stored : (e : Effect) (at : ℕ) (bytes : List ℕ) (pc : ℕ) → IsAfter fact e after → marked_by fact.types at (length bytes) ≡ e → at + length bytes ≤ 512
      → Fits after (record s { pc = pc; stack = written s.stack at bytes })
  fits_stored e at bytes pc is same inside =
      let now = as_effect e (marked_by fact.types at (length bytes)) is same in
      record {
        registers = λ r. subst (λ ts. FitsType (type_at ts r) (register s.registers r)) (sym now.types) (fits.registers r);
        many = fits.many;
        stack =
            record {
              bytes =
                  λ p has. elim ((now.places p).0 has) [
                    | inl old ↦ keeps_bytes s.stack at bytes p (omega (arith, fits.long)) (fits.stack.bytes p old)
                    | inr new ↦ sets_bytes s.stack at bytes p (omega (arith, fits.long)) new
                  ];
            };
        long = length-written s.stack at bytes ∙ fits.long;
        spills = kept_after_bytes fact.spills after.spills s.stack at bytes now.spills fits.spills;
      }

  abbrev keeping : RegType → Effect → Effect
  keeping t x = record x { spilled = t }

  abbrev kept_by : ℕ → RegType → Effect
  kept_by at t = record { types = fact.types; at = at; len = 8; spilled = t }

  fits_kept : (e : Effect) (at : ℕ) (t : RegType) (v : Value) (pc : ℕ) → IsAfter fact e after → kept_by at t ≡ e → at % 8 ≡ 0 → at + 8 ≤ 512
      → is_pointer t ≡ true → FitsType t v → Fits after (record s { pc = pc; stack = pieces_written s.stack at v 0 8 })
  fits_kept e at t v pc is same multiple inside pointer f =
      let now = as_effect e (kept_by at t) is same in
      record {
        registers = λ r. subst (λ ts. FitsType (type_at ts r) (register s.registers r)) (sym now.types) (fits.registers r);
        many = fits.many;
        stack =
            record {
              bytes =
                  λ p has. let old = subst (λ b. HasAfter b fact.stack at 8 p) (pointer_set t pointer) ((now.places p).0 has) in
                  subst HasByte (sym (pieces_other s.stack at v 0 8 p (outside at 8 p old.1))) (fits.stack.bytes p old.0);
            };
        long = length-pieces s.stack at v 0 8 ∙ fits.long;
        spills = kept_after_pointer fact.spills after.spills s.stack at t v now.spills multiple (omega (arith, inside, fits.long))
            (pointer_of t v f pointer) f fits.spills;
      }

  stored_pointer : (i : Inst) (size : ℕ) (v : Value) → IsPointer v → stores_value s i size v ≡ keeps_value s i size v
  stored_pointer i size (Context k) p = refl
  stored_pointer i size (Stack k) p = refl
  stored_pointer i size Unset p = absurd p
  stored_pointer i size (Number n) p = absurd p

  -- a well typed store of a pointer into an aligned place of eight bytes leads to the next unit, in a state that fits
  -- the fact after the store
  keeps_follow : (i : Inst) (size : ℕ) (x e : Effect) (t : RegType) (v : Value) → IsAfter fact e after → size ≤ 8
      → store_type fact.types (type_at fact.types i.dst) i size ≡ ok_of x → is_aligned x.len x.at ≡ true → record x { spilled = t } ≡ e → is_pointer t ≡ true
      → FitsType t v → Follows options.mask after ((s.pc + 1) ∷ []) s (stores_value s i size v)
  keeps_follow i size x e t v is small h whole same pointer f =
      let y = store_is fact.types (type_at fact.types i.dst) (register s.registers i.dst) i size x (fits.registers i.dst) h in
      let inside : y.0 + size ≤ 512 = store_inside (register s.registers i.dst) i size y.0 small y.1 in
      let aligned_here : is_aligned size y.0 ≡ true = subst (λ z. is_aligned z.len z.at ≡ true) (sym y.2) whole in
      let parts = aligned size y.0 aligned_here in
      let effect_is : kept_by y.0 t ≡ e = ap (λ n. keeping t (marked_by fact.types y.0 n)) (sym parts.0) ∙ ap (keeping t) y.2 ∙ same in
      let place : aligned_place size (stack_at (register s.registers i.dst) i.offset size) ≡ Some y.0 =
      ap (aligned_place size) y.1 ∙ ap (λ b. cond b (Some y.0) None) aligned_here in
      subst (Follows options.mask after ((s.pc + 1) ∷ []) s) (sym (stored_pointer i size v (pointer_of t v f pointer)))
      (subst (λ o. Follows options.mask after ((s.pc + 1) ∷ []) s (or_stuck o
      (λ at. Continues (record s { pc = s.pc + 1; stack = pieces_written s.stack at v 0 8 })))) (sym place)
      (inl refl, fits_kept e y.0 t v (s.pc + 1) is effect_is parts.1 (omega (arith, inside, parts.0)) pointer f, Changes-refl options.mask s.counters))

  stores_follow : (i : Inst) (size n : ℕ) (e : Effect) → IsAfter fact e after → size ≤ 8 → store_type fact.types (type_at fact.types i.dst) i size ≡ ok_of e
      → Follows options.mask after ((s.pc + 1) ∷ []) s (stores s i size n)
  stores_follow i size n e is small h =
      let x = store_is fact.types (type_at fact.types i.dst) (register s.registers i.dst) i size e (fits.registers i.dst) h in
      let long = length-little 0 size n in
      let inside : x.0 + size ≤ 512 = store_inside (register s.registers i.dst) i size x.0 small x.1 in
      let same : marked_by fact.types x.0 (length (little_bytes size n)) ≡ e = ap (λ l. marked_by fact.types x.0 l) long ∙ x.2 in
      subst (λ o. Follows options.mask after ((s.pc + 1) ∷ []) s (or_stuck o
      (λ at. Continues (record s { pc = s.pc + 1; stack = written s.stack at (little_bytes size n) })))) (sym x.1)
      (inl refl, fits_stored e x.0 (little_bytes size n) (s.pc + 1) is same (omega (arith, long, inside)), Changes-refl options.mask s.counters)

  -- ---- a jump, taken or not, leads to one of its successor units, in a state that fits the fact after the jump

  cons_is : (o : Option ℕ) (rest tos : List ℕ) → option_cons o rest ≡ Some tos → (to : ℕ) × (o ≡ Some to) × ((to ∷ rest) ≡ tos)
  cons_is None rest tos e = absurd (cc)
  cons_is (Some to) rest tos e = (to, refl, cc)

  jumps_follow : (e : Effect) (z : ℤ) (rest tos : List ℕ) → IsAfter fact e after → unmarked fact.types ≡ e
      → option_cons (shifted (s.pc + 1) z 512) rest ≡ Some tos → Follows options.mask after tos s (jumps s z)
  jumps_follow e z rest tos is same h =
      let x = cons_is (shifted (s.pc + 1) z 512) rest tos h in
      subst (λ o. Follows options.mask after tos s (or_stuck o (λ to. Continues (record s { pc = to })))) (sym x.1)
      (subst (IsIn x.0) x.2 (inl refl), fits_moved e x.0 is same, Changes-refl options.mask s.counters)

  falls_through : (e : Effect) (z : ℤ) (tos : List ℕ) → IsAfter fact e after → unmarked fact.types ≡ e
      → option_cons (shifted (s.pc + 1) z 512) ((s.pc + 1) ∷ []) ≡ Some tos → Follows options.mask after tos s (Continues (record s { pc = s.pc + 1 }))
  falls_through e z tos is same h =
      let x = cons_is (shifted (s.pc + 1) z 512) ((s.pc + 1) ∷ []) tos h in
      (subst (IsIn (s.pc + 1)) x.2 (inr (inl refl)), fits_moved e (s.pc + 1) is same, Changes-refl options.mask s.counters)

  branches_follow : (b : Bool) (e : Effect) (z : ℤ) (tos : List ℕ) → IsAfter fact e after → unmarked fact.types ≡ e
      → option_cons (shifted (s.pc + 1) z 512) ((s.pc + 1) ∷ []) ≡ Some tos → Follows options.mask after tos s (branches s b z)
  branches_follow true e z tos is same h = jumps_follow e z ((s.pc + 1) ∷ []) tos is same h
  branches_follow false e z tos is same h = falls_through e z tos is same h

  some_list : (x y : List ℕ) → Some x ≡ Some y → x ≡ y
  some_list x y e = cc

  -- ---- the state after a well typed call fits the fact after the call

  call_fits : (e : Effect) → IsAfter fact e after → (a : HelperResult) (at : ℕ) (bytes : List ℕ) → marked_by (after_call fact.types) at (length bytes) ≡ e
      → a.stack ≡ written s.stack at bytes → at + length bytes ≤ 512
      → Fits after (record s {
        pc = s.pc + 1;
        registers = Number a.value ∷ Unset ∷ Unset ∷ Unset ∷ Unset ∷ Unset ∷ drop 6 s.registers;
        stack = a.stack;
        counters = a.counters;
      })
  call_fits e is a at bytes same stack inside =
      let long = length-drop 6 s.registers in
      let now = as_effect e (marked_by (after_call fact.types) at (length bytes)) is same in
      record {
        registers = λ r. subst (λ ts. FitsType (type_at ts r) (register (Number a.value ∷ Unset ∷ Unset ∷ Unset ∷ Unset ∷ Unset ∷ drop 6 s.registers) r))
            (sym now.types) (called_fits fact.types s.registers a.value r fits.registers);
        many = omega (arith, long, fits.many);
        stack =
            record {
              bytes =
                  λ p has. subst (λ st. HasByte (cell_at st p)) (sym stack) (elim ((now.places p).0 has) [
                    | inl old ↦ keeps_bytes s.stack at bytes p (omega (arith, fits.long)) (fits.stack.bytes p old)
                    | inr new ↦ sets_bytes s.stack at bytes p (omega (arith, fits.long)) new
                  ]);
            };
        long = ap length stack ∙ length-written s.stack at bytes ∙ fits.long;
        spills = λ k. subst (λ st. FitsSpill (spilled_type (slice_index after.spills k)) st (8 * k)) (sym stack)
            (kept_after_bytes fact.spills after.spills s.stack at bytes now.spills fits.spills k);
      }

  -- a well typed instruction leads to one of its successor units, in a state that fits the fact after it, or it ends
  -- the run
  pub step_follows : (context : List ℕ) → length context ≡ context_len options.layout
      → (view : View) (i : Inst) (upper : ℤ) (form : Form) (e : Effect) (tos : List ℕ) → i.dst ≤ 10 → IsAfter fact e after
      → effect options fact i upper form ≡ ok_of e → successor_units s.pc i form ≡ Some tos → Follows options.mask after tos s (form_step options.mask context view s i upper form)
  step_follows context long view i upper (Arithmetic op w source) e tos small is h l =
      subst (λ ts. Follows options.mask after ts s (form_step options.mask context view s i upper (Arithmetic op w source))) (some_list _ tos l)
      (sets_follow e i.dst (alu_type options.layout op w source i (type_at fact.types i.dst) (operand_type source w i fact.types))
      (alu_value (length context) op w source i (register s.registers i.dst) (operand source w i s.registers)) is small h
      (λ t g. arithmetic options.layout (length context) long op w source i s.registers (type_at fact.types i.dst) (operand_type source w i fact.types)
      (register s.registers i.dst) t (fits.registers i.dst) (operand_fits source w i) g))
  step_follows context long view i upper Wide e tos small is h l =
      subst (λ ts. Follows options.mask after ts s (form_step options.mask context view s i upper Wide)) (some_list _ tos l)
      (wide_follows e i.dst (cast_unsigned w32 upper * 2 ^ 32 + cast_unsigned w32 i.imm) is small h)
  step_follows context long view i upper (Load size) e tos small is h l =
      subst (λ ts. Follows options.mask after ts s (form_step options.mask context view s i upper (Load size))) (some_list _ tos l)
      (loaded_follow context long i (bytes_in size) e is small h)
  step_follows context long view i upper (LoadSigned size) e tos small is h l =
      subst (λ ts. Follows options.mask after ts s (form_step options.mask context view s i upper (LoadSigned size))) (some_list _ tos l)
      (loads_follow context long (λ n. cast_unsigned w64 (extended (8 * bytes_in size) n)) i (bytes_in size) e is small h)
  step_follows context long view i upper (StoreImmediate size) e tos small is h l =
      subst (λ ts. Follows options.mask after ts s (form_step options.mask context view s i upper (StoreImmediate size))) (some_list _ tos l)
      (stores_follow i (bytes_in size) (cast_unsigned w64 i.imm) e is (size_small size) h)
  step_follows context long view i upper (StoreRegister size) e tos small is h l =
      let stored = store_type fact.types (type_at fact.types i.dst) i (bytes_in size) in
      let value = type_at fact.types i.src in
      let u = unset_test (is_unset value) (NotANumber i.src) (stores_if_pointer value stored) e h in
      let p = pointer_is value stored e u.1 in
      subst (λ ts. Follows options.mask after ts s (form_step options.mask context view s i upper (StoreRegister size))) (some_list _ tos l)
      (elim p.2 [
        | inl plain ↦
            let n = numeric value (register s.registers i.src) (fits.registers i.src) (neither value u.0 plain.0) in
            subst (λ v. Follows options.mask after ((s.pc + 1) ∷ []) s (stores_value s i (bytes_in size) v)) (sym n.1)
            (stores_follow i (bytes_in size) n.0 e is (size_small size) (p.1 ∙ ap ok_of plain.1))
        | inr pointer ↦ keeps_follow i (bytes_in size) p.0 e value (register s.registers i.src) is (size_small size) p.1 pointer.1 pointer.2
            pointer.0 (fits.registers i.src)
      ])
  step_follows context long view i upper Ja e tos small is h l = jumps_follow e i.offset [] tos is (same_effect h) l
  step_follows context long view i upper Ja32 e tos small is h l = jumps_follow e i.imm [] tos is (same_effect h) l
  step_follows context long view i upper (Branch c w source) e tos small is h l =
      let a = type_at fact.types i.dst in
      let b = operand_type source w i fact.types in
      let x = compare_test (is_numeric a) (is_numeric b) (NotANumber i.dst) (NotANumber i.src) (unmarked fact.types) e h in
      let m = numeric a (register s.registers i.dst) (fits.registers i.dst) x.0 in
      let n = numeric b (operand source w i s.registers) (operand_fits source w i) x.1 in
      subst (λ v. Follows options.mask after tos s (or_stuck (number v)
      (λ a. or_stuck (number (operand source w i s.registers)) (λ b. branches s (holds c w a b) i.offset)))) (sym m.1)
      (subst (λ v. Follows options.mask after tos s (or_stuck (number v) (λ b. branches s (holds c w m.0 b) i.offset))) (sym n.1)
      (branches_follow (holds c w m.0 n.0) e i.offset tos is x.2 l))
  step_follows context long view i upper Exit e tos small is h l =
      let t = exit_test (is_numeric (type_at fact.types 0)) (NotANumber 0) (unmarked fact.types) e h in
      let n = numeric (type_at fact.types 0) (register s.registers 0) (fits.registers 0) t in
      subst (λ v. Follows options.mask after tos s (or_stuck (number v) (λ r. Exits r s.counters))) (sym n.1) refl
  step_follows context long view i upper Call e tos small is h l =
      let x = called options.mask fact.types view (register s.registers 1) (register s.registers 2) s.counters s.stack (type_at fact.types 1)
      (type_at fact.types 2) (fits.registers 1) (fits.registers 2) (helper_of i.imm) e refl refl h in
      subst (λ ts. Follows options.mask after ts s (form_step options.mask context view s i upper Call)) (some_list _ tos l)
      (subst (λ o. Follows options.mask after ((s.pc + 1) ∷ []) s (or_stuck o (λ a. call_state s a))) (sym x.there)
      (inl refl, call_fits e is x.reply x.at x.bytes x.marks x.stack_is x.inside, x.changes))
