-- If facts cover a program, then it is good: its runs end, never get stuck, and change only declared counters. Facts
-- cover it if the fact of unit 0 holds when a run begins, and each instruction whose unit has a fact is well typed
-- (`Covers`).
use Rattle.std.proofs.Common.{◌≡◌, ℕ, zero, suc, ◌+◌, ◌<◌, ◌≤◌, List, [], ◌∷◌, Option, Some, Bool, true, false, refl, sym, ap, ◌∙◌, subst, inl, inr, arith}
use Rattle.std.proofs.Common.{length}
use Rattle.std.specs.Prelude.{Result, Ok, Err, ℤ, ◌/◌, ◌*◌, cond, slice_get, slice_index, is_some, IsSome}
use Rattle.std.specs.List.{AllByRecursion}
use Rattle.std.proofs.lemmas.Option.{slice_get_within}
use Rattle.bpf_model.specs.declared.instruction.Inst.{Inst}
use Rattle.bpf_model.specs.declared.instruction.Unit.{Unit as ProgramUnit}
use Rattle.bpf_model.specs.declared.instruction.Unit.TheVariants.{First}
use Rattle.bpf_model.specs.declared.instruction.Form.{Form}
use Rattle.bpf_model.specs.declared.instruction.Form.TheVariants.{Wide}
use Rattle.bpf_model.specs.declared.machine.View.{View}
use Rattle.bpf_model.specs.declared.machine.State.{State}
use Rattle.bpf_model.specs.Reading.{form_of, units, imm_at}
use Rattle.bpf_model.specs.Machine.{Counters, Next, Continues, Exits, Stuck, or_stuck, form_step, register, step}
use Rattle.bpf_model.specs.Runs.{Outcome, Ended, GotStuck, Running, entry, follow, run_from, result_of, AreCounters, EndsSafely}
use Rattle.bpf_model.specs.Program.{IsGood}
use Rattle.bpf_model.specs.Layouts.{context_len}
use Rattle.bpf_model.proofs.Reading.{inst_at, small_registers, wide_at, length_of_units}
use Rattle.bpf_model.specs.Flow.{IsAhead}
use Rattle.verifier.specs.declared.types.LoadOptions.{LoadOptions}
use Rattle.verifier.specs.LoadOptions.{loaded_on}
use Rattle.verifier.specs.declared.types.Fact.{Fact}
use Rattle.verifier.specs.Effects.{Effect}
use Rattle.verifier.specs.declared.types.Flaw.{Flaw}
use Rattle.verifier.specs.declared.types.Flaw.TheVariants.{FallsOff}
use Rattle.verifier.specs.Rules.{type_at, effect, checked_effect, falls_off}
use Rattle.verifier.specs.Facts.{FitsType, Fits, Changes, IsAt, Enters, Facts, Covers, IsCovered}
use Rattle.verifier.specs.Inference.{entry_types}
use Rattle.verifier.specs.Operations.{upper_of, second_of}
use Rattle.verifier.proofs.Calls.{Changes-refl}
use Rattle.verifier.proofs.Keeping.{no_spill_fits, none_spilled}
use Rattle.verifier.proofs.Steps.{IsIn, Follows, step_follows}

pub Changes-trans : (declared : ℕ) (a b c : Counters) → Changes declared a b → Changes declared b c → Changes declared a c
Changes-trans declared a b c f g =
    record {
      right = λ h. g.right (f.right h);
      undeclared = λ q none. g.undeclared q none ∙ f.undeclared q none;
      bounds = λ q. g.bounds q ∙ f.bounds q;
    }

judged_test : (b : Bool) (r : Result Effect Flaw) (e : Effect) → cond b (Err FallsOff) r ≡ Ok e → (b ≡ false) × (r ≡ Ok e)
judged_test true r e h = absurd (cc)
judged_test false r e h = (refl, h)

pub judged_is : (count pc : ℕ) (options : LoadOptions) (fact : Fact) (i : Inst) (upper : ℤ) (form : Form) (e : Effect) → checked_effect count pc options fact i upper form ≡ Ok e
    → (falls_off count pc form ≡ false) × (effect options fact i upper form ≡ Ok e)
judged_is count pc options fact i upper form e h = judged_test (falls_off count pc form) (effect options fact i upper form) e h

one_of : (P : ℕ → Type 0) (x : ℕ) (ys : List ℕ) → IsIn x ys → AllByRecursion P ys → P x
one_of P x [] i all = absurd i
one_of P x (y ∷ ys) i all = elim i [ inl e ↦ subst P (sym e) all.0 | inr m ↦ one_of P x ys m all.1 ]

entry_register : (r : ℕ) → FitsType (type_at entry_types r) (register (entry []).registers r)
entry_register zero = tt
entry_register (suc zero) = refl
entry_register (suc (suc zero)) = tt
entry_register (suc (suc (suc zero))) = tt
entry_register (suc (suc (suc (suc zero)))) = tt
entry_register (suc (suc (suc (suc (suc zero))))) = tt
entry_register (suc (suc (suc (suc (suc (suc zero)))))) = tt
entry_register (suc (suc (suc (suc (suc (suc (suc zero))))))) = tt
entry_register (suc (suc (suc (suc (suc (suc (suc (suc zero)))))))) = tt
entry_register (suc (suc (suc (suc (suc (suc (suc (suc (suc zero))))))))) = tt
entry_register (suc (suc (suc (suc (suc (suc (suc (suc (suc (suc zero)))))))))) = refl
entry_register (suc (suc (suc (suc (suc (suc (suc (suc (suc (suc (suc n))))))))))) = tt

module _ (bytes : List ℕ) (us : List ProgramUnit) (facts : Facts) (reads : units bytes ≡ Some us) (options : LoadOptions) (covers : Covers us options facts)
    (context : List ℕ) (view : View) where
  -- A step continues the run or ends it, and never gets stuck. If it continues, it leads to a later unit (an
  -- instruction slot), in a state that fits the fact of that unit, and only declared counters change. If it ends the
  -- run, no counter changes.
  abbrev pub Proceeds : State → Next → Type 0
  Proceeds s (Continues t) = (s.pc < t.pc) × IsAt us facts t × Changes options.mask s.counters t.counters
  Proceeds s (Exits r counters) = counters ≡ s.counters
  Proceeds s Stuck = ⊥

  proceeds : (s : State) (after : Fact) (tos : List ℕ) (n : Next) → AllByRecursion (IsAhead us s.pc) tos → AllByRecursion (Enters facts after) tos
      → Follows options.mask after tos s n → Proceeds s n
  proceeds s after tos (Continues t) ahead all f =
      let a = one_of (IsAhead us s.pc) t.pc tos f.0 ahead in
      let e = one_of (Enters facts after) t.pc tos f.0 all in
      (a.ahead, record { unit = a.first.0; begins = a.first.1; fact = e.wider; is = e.is; fits = e.below.weakens t f.1 }, f.2)
  proceeds s after tos (Exits r counters) ahead all f = f
  proceeds s after tos Stuck ahead all f = absurd f

  -- The upper half of a wide load's number can be read from the units or from the bytes: both give the same. Other
  -- instructions don't use it.
  same_act : (declared : ℕ) (context : List ℕ) (view : View) (s : State) (i : Inst) (form : Form) → slice_get us s.pc ≡ Some (First i)
      → form_of i.opcode ≡ Some form → form_step declared context view s i (upper_of us s.pc) form ≡ form_step declared context view s i (imm_at bytes (s.pc + 1)) form
  same_act declared context view s i Wide at is =
      ap (λ u. form_step declared context view s i u Wide) (ap second_of (wide_at bytes us s.pc i reads at is))
  same_act declared context view s i form at is = refl

  -- if state s is before an instruction whose unit has a fact, and s fits this fact, then the machine's step from s is
  -- `form_step` of that instruction
  pub step_is : (s : State) (at : IsAt us facts s) → let typed = covers.each s.pc at.unit at.fact at.begins at.is in step bytes options.mask context view s
      ≡ form_step options.mask context view s at.unit (upper_of us s.pc) typed.form
  step_is s at =
      let typed = covers.each s.pc at.unit at.fact at.begins at.is in
      let read = inst_at bytes us s.pc at.unit reads at.begins in
      ap (λ o. or_stuck o (λ i. or_stuck (form_of i.opcode) (λ form. form_step options.mask context view s i (imm_at bytes (s.pc + 1)) form))) read.1.reads
      ∙ ap (λ o. or_stuck o (λ form. form_step options.mask context view s at.unit (imm_at bytes (s.pc + 1)) form)) typed.form_is
      ∙ sym (same_act options.mask context view s at.unit typed.form at.begins typed.form_is)

  pub step_proceeds : length context ≡ context_len options.layout → (s : State) → IsAt us facts s → Proceeds s (step bytes options.mask context view s)
  step_proceeds long s at =
      let typed = covers.each s.pc at.unit at.fact at.begins at.is in
      let read = inst_at bytes us s.pc at.unit reads at.begins in
      let small = small_registers bytes s.pc at.unit read.0 read.1 in
      let j = judged_is (length us) s.pc options at.fact at.unit (upper_of us s.pc) typed.form typed.effect typed.typed in
      let go = step_follows options at.fact typed.after s at.fits context long view at.unit (upper_of us s.pc) typed.form typed.effect typed.tos small.0
      typed.after_is j.1 typed.leads_to in
      subst (Proceeds s) (sym (step_is s at)) (proceeds s typed.after typed.tos (form_step options.mask context view s at.unit (upper_of us s.pc) typed.form)
      typed.ahead typed.enters go)

  -- the run ended, and only declared counters changed
  abbrev pub EndsAs : Counters → Outcome → Type 0
  EndsAs before (Ended r after) = Changes options.mask before after
  EndsAs before GotStuck = ⊥
  EndsAs before (Running s) = ⊥

  ends_after : (fuel : ℕ) (s : State) (before : Counters) (n : Next)
      → ((t : State) → Changes options.mask before t.counters → IsAt us facts t → length us ≤ t.pc + fuel
      → EndsAs before (run_from bytes options.mask context view fuel t)) → Changes options.mask before s.counters → length us ≤ s.pc + suc fuel → Proceeds s n
      → EndsAs before (follow n (run_from bytes options.mask context view fuel))
  ends_after fuel s before (Continues t) rest same enough p = rest t (Changes-trans options.mask before s.counters t.counters same p.2) p.1 (omega (arith, p.0))
  ends_after fuel s before (Exits r counters) rest same enough p = subst (Changes options.mask before) (sym p) same
  ends_after fuel s before Stuck rest same enough p = absurd p

  pub ends : length context ≡ context_len options.layout → (fuel : ℕ) (s : State) (before : Counters) → Changes options.mask before s.counters → IsAt us facts s
      → length us ≤ s.pc + fuel → EndsAs before (run_from bytes options.mask context view fuel s)
  ends long zero s before same at enough = let inside = slice_get_within us s.pc (First at.unit) at.begins in absurd (omega arith)
  ends long (suc fuel) s before same at enough =
      ends_after fuel s before (step bytes options.mask context view s) (λ t. ends long fuel t before) same enough (step_proceeds long s at)

  -- the state in which a run begins fits the fact that is known when a run begins
  entry_fits : (counters : Counters) → Fits covers.start (entry counters)
  entry_fits counters =
      record {
        registers = λ r. subst (λ ts. FitsType (type_at ts r) (register (entry counters).registers r)) (sym covers.start_is.types) (entry_register r);
        many = refl;
        stack = record { bytes = λ p has. absurd (covers.start_is.places p has) };
        long = refl;
        spills = λ k. no_spill_fits (slice_index covers.start.spills k) (entry counters).stack (8 * k)
            (ap (λ ns. slice_index ns k) covers.start_is.spills ∙ none_spilled k);
      }

  pub at_entry : (counters : Counters) → IsAt us facts (entry counters)
  at_entry counters = record {
    unit = covers.unit;
    begins = covers.begins;
    fact = covers.entered.wider;
    is = covers.entered.is;
    fits = covers.entered.below.weakens (entry counters) (entry_fits counters);
  }

  ends_well : (o : Outcome) (before : Counters) → AreCounters before → EndsAs before o → EndsSafely options.mask before o
  ends_well (Ended r after) before are same = (same.right are, same.undeclared, same.bounds)
  ends_well GotStuck before are same = absurd same
  ends_well (Running s) before are same = absurd same

is_some_from : {A : Type 0} (o : Option A) (x : A) → o ≡ Some x → IsSome o
is_some_from o x e = ap is_some e

-- the verifier is sound: if facts cover a program, as `Covers` defines, then the program is good
pub good : (bytes : List ℕ) (us : List ProgramUnit) (options : LoadOptions) → IsCovered bytes options us → IsGood (loaded_on bytes options)
good bytes us options c =
    record {
      has_units = is_some_from (units bytes) us c.reads;
      ends =
          λ context view counters ctx vw cs.
          let long : length us ≤ 0 + length bytes / 8 = let e = length_of_units bytes us c.reads in omega (arith, e) in
          ends_well bytes us c.facts c.reads options c.covers context view (result_of bytes options.mask context view counters (length bytes / 8)) counters cs
          (ends bytes us c.facts c.reads options c.covers context view ctx.many (length bytes / 8) (entry counters) counters (Changes-refl options.mask counters)
          (at_entry bytes us c.facts c.reads options c.covers context view counters) long);
    }
