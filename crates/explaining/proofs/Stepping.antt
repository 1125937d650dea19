-- The operation that a run executes is the standard's step of the state that the run has reached.
use Rattle.std.proofs.Common.{◌≡◌, ℕ, zero, suc, ◌^◌, ◌<◌, ◌≤◌, List, Option, Some, None, refl, sym, ap, ◌∙◌, subst, arith}
use Rattle.std.proofs.Common.{length}
use Rattle.std.specs.Prelude.{◌/◌, slice_get, slice_index_or}
use Rattle.std.proofs.lemmas.Option.{slice_get_read}
use Rattle.std.proofs.lemmas.List.{get_or_default}
use Rattle.bpf_model.specs.declared.instruction.Inst.{Inst}
use Rattle.bpf_model.specs.declared.instruction.Unit.{Unit as ProgramUnit}
use Rattle.bpf_model.specs.declared.instruction.Unit.TheVariants.{First}
use Rattle.bpf_model.specs.declared.instruction.Form.{Form}
use Rattle.bpf_model.specs.declared.machine.View.{View}
use Rattle.bpf_model.specs.declared.machine.State.{State}
use Rattle.bpf_model.specs.declared.context.Layout.{Layout}
use Rattle.bpf_model.specs.declared.context.Layout.TheVariants as layouts
use Rattle.bpf_model.specs.Layouts.{context_len}
use Rattle.bpf_model.specs.Reading.{form_of}
use Rattle.bpf_model.specs.Machine.{Counters, Next, Continues, Exits, Stuck, step}
use Rattle.bpf_model.specs.Runs.{entry, follow, run_from, result_of}
use Rattle.bpf_model.proofs.Reading.{length_of_units}
use Rattle.verifier.specs.declared.operations.Operation.{Operation}
use Rattle.verifier.specs.declared.types.LoadOptions.{LoadOptions}
use Rattle.verifier.specs.Operations.{upper_of, IsOperationAt, AreOperations}
use Rattle.verifier.proofs.Ahead.{there}
use Rattle.verifier.specs.Facts.{IsCovered}
use Rattle.verifier.proofs.Good.{Proceeds, step_is, step_proceeds, at_entry}
use Rattle.interp.specs.Words.{Continuation, Continues as GoesOn, Ends, Stuck as NoTurn}
use Rattle.interp.specs.Words.{Machine, word_at, after, continuation_of, IsExecuted, IsRunning}
use Rattle.interp.specs.Operating.{IsRunningOperations, IsOperationExecuted}
use Rattle.interp.proofs.Progress.{entry_words, shows_entry, none_set, none_kept, code_of, ready_now, never, end_word, stands_inside}
use Rattle.interp.proofs.Operating.{turn_by}
use Rattle.interp.proofs.Turns.{Matches, turn_matches}

one_unit : (us : List ProgramUnit) (pc : ℕ) (i j : Inst) → slice_get us pc ≡ Some (First i) → slice_get us pc ≡ Some (First j) → i ≡ j
one_unit us pc i j a b = cc

one_form : (f g : Form) (o : Option Form) → o ≡ Some f → o ≡ Some g → f ≡ g
one_form f g o a b = cc

least_room : (layout : Layout) (room : ℕ) → room ≡ context_len layout → 8 ≤ room
least_room layouts.One room e = omega (arith, e)
least_room layouts.Two room e = omega (arith, e)

most_room : (layout : Layout) (room : ℕ) → room ≡ context_len layout → room ≤ 80
most_room layouts.One room e = omega (arith, e)
most_room layouts.Two room e = omega (arith, e)

abbrev pub machine_of : List ℕ → List ℕ → Counters → Machine
machine_of words stack counters = record { words = words; stack = stack; counters = counters }

module _ (bytes : List ℕ) (options : LoadOptions) (ops : List Operation) (context : List ℕ) (view : View) (before : Counters) where
  -- a run begins in the standard's first state
  abbrev pub begins : (us : List ProgramUnit) (stack : List ℕ) → AreOperations us ops → IsCovered bytes options us
      → length context ≡ context_len options.layout
      → IsRunningOperations bytes options ops context view before 0 (machine_of entry_words stack before)
  begins us stack decoded c long =
      let running : IsRunning bytes options us context view before (length us) 0 (machine_of entry_words stack before) =
      record {
        covered = c;
        long = long;
        reached =
            record {
              state = entry before;
              at = refl;
              located = at_entry bytes us c.facts c.reads options c.covers context view before;
              registers = shows_entry;
              stack = record { bytes = λ p b h. absurd (none_set 512 p b h); pieces = λ p i v h. absurd (none_kept 512 p i v h) };
              counters = refl;
              result = ap (λ n. run_from bytes options.mask context view n (entry before)) (sym (length_of_units bytes us c.reads));
            };
      } in
      let l = stands_inside bytes options us context view before (length us) 0 (machine_of entry_words stack before) running in
      record { us = us; decoded = decoded; inside = omega (arith, l, decoded.many); left = length us; running = running }

  -- The standard's step of state s, at unit pc, continues at a later unit, and the run has reached the state that the
  -- step leads to. Where no unit is given, the step ends the run, with R0 and the counters of the machine.
  abbrev pub StepsOn : ℕ → State → Option ℕ → Machine → Type 0
  StepsOn pc s (Some to) m =
      (pc < to) × (run : IsRunningOperations bytes options ops context view before to m)
      × (step bytes options.mask context view s ≡ Continues run.running.reached.state)
  StepsOn pc s None m = step bytes options.mask context view s ≡ Exits (word_at m.words 0) m.counters

  module _ (us : List ProgramUnit) (decoded : AreOperations us ops) (pc : ℕ) (old : Machine) (fits : (r : ℕ) → word_at old.words r < 2 ^ 64)
      (many : length old.words ≡ 11) (room : length old.stack ≡ 512) where
    matched : (left : ℕ) (r : IsRunning bytes options us context view before left pc old) (turn : Continuation) (new : Machine)
        → IsExecuted us pc context view old turn new → Matches (step bytes options.mask context view r.reached.state) turn new
    matched left r turn new is =
        let h = r.reached in
        let c = r.covered in
        let s = h.state in
        let at = h.located in
        let typed = c.covers.each s.pc at.unit at.fact at.begins at.is in
        let small = there bytes us s.pc at.unit c.reads at.begins in
        let next = step bytes options.mask context view s in
        let unit : at.unit ≡ is.unit = one_unit us pc at.unit is.unit (subst (λ k. slice_get us k ≡ Some (First at.unit)) h.at at.begins) is.begins in
        let form : typed.form ≡ is.form =
        one_form typed.form is.form (form_of is.unit.opcode) (subst (λ u. form_of u.opcode ≡ Some typed.form) unit typed.form_is) is.form_is in
        let here =
        subst (λ n. Matches n (continuation_of s.pc old.words at.unit typed.form) (after context view old at.unit (upper_of us s.pc) typed.form))
        (sym (step_is bytes us c.facts c.reads options c.covers context view s at))
        (turn_matches s old context h.registers h.stack h.counters fits many at.fits.many at.fits.long room (least_room options.layout (length context) r.long)
        (most_room options.layout (length context) r.long) options.mask view at.unit (upper_of us s.pc) typed.form small.dst) in
        let by_place =
        subst (λ k. Matches next (continuation_of k old.words at.unit typed.form) (after context view old at.unit (upper_of us k) typed.form)) h.at here in
        let by_unit = subst (λ u. Matches next (continuation_of pc old.words u typed.form) (after context view old u (upper_of us pc) typed.form)) unit by_place in
        let by_form = subst (λ f. Matches next (continuation_of pc old.words is.unit f) (after context view old is.unit (upper_of us pc) f)) form by_unit in
        let made : Machine = after context view old is.unit (upper_of us pc) is.form in
        let whole : record { words = made.words; stack = made.stack; counters = made.counters } ≡ new =
        ap (λ w. machine_of w made.stack made.counters) (sym is.words) ∙ ap (λ x. machine_of new.words x made.counters) (sym is.stack) ∙ ap
        (λ x. machine_of new.words new.stack x) (sym is.counters)
        in
        subst (λ t. Matches next t new) (sym is.turn_is) (subst (λ x. Matches next (continuation_of pc old.words is.unit is.form) x) whole by_form)

    combined : (left rest : ℕ) (r : IsRunning bytes options us context view before left pc old) (n : Next) (turn : Continuation) (new : Machine) (next : Option ℕ)
        → result_of bytes options.mask context view before (length bytes / 8) ≡ follow n (run_from bytes options.mask context view rest)
        → Proceeds bytes us r.covered.facts r.covered.reads options r.covered.covers context view r.reached.state n
        → step bytes options.mask context view r.reached.state ≡ n → Matches n turn new → IsExecuted us pc context view old turn new → next ≡ code_of turn
        → StepsOn pc r.reached.state next new
    combined left rest r (Continues t) (GoesOn to) new next result p e h is c =
        let running : IsRunning bytes options us context view before rest to new =
        record {
          covered = r.covered;
          long = r.long;
          reached =
              record {
                state = t;
                at = h.0;
                located = p.1;
                registers = h.1;
                stack = h.2;
                counters = h.3;
                result = result;
              };
        } in
        let l = stands_inside bytes options us context view before rest to new running in
        let later : pc < to = subst (λ k. k < to) r.reached.at (subst (λ k. r.reached.state.pc < k) h.0 p.0) in
        let run : IsRunningOperations bytes options ops context view before to new =
        record { us = us; decoded = decoded; inside = omega (arith, l, decoded.many); left = rest; running = running } in
        subst (λ o. StepsOn pc r.reached.state o new) (sym c) (later, run, e)
    combined left rest r (Continues t) (Ends k) new next result p e h is c = absurd h
    combined left rest r (Continues t) NoTurn new next result p e h is c = absurd h
    combined left rest r (Exits n counters) (Ends k) new next result p e h is c =
        subst (λ o. StepsOn pc r.reached.state o new) (sym c)
        (e ∙ ap (λ a. Exits n a) h.1 ∙ ap (λ v. Exits v new.counters) (sym h.0 ∙ end_word us pc context view old new k is))
    combined left rest r (Exits n counters) (GoesOn to) new next result p e h is c = absurd h
    combined left rest r (Exits n counters) NoTurn new next result p e h is c = absurd h
    combined left rest r Stuck turn new next result p e h is c = absurd p

    followed : (left : ℕ) (r : IsRunning bytes options us context view before left pc old) (turn : Continuation) (new : Machine) (next : Option ℕ)
        → IsExecuted us pc context view old turn new → next ≡ code_of turn → StepsOn pc r.reached.state next new
    followed zero r turn new next is c = absurd (never bytes options us context view before pc old r)
    followed (suc rest) r turn new next is c =
        combined (suc rest) rest r (step bytes options.mask context view r.reached.state) turn new next r.reached.result
        (step_proceeds bytes us r.covered.facts r.covered.reads options r.covered.covers context view r.long r.reached.state r.reached.located) refl
        (matched (suc rest) r turn new is) is c

  -- if a run is at unit pc and the operation of this unit was executed, then the standard's step of the state that the
  -- run had reached leads to the state that it has reached now, or ends the run
  pub stepped : (pc : ℕ) (old : Machine) (d : Operation) (run : IsRunningOperations bytes options ops context view before pc old)
      → ((r : ℕ) → word_at old.words r < 2 ^ 64) → length old.words ≡ 11 → length old.stack ≡ 512 → (next : Option ℕ) (new : Machine)
      → IsOperationExecuted pc context view old (slice_index_or ops pc d) next new → StepsOn pc run.running.reached.state next new
  stepped pc old d run fits many room next new made =
      let stands : IsOperationAt run.us pc (slice_index_or ops pc d) =
      run.decoded.each pc (slice_index_or ops pc d)
      (slice_get_read ops (length ops) pc (slice_index_or ops pc d) refl run.inside (sym (get_or_default ops pc (slice_index_or ops pc d) d run.inside))) in
      let ready = ready_now bytes options run.us context view before run.left pc old fits many room run.running in
      let t = turn_by run.us pc context view old (slice_index_or ops pc d) next new ready stands made in
      followed run.us run.decoded pc old fits many room run.left run.running (continuation_of pc old.words ready.unit ready.form) new next t.0 t.1
