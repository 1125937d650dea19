-- The states that a run has shown so far, and whatever it goes through next, make a trace.
use Rattle.std.proofs.Common.{◌≡◌, ℕ, List, [], ◌∷◌, refl, sym, ◌∙◌, subst}
use Rattle.std.specs.Prelude.{◌++◌}
use Rattle.std.proofs.lemmas.List.{append_assoc, append-nil}
use Rattle.bpf_model.specs.declared.machine.View.{View}
use Rattle.bpf_model.specs.declared.machine.State.{State}
use Rattle.bpf_model.specs.Machine.{Counters, Continues, Exits, step}
use Rattle.bpf_model.specs.Runs.{entry}
use Rattle.bpf_model.specs.Program.{ProgramText}
use Rattle.verifier.specs.LoadOptions.{options_of}
use Rattle.verifier.specs.declared.operations.Operation.{Operation}
use Rattle.interp.specs.Words.{Machine, RepresentsAll, RepresentsStack}
use Rattle.interp.specs.Operating.{IsRunningOperations}
use Rattle.explaining.specs.declared.tracing.MachineState.{MachineState}
use Rattle.explaining.specs.Traces.{RunsThrough, Shows, ShowsAll, IsTrace}

module _ (p : ProgramText) (context : List ℕ) (view : View) (before : Counters) where
  -- shown after the states that were taken, whatever the run goes through from s on makes them a trace
  abbrev pub Completes : List MachineState → State → Type 0
  Completes taken s =
      (rest : List State) (shown : List MachineState) (r : ℕ) (after : Counters) → RunsThrough (step p.bytes p.declared context view) s rest r after
      → ShowsAll rest shown → IsTrace p context view before (taken ++ shown) r after

  pub shows_now : (ops : List Operation) (pc : ℕ) (m : Machine) (run : IsRunningOperations p.bytes (options_of p) ops context view before pc m) (shown : MachineState)
      → shown.unit ≡ pc → shown.frame.words ≡ m.words → shown.frame.stack ≡ m.stack → shown.counters ≡ m.counters → Shows run.running.reached.state shown
  shows_now ops pc m run shown unit words stack counters =
      let h = run.running.reached in
      record {
        unit = unit ∙ sym h.at;
        words = subst (RepresentsAll h.state.registers) (sym words) h.registers;
        stack = subst (RepresentsStack h.state.stack) (sym stack) h.stack;
        counters = counters ∙ sym h.counters;
      }

  pub begun : (m : MachineState) → Shows (entry before) m → Completes (m ∷ []) (entry before)
  begun m shows rest shown r after through all = (entry before ∷ rest, (refl, through), (shows, all))

  pub one_more : (taken : List MachineState) (s t : State) (m : MachineState) → Completes taken s → step p.bytes p.declared context view s ≡ Continues t → Shows t m
      → Completes (taken ++ m ∷ []) t
  one_more taken s t m completes e shows rest shown r after through all =
      subst (λ ms. IsTrace p context view before ms r after) (sym (append_assoc taken (m ∷ []) shown))
      (completes (t ∷ rest) (m ∷ shown) r after (e, through) (shows, all))

  pub ended : (taken : List MachineState) (s : State) (r : ℕ) (after : Counters) → Completes taken s → step p.bytes p.declared context view s ≡ Exits r after
      → IsTrace p context view before taken r after
  ended taken s r after completes e =
      subst (λ ms. IsTrace p context view before ms r after) (append-nil taken) (completes [] [] r after e tt)
