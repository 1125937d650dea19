-- Definitions: the trace of a run: the states of the machine before each instruction that is executed, in order. The
-- machine and its step are RFC 9669's, as `bpf_model` defines them.
use Rattle.std.specs.Prelude.{◌≡◌, ℕ, List, [], ◌∷◌, ⊤}
use Rattle.bpf_model.specs.declared.machine.State.{State}
use Rattle.bpf_model.specs.declared.machine.View.{View}
use Rattle.bpf_model.specs.Machine.{Counters, Next, Continues, Exits, step}
use Rattle.bpf_model.specs.Runs.{entry}
use Rattle.bpf_model.specs.Program.{ProgramText}
use Rattle.interp.specs.Words.{RepresentsAll, RepresentsStack}
use Rattle.explaining.specs.declared.tracing.MachineState.{MachineState}

-- From state s on, the run goes through the states of the list: each is the step of the one before it. The step of the
-- last one ends the run with the answer r and these counters.
abbrev pub RunsThrough : (State → Next) → State → List State → ℕ → Counters → Type 0
RunsThrough next s [] r after = next s ≡ Exits r after
RunsThrough next s (t ∷ rest) r after = (next s ≡ Continues t) × RunsThrough next t rest r after

-- the states are all those of the program's run with this context, view and counters, from its first state to the one
-- whose step ends it
abbrev pub IsWholeRun : ProgramText → List ℕ → View → Counters → List State → ℕ → Counters → Type 0
IsWholeRun p context view before [] r after = ⊥
IsWholeRun p context view before (s ∷ rest) r after =
    (s ≡ entry before) × RunsThrough (step p.bytes p.declared context view) s rest r after

-- the unit, the words, the stack's bytes and the counters are those of the state; a word or byte that is unset in the
-- state can be any
pub record Shows (s : State) (shown : MachineState) : Type 0 where
  pub unit : shown.unit ≡ s.pc
  pub words : RepresentsAll s.registers shown.frame.words
  pub stack : RepresentsStack s.stack shown.frame.stack
  pub counters : shown.counters ≡ s.counters

-- as many are shown as there are states, each at its place
abbrev pub ShowsAll : List State → List MachineState → Type 0
ShowsAll [] [] = ⊤
ShowsAll [] (m ∷ shown) = ⊥
ShowsAll (s ∷ states) [] = ⊥
ShowsAll (s ∷ states) (m ∷ shown) = Shows s m × ShowsAll states shown

-- the list shows all states of the program's run, which ends with the answer r and the counters `after`
abbrev pub IsTrace : ProgramText → List ℕ → View → Counters → List MachineState → ℕ → Counters → Type 0
IsTrace p context view before shown r after =
    (states : List State) × IsWholeRun p context view before states r after × ShowsAll states shown
