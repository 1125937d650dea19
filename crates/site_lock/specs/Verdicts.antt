-- Promises: what the verifier's function `verify` promises of its answer to some bytes, a mask (the declared counters)
-- and a layout (the form of the context).
use Rattle.std.specs.Prelude.{◌≡◌, ℕ, List, Result, IfOk, IfErr}
use Rattle.bpf_model.specs.declared.context.Layout.{Layout}
use Rattle.bpf_model.specs.Program.{ProgramText, IsGood, as_loaded}
use Rattle.verifier.specs.declared.refusal.Refusal.{Refusal}
use Rattle.verifier.specs.declared.refusal.Refusal.TheVariants.{OutOfMemory}
use Rattle.verifier.specs.Passing.{WrapsNoOutOfMemory}
use Rattle.verifier.specs.Plain.{IsPlain}
use Rattle.verifier.specs.RefusedPrograms.{IsRefused, IsVerdict}

pub record IsVerified (bytes : List ℕ) (declared : ℕ) (layout : Layout) (answer : Result ProgramText Refusal) : Type 0 where
  pub same : IfOk answer (λ p. p ≡ as_loaded bytes declared layout)
  pub good : IfOk answer (λ p. IsGood (as_loaded bytes declared layout))
  pub answers : IsVerdict (as_loaded bytes declared layout) answer
  pub alone : IfErr answer (λ refusal. WrapsNoOutOfMemory refusal)
  pub refused : IfErr answer (λ refusal. IsRefused (as_loaded bytes declared layout) refusal)
  pub plain : IfErr answer (λ refusal. IsPlain (as_loaded bytes declared layout) → refusal ≡ OutOfMemory)
