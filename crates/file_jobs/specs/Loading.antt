-- Definitions: why the verifier refuses the program of a load, and which answer the load then has (source: this
-- project).
use Rattle.std.specs.Prelude.{◌≡◌, ◌⊎◌, Option, Some, None, ⊤}
use Rattle.bpf_model.specs.Program.{as_loaded}
use Rattle.verifier.specs.declared.refusal.Refusal.{Refusal}
use Rattle.verifier.specs.Refusals.{refusal_numbers}
use Rattle.verifier.specs.RefusedPrograms.{refusal_of}
use Rattle.till_request.specs.declared.act.Act.{Act}
use Rattle.till_request.specs.declared.act.Act.TheVariants as acts
use Rattle.till_request.specs.declared.act.Answer.{Answer}
use Rattle.till_request.specs.declared.act.Answer.TheVariants as answers
use Rattle.file_jobs.specs.Printed.{IsAcceptedAndGood}

-- The act loads a program that the verifier refuses with this refusal.
abbrev pub IsRefusedLoad : Act → Refusal → Type 0
IsRefusedLoad (acts.Load slot mask layout bytes) refusal = refusal_of (as_loaded bytes mask layout) ≡ Some refusal
IsRefusedLoad act refusal = ⊥

-- If the act is a load, then either the verifier accepts its program, which is good (`IsAcceptedAndGood`: every run of
-- it ends safely), or the answer is that memory ran out. Of other acts nothing is claimed.
abbrev pub IsNotRefused : Act → Answer → Type 0
IsNotRefused (acts.Load slot mask layout bytes) answer = IsAcceptedAndGood (as_loaded bytes mask layout) ⊎ (answer ≡ answers.OutOfMemory)
IsNotRefused act answer = ⊤

-- The answer says that a program is refused, and has the numbers of this refusal.
abbrev pub HasRefusalNumbers : Answer → Refusal → Type 0
HasRefusalNumbers (answers.Program number unit part) refusal = refusal_numbers refusal ≡ Some (number, unit, part)
HasRefusalNumbers answer refusal = ⊥

-- The optional refusal fits the act and its answer:
-- - Some: the act loads a program that the verifier refuses with this refusal, and the answer has its numbers.
-- - None: the act isn't a load, its program is accepted, or the answer is that memory ran out.
abbrev pub IsLoadRefusal : Act → Answer → Option Refusal → Type 0
IsLoadRefusal act answer (Some refusal) = IsRefusedLoad act refusal × HasRefusalNumbers answer refusal
IsLoadRefusal act answer None = IsNotRefused act answer
