-- The reply to a refused question is the refusal. For a question that isn't refused, the reply is S23 if its slot has
-- no program. If the slot has a program, the program's answer decides (`verdict`).
use Rattle.std.proofs.Common.{◌≡◌, ℕ, List, Some, None, Ok, Err, refl, ap, ◌∙◌}
use Rattle.decision_journal.specs.declared.entries.Entry.{Entry}
use Rattle.till_request.specs.declared.act.Reply.{Reply}
use Rattle.bpf_model.specs.Machine.{Counters}
use Rattle.bpf_model.specs.Runs.{Ended}
use Rattle.bpf_model.specs.Program.{outcome}
use Rattle.site_core.specs.SlotsValue.{Version}
use Rattle.bpf_model.specs.Layouts.{bytes_of}
use Rattle.site_core.specs.declared.question.Question.{Question}
use Rattle.site_core.specs.Limits.{ConfigValue}
use Rattle.site_core.specs.State.{SiteState, view_of}
use Rattle.site_core.specs.Context.{context}
use Rattle.site_core.specs.History.{in_force}
use Rattle.site_core.specs.Decide.{replied, no_program, decided, verdict, run_result}

pub decided-refused : (config : ConfigValue) (past : List Entry) (s : SiteState) (till moment : ℕ) (r : Reply) → decided config past s till moment (Err r) ≡ replied r s
unfolding decided
decided-refused config past s till moment r = refl

pub decided-none : (config : ConfigValue) (past : List Entry) (s : SiteState) (till moment : ℕ) (q : Question) → in_force config q.slot past ≡ None
    → decided config past s till moment (Ok q) ≡ replied (no_program q.slot) s
unfolding decided
decided-none config past s till moment q none = rw (none, decided)

pub decided-some : (config : ConfigValue) (past : List Entry) (s : SiteState) (till moment : ℕ) (q : Question) (v : Version) → in_force config q.slot past ≡ Some v
    → decided config past s till moment (Ok q)
    ≡ (let r : ℕ × Counters = run_result (outcome v.program (bytes_of (context v.program.layout s till moment q)) (view_of s) s.counters) s.counters in
    verdict s till moment q v r.0 r.1)
unfolding decided
decided-some config past s till moment q v some = rw (some, decided)

pub decided-ended : (config : ConfigValue) (past : List Entry) (s : SiteState) (till moment : ℕ) (q : Question) (v : Version) (r : ℕ) (counters : Counters)
    → in_force config q.slot past ≡ Some v → outcome v.program (bytes_of (context v.program.layout s till moment q)) (view_of s) s.counters ≡ Ended r counters
    → decided config past s till moment (Ok q) ≡ verdict s till moment q v r counters
decided-ended config past s till moment q v r counters some ended =
    decided-some config past s till moment q v some ∙ ap (λ o. verdict s till moment q v (run_result o s.counters).0 (run_result o s.counters).1) ended
