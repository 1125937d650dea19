-- Definitions: what a worker does, described by its pass and the moment that its clock gave last (source: this
-- project).
use Rattle.std.specs.Prelude.{◌≡◌, ◌≤◌, ◌⊎◌, ◌-◌, ◌^◌, ℕ, List, [], ◌∷◌, length, min, Option, Some, None, Err, Bool, true, false}
use Rattle.std.specs.List.{AllByRecursion}
use Rattle.till_request.specs.Line.{IsLine}
use Rattle.till_request.specs.declared.act.Act.{Act}
use Rattle.till_request.specs.declared.act.Answer.{Answer}
use Rattle.till_request.specs.declared.act.Role.{Role}
use Rattle.till_request.specs.declared.look.LookAt.{LookAt}
use Rattle.decision_journal.specs.declared.entries.Entry.{Entry}
use Rattle.line_session.specs.declared.line_handler.HandlerError.{HandlerError}
use Rattle.line_session.specs.declared.answering.SessionFault.TheVariants.{Journal}
use Rattle.line_session.specs.Session.{LineAnswer, desk_answers, desk_drops}
use Rattle.line_session.specs.Serving.{Outcome, good}
use Rattle.line_session.specs.Answering.{AnswersAll}
use Rattle.site_core.specs.Limits.{ConfigValue}
use Rattle.site_lock.specs.Passes.{PassView, Opened}
use Rattle.site_server.specs.declared.shift.Shift.{Shift}
use Rattle.site_lock.specs.Desks.{DeskAnswers, DeskLooks}

-- what a forecourt starts with if its ledger names this configuration, number of passes, history, and bytes that the
-- journal had taken
abbrev pub opened_by : ConfigValue → ℕ → List Entry → Option (List ℕ) → Opened
opened_by config passes base taken = record { config = config; passes = passes; base = base; taken = taken }

-- At a forecourt of this configuration, a call with this pass and act at this moment can get this answer. The second
-- PassView is the pass after the call.
abbrev pub pass_answers : ConfigValue → Type 0 → PassView → Act → ℕ → Answer → PassView → Type 0
pass_answers config may_fail before act moment answer now = DeskAnswers config may_fail before now act moment answer

-- At a forecourt that started with `f`, on the day with the number `day`, a look with this pass can be answered with
-- this text, or with this answer in its place (`DeskLooks`). The second PassView is the pass after the look.
abbrev pub pass_looks : Opened → Type 0 → ℕ → PassView → LookAt → ℕ → LineAnswer → PassView → Type 0
pass_looks f may_fail day before look moment answer now = DeskLooks f may_fail day before now look answer

-- `gives_any_moment before moment now`: the clock, in the state `before`, can give any `moment`, and its new state
-- `now` is this moment
abbrev pub gives_any_moment : ℕ → ℕ → ℕ → Type 0
gives_any_moment before moment now = now ≡ moment

-- A line of this role can be answered with this text (`desk_answers`) by acts and looks with a pass, which lead from
-- the clock and the pass s to s'.
abbrev pub pass_answers_line : Opened → Type 0 → ℕ → Role → ℕ × PassView → List ℕ → List ℕ → ℕ × PassView → Type 0
pass_answers_line f may_fail day role = desk_answers (pass_answers f.config may_fail) (pass_looks f may_fail day) gives_any_moment role

-- A line of this role can be left without an answer, for this reason (`desk_drops`).
abbrev pub pass_drops_line : Opened → Type 0 → ℕ → Role → HandlerError → ℕ × PassView → List ℕ → ℕ × PassView → Type 0
pass_drops_line f may_fail day role = desk_drops (pass_answers f.config may_fail) (pass_looks f may_fail day) gives_any_moment role

-- What happened between two states of a clock and a pass. One of:
-- - nothing
-- - one line was handled, but got no answer because memory ran out or the journal failed
abbrev pub DropsOne : Opened → Type 0 → ℕ → Role → ℕ × PassView → ℕ × PassView → Type 0
DropsOne f may_fail day role s s' =
    (s' ≡ s) ⊎ ((why : HandlerError) × (line : List ℕ) × IsLine line × pass_drops_line f may_fail day role why s line s')

-- What one connection did to the clock and the pass:
-- - It couldn't be opened: nothing.
-- - It was opened: lines of this role were answered, and then at most one more was handled without an answer. If the
--   session's fault is `Journal`, the journal can fail (`may_fail`).
abbrev pub AnswersConnection : Opened → Type 0 → ℕ → Role → Outcome → ℕ × PassView → ℕ × PassView → Type 0
AnswersConnection f may_fail day role None s s' = s' ≡ s
AnswersConnection f may_fail day role (Some result) s s' =
    (lines : List (List ℕ)) × (texts : List (List ℕ)) × (m : ℕ × PassView) × AllByRecursion IsLine lines
    × AnswersAll (pass_answers_line f may_fail day role) lines s texts m × DropsOne f may_fail day role m s'
    × (result ≡ Err Journal → may_fail)

-- What several connections, served one after another with these outcomes, did to the clock and the pass. Each of them
-- did what `AnswersConnection` says.
abbrev pub AnswersConnections : Opened → Type 0 → ℕ → Role → List Outcome → ℕ × PassView → ℕ × PassView → Type 0
AnswersConnections f may_fail day role [] s s' = s' ≡ s
AnswersConnections f may_fail day role (outcome ∷ outcomes) s s' =
    (m : ℕ × PassView) × AnswersConnection f may_fail day role outcome s m × AnswersConnections f may_fail day role outcomes m s'

-- So many connections fill a shift: all of them, or fewer if the site can be asked to stop before. A shift without end
-- ends only so.
abbrev pub Fills : Option ℕ → Bool → ℕ → Type 0
Fills None may_stop count = may_stop ≡ true
Fills (Some connections) may_stop count = (count ≤ connections) × (may_stop ≡ false → count ≡ connections)

-- At a forecourt that started with `f`, on the day with the number `day`, the pass served the connections of a shift in
-- this role. So many of them as `clean` says ended without a SessionFault, or more if it is 2^64 - 1.
pub record Worked (f : Opened) (may_fail : Type 0) (day : ℕ) (role : Role) (shift : Shift) (clean : ℕ) (before now : PassView) : Type 0 where
  pub moment : ℕ
  pub outcomes : List Outcome
  pub each : AnswersConnections f may_fail day role outcomes (0, before) (moment, now)
  pub all_asked : Fills shift.connections shift.may_stop (length outcomes)
  pub counted : clean ≡ min (good outcomes) (2 ^ 64 - 1)
