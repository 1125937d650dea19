-- Definitions: the answers of a desk over a forecourt and a pass (source: this project).
use Rattle.std.specs.Prelude.{◌≡◌, ℕ, ◌≤◌, List, length, true, Option, Some, None, Result, Ok, Err}
use Rattle.verifier.specs.declared.refusal.Refusal.{Refusal}
use Rattle.verifier.specs.Refusals.{refusal_numbers}
use Rattle.verifier.specs.RefusedPrograms.{IsRefusal}
use Rattle.till_request.specs.declared.act.Act.{Act}
use Rattle.till_request.specs.declared.act.Act.TheVariants.{Till, Dispenser, Load}
use Rattle.till_request.specs.declared.act.Reply.{Reply}
use Rattle.till_request.specs.declared.act.Answer.{Answer}
use Rattle.till_request.specs.declared.act.Answer.TheVariants.{Entered, JournalFull, OutOfMemory, Line, Program, JournalFailed}
use Rattle.till_request.specs.declared.look.LookAt.{LookAt}
use Rattle.till_request.specs.declared.look.Sight.{Sight}
use Rattle.till_request.specs.Looks.{sight_line}
use Rattle.site_core.specs.declared.events.Answered.{Answered}
use Rattle.site_core.specs.declared.events.CallFault.TheVariants as fault
use Rattle.site_lock.specs.declared.enter_fault.EnterFault.{EnterFault}
use Rattle.site_lock.specs.declared.enter_fault.EnterFault.TheVariants as enter
use Rattle.site_core.specs.Decide.{is_decided}
use Rattle.site_core.specs.Draft.{ReadyValue}
use Rattle.site_core.specs.Limits.{ConfigValue}
use Rattle.site_core.specs.Step.{entered_moment}
use Rattle.site_core.specs.Audit.{IsGoodAct, IsRefusedAct}
use Rattle.site_core.specs.Histories.{load_refusal}
use Rattle.site_lock.specs.Passes.{Opened, PassView}
use Rattle.site_lock.specs.Looks.{IsSight}
use Rattle.site_lock.specs.Calls.{Gains, FitsIn, RoseWithin, pass_after}
use Rattle.site_lock.specs.Decisions.{DecidedBy}

-- The act was entered. The pass got a receipt of the act with this number and reply, and now has at most `number`
-- receipts. The receipt's moment is `moment` for a till's request, and 0 for any other act. Some legal history ends
-- with an entry that agrees with this receipt and has this pass (`FitsIn`). The program of a load is good and accepted
-- by the verifier.
pub record DeskEnters (config : ConfigValue) (before now : PassView) (act : Act) (moment number : ℕ) (reply : Reply) : Type 0 where
  pub gains : Gains before now (entered_moment act moment) act (record { number = number; reply = reply })
  pub number_is : length now.receipts ≤ number
  pub fits : FitsIn config before.id (entered_moment act moment) act (record { number = number; reply = reply })
  pub good : IsGoodAct act
  pub accepted : load_refusal act ≡ None

-- The act is a load whose program the verifier refuses. The refusal has this number, unit, and register or argument
-- (`part`). The pass is unchanged.
pub record DeskRefuses (before now : PassView) (act : Act) (number : ℕ) (unit part : Option ℕ) : Type 0 where
  pub refusal : Refusal
  pub refused : IsRefusedAct act refusal
  pub answers : IsRefusal (load_refusal act) refusal
  pub shown : refusal_numbers refusal ≡ Some (number, unit, part)
  pub same : now ≡ before

-- What holds after each answer of the desk. After an answer without an entry the pass is unchanged, but after
-- `JournalFull` it has it that the history was full. The desk answers `JournalFailed` only if the journal can fail, and
-- never `Line`.
abbrev pub DeskAnswers : ConfigValue → Type 0 → PassView → PassView → Act → ℕ → Answer → Type 0
DeskAnswers config may_fail before now act moment (Entered number reply) = DeskEnters config before now act moment number reply
DeskAnswers config may_fail before now act moment JournalFull = now ≡ pass_after (enter.Call fault.JournalFull) before
DeskAnswers config may_fail before now act moment OutOfMemory = now ≡ before
DeskAnswers config may_fail before now act moment (Line fault) = ⊥
DeskAnswers config may_fail before now act moment (Program number unit part) = DeskRefuses before now act number unit part
DeskAnswers config may_fail before now act moment JournalFailed = (now ≡ before) × may_fail

-- if a till's request was entered, and a program granted it or denied it (S24), then the gate was called once or twice
abbrev pub CallsGate : ℕ → ℕ → Answer → Act → Type 0
CallsGate before now (Entered number reply) (Till till request) = is_decided reply ≡ true → RoseWithin 1 2 before now
CallsGate before now (Entered number reply) (Dispenser point event) = Unit {0}
CallsGate before now (Entered number reply) (Load slot mask layout bytes) = Unit {0}
CallsGate before now JournalFull act = Unit {0}
CallsGate before now OutOfMemory act = Unit {0}
CallsGate before now (Line fault) act = Unit {0}
CallsGate before now (Program number unit part) act = Unit {0}
CallsGate before now JournalFailed act = Unit {0}

-- If a till's request was entered, then the gate made at most two runs, all of them for this request at this moment. If
-- it made none, the answer isn't a program's. If it made one, and the answer is a program's, the answer is that of the
-- run (`DecidedBy`).
abbrev pub DeskDecides : {G : Type 0} → (G → ReadyValue → G → Type 0) → ConfigValue → ℕ → ℕ → G → G → Answer → Act → Type 0
DeskDecides makes config pass moment before now (Entered number reply) (Till till request) =
    DecidedBy makes config pass till moment request before now (record { number = number; reply = reply })
DeskDecides makes config pass moment before now (Entered number reply) (Dispenser point event) = Unit {0}
DeskDecides makes config pass moment before now (Entered number reply) (Load slot mask layout bytes) = Unit {0}
DeskDecides makes config pass moment before now JournalFull act = Unit {0}
DeskDecides makes config pass moment before now OutOfMemory act = Unit {0}
DeskDecides makes config pass moment before now (Line fault) act = Unit {0}
DeskDecides makes config pass moment before now (Program number unit part) act = Unit {0}
DeskDecides makes config pass moment before now JournalFailed act = Unit {0}

-- What a look of this day leads to. The pass is unchanged. `Ok`: the text is the line of an answer that shows the
-- forecourt at one moment (`IsSight`). A look is refused with `JournalFailed` only if the journal can fail, and else
-- only with `OutOfMemory`.
abbrev pub DeskLooks : Opened → Type 0 → ℕ → PassView → PassView → LookAt → Result (List ℕ) Answer → Type 0
DeskLooks f may_fail day before now look (Ok text) =
    (now ≡ before) × (sight : Sight) × IsSight f may_fail (length before.receipts) day look sight × (text ≡ sight_line sight)
DeskLooks f may_fail day before now look (Err OutOfMemory) = now ≡ before
DeskLooks f may_fail day before now look (Err JournalFailed) = (now ≡ before) × may_fail
DeskLooks f may_fail day before now look (Err JournalFull) = ⊥
DeskLooks f may_fail day before now look (Err (Entered number reply)) = ⊥
DeskLooks f may_fail day before now look (Err (Line fault)) = ⊥
DeskLooks f may_fail day before now look (Err (Program number unit part)) = ⊥

-- the desk's answer for the result of a call
abbrev pub answer_of_call : Result Answered EnterFault → Answer
answer_of_call (Ok a) = Entered a.number a.reply
answer_of_call (Err (enter.Call fault.JournalFull)) = JournalFull
answer_of_call (Err (enter.Call fault.OutOfMemory)) = OutOfMemory
answer_of_call (Err enter.Journal) = JournalFailed
