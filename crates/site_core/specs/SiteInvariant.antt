-- Representation: the invariant of a site, and definitions for the contracts of the functions that `start`, `apply` and
-- `commit` call. Nothing here has to be trusted: the prover checks the code against it.
use Rattle.std.specs.Prelude.{◌≡◌, ℕ, ◌≤◌, ◌==◌, if◌then◌else◌, List, ◌∷◌, length, reverse, Some, None, All}
use Rattle.decision_journal.specs.declared.entries.Entry.{Entry}
use Rattle.till_request.specs.declared.act.Act.{Act}
use Rattle.till_request.specs.declared.act.Act.TheVariants as act
use Rattle.till_request.specs.declared.act.Reply.{Reply}
use Rattle.till_request.specs.declared.act.Reply.TheVariants as reply
use Rattle.bpf_model.specs.Machine.{Counters}
use Rattle.site_core.specs.declared.question.Question.{Question}
use Rattle.site_core.specs.Decide.{denied, grant}
use Rattle.site_core.specs.SlotsValue.{SlotsValue}
use Rattle.site_core.specs.Slots.{version_in, since_in, no_versions, opened_slots}
use Rattle.bpf_model.specs.Program.{ProgramText}
use Rattle.site_core.specs.Limits.{ConfigValue}
use Rattle.site_core.specs.Sights.{first_moment}
use Rattle.site_core.specs.State.{SiteState}
use Rattle.site_core.specs.Bounds.{Bounded}
use Rattle.site_core.specs.History.{in_force, loaded_at, versions, versions_before}
use Rattle.site_core.specs.Step.{effect, entered_moment, load_reply}
use Rattle.site_core.specs.Legal.{Legal, GoodLoad, GoodLoads}
use Rattle.site_core.specs.Histories.{load_refusal, AcceptedLoads}
use Rattle.decision_journal.specs.Journal.{IsWritable}

-- The slots have the versions of the opening and those that the history has loaded, each with the number of the entry
-- that loaded it. The history has its newest entry first.
pub record Agrees (config : ConfigValue) (slots : SlotsValue) (past : List Entry) : Type 0 where
  pub in_force : (slot : ℕ) → in_force config slot past ≡ version_in slots slot
  pub since : (slot : ℕ) → loaded_at slot past ≡ since_in slots slot
  pub before : versions_before config ≡ slots.before
  pub versions : versions past ≡ length slots.programs

-- The slots that a site starts with.
abbrev pub slots_at_first : ConfigValue → SlotsValue
slots_at_first config = elim config.opening [ None ↦ no_versions | Some o ↦ opened_slots o.versions o.rules ]

-- The invariant of a site. The history, oldest entry first, is legal. The verifier accepts the program of each load in
-- it, and this program is good. Each entry can be written as a line of a journal. The state is the one that the history
-- leads to. Its numbers are within their bounds, and it has as many points as the configuration. The slots have the
-- versions that the opening and the history give them (`Agrees`).
pub record IsConsistent (config : ConfigValue) (history : List Entry) (state : SiteState) (slots : SlotsValue) : Type 0 where
  pub legal : Legal config (reverse history) state
  pub agrees : Agrees config slots (reverse history)
  pub accepted : AcceptedLoads history
  pub good : GoodLoads history
  pub written : All IsWritable history
  pub count : length history ≤ 1048576
  pub points : length state.points ≡ length config.points
  pub bounded : Bounded (length history) state

-- What a site keeps: its parts agree, and `since` is the moment of the first entry that bears one.
pub record IsKept (config : ConfigValue) (history : List Entry) (state : SiteState) (slots : SlotsValue) (since : ℕ) : Type 0 where
  pub consistent : IsConsistent config history state slots
  pub first : since ≡ first_moment history

-- An act was performed as `effect` defines, on the state `old` after the entries `past`. The entry p has the act, the
-- moment that `entered_moment` gives, and the reply and the run of the effect. `new` is the state after the effect. The
-- slots have the versions that are in force after `past` and one more entry (`Agrees`), if this entry has the act, the
-- reply and the number of p. If the act is a load, the verifier accepts its program, and the program is good.
pub record Performs (config : ConfigValue) (past : List Entry) (old : SiteState) (moment : ℕ) (act : Act) (p : Entry) (new : SiteState)
    (slots : SlotsValue) : Type 0 where
  pub act_is : p.act ≡ act
  pub moment_is : p.moment ≡ entered_moment act moment
  pub effect_is : effect config past old moment act ≡ record { reply = p.reply; run = p.run; after = new }
  pub agrees : (entry : Entry) → entry.act ≡ p.act → entry.reply ≡ p.reply → entry.number ≡ p.number → Agrees config slots (entry ∷ past)
  pub accepted : load_refusal p.act ≡ None
  pub good : GoodLoad p.act

-- A load, whose entry has this number, was answered as `load_reply` defines. The slots `new` have the versions that are
-- in force after `past` and the load's entry (`Agrees`).
pub record Loads (config : ConfigValue) (slot : ℕ) (program : ProgramText) (past : List Entry) (number : ℕ) (reply : Reply) (new : SlotsValue)
    : Type 0 where
  pub reply_is : load_reply config slot past ≡ reply
  pub agrees : (entry : Entry) → entry.act ≡ act.Load slot program.declared program.layout program.bytes → entry.reply ≡ reply
      → entry.number ≡ number → Agrees config new (entry ∷ past)

abbrev pub with_counters : SiteState → Counters → SiteState
with_counters s counters = record s { counters = counters }

-- What the answer r of a program to a question leads to: the reply, which names the program's version, and the new
-- state. The answer 0 is a denial, and changes nothing.
unfoldable pub applied_answer : SiteState → ℕ → Question → ℕ → ℕ → Reply × SiteState
applied_answer s till q version r =
    if r == 0 then (denied version, s)
    else (let g : ℕ × SiteState = grant s till q r in (reply.Granted g.0 version, g.1))
