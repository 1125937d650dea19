-- Promises: the value that models a site, and what the contracts of its calls say.
--
-- For a caller: a site is a `SiteValue`. It starts as `new_site config`. `Upholds` says what is true of every site,
-- such as that its history is legal and leads to its state. An event is an act, by a pass, at a moment, and `act_of`
-- gives its act. `entered site pass moment act` is the entry that the event makes, with its number, reply and run.
-- `site_after site pass moment act` is the site with that entry added. The site, the pass, the moment and the act
-- determine both.
--
-- If `apply` returns Ok, `Enters old pass moment act number reply new` holds: the entry's number and reply were
-- returned, and the new site is `site_after`. `apply` returns JournalFull exactly if the history has 1,048,576 entries.
-- After any error the site is unchanged. `AppliesEvent` states this for each result, and `Runs` for a list of events
-- with their results.
use Rattle.std.specs.Prelude.{◌≡◌, ◌≢◌, ℕ, ◌+◌, List, [], ◌∷◌, ◌++◌, length, reverse, Result, Ok, Err}
use Rattle.std.specs.Arc.{arc_value}
use Rattle.decision_journal.specs.declared.entries.Entry.{Entry}
use Rattle.till_request.specs.declared.act.Act.{Act}
use Rattle.till_request.specs.declared.act.Act.TheVariants as act
use Rattle.till_request.specs.declared.act.Reply.{Reply}
use Rattle.site_core.specs.declared.events.Event.{Event}
use Rattle.site_core.specs.declared.events.What.{What}
use Rattle.site_core.specs.declared.events.What.TheVariants as what
use Rattle.site_core.specs.declared.events.Answered.{Answered}
use Rattle.site_core.specs.declared.events.CallFault.{CallFault}
use Rattle.site_core.specs.declared.events.CallFault.TheVariants.{JournalFull, OutOfMemory}
use Rattle.site_core.specs.Limits.{ConfigValue}
use Rattle.site_core.specs.State.{SiteState, opening_state}
use Rattle.site_core.specs.Step.{effect, entry_of}
use Rattle.site_core.specs.Legal.{LegalHistory, GoodLoads, LawfulReleases}
use Rattle.site_core.specs.Histories.{AcceptedLoads}

-- The value of a site: its configuration, its history, oldest entry first, and the state that the history leads to.
pub record SiteValue : Type 0 where
  pub config : ConfigValue
  pub history : List Entry
  pub state : SiteState

-- A site with no entries, in the configuration's opening state.
abbrev pub new_site : ConfigValue → SiteValue
new_site config = record { config = config; history = []; state = opening_state config }

-- The act of an event with this content.
abbrev pub act_of : What → Act
act_of (what.Till till request) = act.Till till request
act_of (what.Dispenser point event) = act.Dispenser point event
act_of (what.Load slot program) = act.Load slot (arc_value program).declared (arc_value program).layout (arc_value program).bytes

-- The entry that the site makes for an act of this pass at this moment.
unfoldable pub entered : SiteValue → ℕ → ℕ → Act → Entry
entered site pass moment act =
    entry_of (reverse site.history) pass moment act (effect site.config (reverse site.history) site.state moment act)

-- The site after it has entered an act of this pass at this moment.
unfoldable pub site_after : SiteValue → ℕ → ℕ → Act → SiteValue
site_after site pass moment act =
    record site { history = site.history ++ entered site pass moment act ∷ []; state = (effect site.config (reverse site.history) site.state moment act).after }

-- The act was entered, and its entry's number and reply were returned.
pub record Enters (old : SiteValue) (pass moment : ℕ) (act : Act) (number : ℕ) (reply : Reply) (new : SiteValue) : Type 0 where
  pub number_is : number ≡ (entered old pass moment act).number
  pub reply_is : reply ≡ (entered old pass moment act).reply
  pub site_is : new ≡ site_after old pass moment act
  -- The next three fields follow from the three above.
  pub place_is : number ≡ length old.history + 1
  pub config_is : new.config ≡ old.config
  pub history_is : new.history ≡ old.history ++ entered old pass moment act ∷ []

-- The result of an event fits the old and the new site. Ok: the event was entered. JournalFull: the old history has
-- 1,048,576 entries. OutOfMemory: the old history doesn't have 1,048,576 entries. After an error the site is unchanged.
abbrev pub AppliesEvent : SiteValue → Event → Result Answered CallFault → SiteValue → Type 0
AppliesEvent old event (Ok answered) new = Enters old event.pass event.moment (act_of event.what) answered.number answered.reply new
AppliesEvent old event (Err JournalFull) new = (length old.history ≡ 1048576) × (new ≡ old)
AppliesEvent old event (Err OutOfMemory) new = (length old.history ≢ 1048576) × (new ≡ old)

-- There is one result for each event, and they fit the old and the new site: the events with result Ok were entered one
-- after another, and the others changed nothing.
abbrev pub Runs : SiteValue → List Event → List (Result Answered CallFault) → SiteValue → Type 0
Runs old [] [] new = new ≡ old
Runs old (event ∷ events) (result ∷ results) new = (mid : SiteValue) × AppliesEvent old event result mid × Runs mid events results new
Runs old [] (result ∷ results) new = ⊥
Runs old (event ∷ events) [] new = ⊥

-- What holds for every site. Its history is legal for its configuration and leads to its state. The verifier accepts
-- each program loaded in the history, whatever the reply to its load was, and each of these programs is good: it can be
-- decoded, and each run of it ends and changes only declared counters. Each granted release in the history is lawful
-- (`LawfulRelease`).
pub record Upholds (site : SiteValue) : Type 0 where
  pub legal : LegalHistory site.config site.history site.state
  pub accepted : AcceptedLoads site.history
  pub good : GoodLoads site.history
  pub lawful : LawfulReleases site.config (reverse site.history)
