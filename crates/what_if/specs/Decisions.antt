-- Definitions: the decisions that the rules of one slot made (source: this project).
use Rattle.std.specs.Prelude.{ℕ, ◌==◌, if◌then◌else◌, Option, Some, None}
use Rattle.decision_journal.specs.declared.entries.Entry.{Entry}
use Rattle.decision_journal.specs.declared.entries.Run.{Run}
use Rattle.till_request.specs.declared.act.Request.{Request}
use Rattle.till_request.specs.declared.act.Request.TheVariants as request
use Rattle.till_request.specs.declared.act.Act.{Act}
use Rattle.till_request.specs.declared.act.Act.TheVariants as act
use Rattle.till_request.specs.declared.act.Reply.{Reply}
use Rattle.till_request.specs.declared.act.Reply.TheVariants as reply
use Rattle.what_if.specs.declared.decisions.Asking.{Asking}
use Rattle.what_if.specs.declared.decisions.Decision.{Decision}
use Rattle.what_if.specs.declared.decisions.Kind.TheVariants.{Release, Preset, Price}

-- What a request of this till asks a rule. None for a request that no rule decides.
abbrev pub asking_of : ℕ → Request → Option Asking
asking_of till (request.Release n amount) = Some (record { asked = amount; till = till; point = n; product = 0; kind = Release })
asking_of till (request.Preset n amount) = Some (record { asked = amount; till = till; point = n; product = 0; kind = Preset })
asking_of till (request.Price product price) = Some (record { asked = price; till = till; point = 0; product = product; kind = Price })
asking_of till _ = None

abbrev pub asked_by : Act → Option Asking
asked_by (act.Till till request) = asking_of till request
asked_by _ = None

-- What a reply grants, in cents, or thousandths for a price. None unless it is a grant.
abbrev pub granted_by : Reply → Option ℕ
granted_by (reply.Granted amount version) = Some amount
granted_by _ = None

-- The decision of an entry with this number, moment, request, reply and run. None unless a rule in this slot was run.
abbrev pub decided : ℕ → ℕ → ℕ → Option Asking → Reply → Option Run → Option Decision
decided slot number moment (Some asking) reply (Some run) =
    if run.slot == slot
    then Some (record {
      number = number;
      moment = moment;
      asking = asking;
      granted = granted_by reply;
      version = run.version;
      context = run.context;
    })
    else None
decided slot number moment (Some asking) reply None = None
decided slot number moment None reply run = None

-- The decision of an entry, if a rule in this slot made one.
unfoldable pub decision_in : ℕ → Entry → Option Decision
decision_in slot entry = decided slot entry.number entry.moment (asked_by entry.act) entry.reply entry.run
