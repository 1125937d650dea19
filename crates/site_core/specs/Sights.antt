-- Definitions: what a look shows of a site (source: this project). In these definitions a history has its newest entry
-- first. Points are numbered from 1, slots and counters from 0.
use Rattle.std.specs.Prelude.{ℕ, ◌==◌, List, [], ◌∷◌, find, length, map, reverse, Option, Some, None, option_map, nat_lt, not, if◌then◌else◌}
use Rattle.std.specs.List.{filter_map, flat_map, range_with_len}
use Rattle.bpf_model.specs.Machine.{Counters, counter}
use Rattle.fuelling_point.specs.declared.kinds.Transaction.{Transaction}
use Rattle.decision_journal.specs.declared.entries.Entry.{Entry}
use Rattle.till_request.specs.declared.act.Reply.{Reply}
use Rattle.till_request.specs.declared.look.LookAt.{LookAt}
use Rattle.till_request.specs.declared.look.LookAt.TheVariants as look
use Rattle.till_request.specs.declared.look.Seen.{Seen}
use Rattle.till_request.specs.declared.look.Seen.TheVariants as seen
use Rattle.site_core.specs.Decide.{no_such_point}
use Rattle.site_core.specs.History.{in_force, loaded_at}
use Rattle.site_core.specs.Limits.{ConfigValue}
use Rattle.site_core.specs.SlotsValue.{Version}
use Rattle.site_core.specs.State.{SiteState, at_number}
use Rattle.site_core.specs.Step.{show_reply}

-- What a look shows.
pub data SeenValue : Type 0 where
  day_is : ℕ → ℕ → SeenValue
  reply_is : Reply → SeenValue
  prices_are : List ℕ → SeenValue
  unpaid_rows : List (List ℕ) → SeenValue
  rule_rows : List (List ℕ) → SeenValue
  counter_rows : List (List ℕ) → SeenValue

-- What an answer to a look shows.
abbrev pub seen_value : Seen → SeenValue
seen_value (seen.Day number since) = day_is number since
seen_value (seen.Reply reply) = reply_is reply
seen_value (seen.Prices prices) = prices_are prices
seen_value (seen.Unpaid rows) = unpaid_rows rows.items
seen_value (seen.Rules rows) = rule_rows rows.items
seen_value (seen.Counters rows) = counter_rows rows.items

-- The row of an unpaid transaction at point n.
abbrev pub unpaid_row : ℕ → Transaction → List ℕ
unpaid_row n t = n ∷ t.number ∷ t.product ∷ t.price ∷ t.volume ∷ t.amount ∷ t.holder ∷ []

-- The rows of point n, the older transaction first. None if there is no such point.
abbrev pub unpaid_at : SiteState → ℕ → List (List ℕ)
unpaid_at s n = elim (at_number s.points n) [ None ↦ [] | Some p ↦ map (unpaid_row n) p.unpaid ]

-- The rows of points 1, 2, and so on.
abbrev pub all_unpaid : SiteState → List (List ℕ)
all_unpaid s = flat_map (unpaid_at s) (range_with_len 1 (length s.points))

-- The rows of point n, or the refusal S20 if there is no such point.
abbrev pub unpaid_seen : SiteState → ℕ → SeenValue
unpaid_seen s n = elim (at_number s.points n) [ None ↦ reply_is no_such_point | Some p ↦ unpaid_rows (unpaid_at s n) ]

-- The row of a slot: the number of the version in force, and of the entry that loaded it, or 0 if it was in force when
-- the history began. None if no version is.
abbrev pub rule_row : ConfigValue → List Entry → ℕ → Option (List ℕ)
rule_row config past slot = option_map (λ (v : Version). slot ∷ v.number ∷ loaded_at slot past ∷ []) (in_force config slot past)

-- The row of a counter: its value and its bound. None if the bound is 0.
abbrev pub counter_row : Counters → ℕ → Option (List ℕ)
counter_row counters c =
    let cell = counter counters c in
    if nat_lt 0 cell.1 then Some (c ∷ cell.0 ∷ cell.1 ∷ []) else None

-- The moment of the first entry that bears one; 0 if none does. These entries have the oldest first.
abbrev pub first_moment : List Entry → ℕ
first_moment history = elim (find (λ e. not (e.moment == 0)) history) [ None ↦ 0 | Some e ↦ e.moment ]

-- What a look shows of a site with this configuration, history and state, on the day of this number.
abbrev pub seen_at : ConfigValue → List Entry → SiteState → ℕ → LookAt → SeenValue
seen_at config past s day look.Day = day_is day (first_moment (reverse past))
seen_at config past s day (look.Point n) = reply_is (show_reply s n)
seen_at config past s day look.Prices = prices_are s.prices
seen_at config past s day (look.Unpaid n) = unpaid_seen s n
seen_at config past s day look.AllUnpaid = unpaid_rows (all_unpaid s)
seen_at config past s day look.Rules = rule_rows (filter_map (rule_row config past) (range_with_len 0 16))
seen_at config past s day look.Counters = counter_rows (filter_map (counter_row s.counters) (range_with_len 0 32))
