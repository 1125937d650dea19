-- What a site leaves for the next day is an opening, unless one of these numbers, which only grow, is too great:
-- - the number of a point's newest transaction
-- - the total of cleared amounts in cents
-- - the count of cleared transactions
-- - the count of versions
use Rattle.std.proofs.Common.{◌≡◌, ℕ, ◌+◌, ◌-◌, ◌≤◌, ◌<◌, List, [], ◌∷◌, length, get_or, Bool, true, false, zero, suc, arith, Option, Some, None, refl, sym, ◌∙◌, subst}
use Rattle.std.specs.Prelude.{All, ◌==◌, reverse, if◌then◌else◌, nat_le, slice_get, slice_index_or}
use Rattle.std.specs.List.{range_with_len}
use Rattle.std.proofs.lemmas.List.{get_or-reverse, length-reverse}
use Rattle.std.proofs.lemmas.List.Elements.{All-map, All-set}
use Rattle.bpf_model.specs.Program.{IsGood, ProgramText}
use Rattle.bpf_model.specs.Machine.{Counters}
use Rattle.bpf_model.specs.Runs.{AreCounters}
use Rattle.verifier.specs.RefusedPrograms.{refusal_of}
use Rattle.till_request.specs.declared.act.Act.{Act}
use Rattle.till_request.specs.declared.act.Act.TheVariants as act
use Rattle.till_request.specs.declared.act.Reply.{Reply}
use Rattle.till_request.specs.declared.act.Reply.TheVariants as reply
use Rattle.decision_journal.specs.declared.entries.Entry.{Entry}
use Rattle.site_core.specs.Slots.{IsRule}
use Rattle.site_core.specs.SlotsValue.{SlotsValue, Version}
use Rattle.site_core.specs.declared.opening.OpeningFault.{OpeningFault}
use Rattle.site_core.specs.declared.opening.OpeningFault.TheVariants as fault
use Rattle.site_core.specs.Opening.{IsOpening, OpeningValue}
use Rattle.site_core.specs.Fitting.{IsFirstLimitFault, Misfits}
use Rattle.site_core.specs.Limits.{ConfigValue, IsConfig}
use Rattle.site_core.specs.State.{SiteState, at_number, fresh_state, opened_state, opening_state}
use Rattle.site_core.specs.SiteInvariant.{IsConsistent}
use Rattle.site_core.specs.Site.{SiteValue}
use Rattle.fuelling_point.specs.Table.{PointState}
use Rattle.site_core.specs.Days.{IsHeldWithin, carried}
use Rattle.site_core.specs.Histories.{AcceptedLoads, load_refusal}
use Rattle.site_core.specs.History.{in_force, loaded, opening_rule, versions, versions_before}
use Rattle.site_core.specs.Legal.{GoodLoad, GoodLoads, Legal}
use Rattle.site_core.proofs.EachEvent.{Stays, after_all}
use Rattle.site_core.proofs.Numbers.{counted, newest, own_in_force, taken}

abbrev pub IsPriced : SiteState → Type 0
IsPriced s = All (λ price. price ≤ 9999999) s.prices

prices_stay : (tills : ℕ) → Stays tills IsPriced
prices_stay tills = record {
  at_point = λ s n p new at held h. h;
  at_clear = λ s cleared clears h. h;
  at_price = λ s product price le h. All-set (λ x. x ≤ 9999999) s.prices (product - 1) price le h;
  at_run = λ s p bytes view h. h;
}

opening_priced : (config : ConfigValue) (o : Option OpeningValue) → config.opening ≡ o → IsConfig config
    → IsPriced (elim o as (λ _. SiteState) [ None ↦ fresh_state config | Some x ↦ opened_state x ])
opening_priced config None is good = good.prices
opening_priced config (Some o) is good = (good.opening o is).prices

-- Each price is in its range after a legal history.
pub prices_in_range : (config : ConfigValue) → IsConfig config → (past : List Entry) (s : SiteState) → Legal config past s → IsPriced s
prices_in_range config good past s l = after_all config.tills IsPriced (prices_stay config.tills) config refl (opening_priced config config.opening refl good) past s l

-- ---- transactions are held by nobody or by tills of the site

abbrev AreHeld : ℕ → SiteState → Type 0
AreHeld tills s = All (IsHeldWithin tills) s.points

get_held : (tills : ℕ) (points : List PointState) (k : ℕ) (p : PointState) → slice_get points k ≡ Some p → All (IsHeldWithin tills) points → IsHeldWithin tills p
get_held tills [] k p at all = absurd (let e : ◌≡◌ {A = Option PointState} None (Some p) = at in cc)
get_held tills (q ∷ points) zero p at all =
    let e : ◌≡◌ {A = Option PointState} (Some q) (Some p) = at in
    let same : q ≡ p = cc in
    subst (IsHeldWithin tills) same (all 0 q (omega arith))
get_held tills (q ∷ points) (suc k) p at all = get_held tills points k p at (λ j d lt. all (suc j) d (omega (arith, lt)))

there_held : (tills : ℕ) (points : List PointState) (n : ℕ) (p : PointState) (b : Bool) → (if b then slice_get points (n - 1) else None) ≡ Some p
    → All (IsHeldWithin tills) points → IsHeldWithin tills p
there_held tills points n p true at all = get_held tills points (n - 1) p at all
there_held tills points n p false at all = absurd (let e : ◌≡◌ {A = Option PointState} None (Some p) = at in cc)

at_held : (tills : ℕ) (points : List PointState) (n : ℕ) (p : PointState) → at_number points n ≡ Some p → All (IsHeldWithin tills) points
    → IsHeldWithin tills p
at_held tills points n p at all = there_held tills points n p (nat_le 1 n) at all

holder_stays : (tills : ℕ) → Stays tills (AreHeld tills)
holder_stays tills = record {
  at_point = λ s n p new at held h. All-set (IsHeldWithin tills) s.points (n - 1) new (held (at_held tills s.points n p at h)) h;
  at_clear = λ s cleared clears h. h;
  at_price = λ s product price le h. h;
  at_run = λ s p bytes view h. h;
}

pub holders_kept : (config : ConfigValue) (past : List Entry) (s : SiteState) → Legal config past s → All (IsHeldWithin config.tills) (opening_state config).points
    → All (IsHeldWithin config.tills) s.points
holders_kept config past s l first = after_all config.tills (AreHeld config.tills) (holder_stays config.tills) config refl first past s l

-- ---- the verifier accepts the programs of the versions in force, and each run of these programs ends

-- If there is a load, the verifier accepts its program, and the program is good: it can be decoded, and each run of it
-- ends and changes only declared counters.
abbrev IsGoodLoad : Option (ℕ × ProgramText) → Type 0
IsGoodLoad None = Unit {0}
IsGoodLoad (Some l) = IsGood l.1 × (refusal_of l.1 ≡ None)

load_good : (a : Act) (r : Reply) → GoodLoad a → load_refusal a ≡ None → IsGoodLoad (loaded a r)
load_good (act.Till till request) r good accepted = tt
load_good (act.Dispenser point event) r good accepted = tt
load_good (act.Load slot mask layout bytes) reply.Done good accepted = tt
load_good (act.Load slot mask layout bytes) (reply.Granted g v) good accepted = tt
load_good (act.Load slot mask layout bytes) (reply.Version v) good accepted = (good, accepted)
load_good (act.Load slot mask layout bytes) (reply.Order order) good accepted = tt
load_good (act.Load slot mask layout bytes) (reply.Point state nozzle amount volume limit preset unpaid) good accepted = tt
load_good (act.Load slot mask layout bytes) (reply.Refused number named) good accepted = tt

rule_more : (n : ℕ) (rule : Option Version) → IsRule n rule → IsRule (n + 1) rule
rule_more n None h = tt
rule_more n (Some v) h = (h.0, omega (arith, h.1), h.2, h.3)

taken_rule : (b : Bool) (n : ℕ) (program : ProgramText) (rule : Option Version) → IsGood program × (refusal_of program ≡ None) → IsRule n rule
    → IsRule (n + 1) (taken b n program rule)
taken_rule true n program rule good h = (omega arith, omega arith, good.0, good.1)
taken_rule false n program rule good h = rule_more n rule h

newest_rule : (slot before n : ℕ) (older : Option Version) (l : Option (ℕ × ProgramText)) → IsGoodLoad l → IsRule (before + n) older
    → IsRule (before + counted n l) (newest slot (before + n) older l)
newest_rule slot before n older None good h = h
newest_rule slot before n older (Some l) good h =
    let more : before + n + 1 ≡ before + (n + 1) = omega arith in
    subst (λ k. IsRule k (newest slot (before + n) older (Some l))) more (taken_rule (l.0 == slot) (before + n) l.1 older good h)

rule_at : (n : ℕ) (rules : List (Option Version)) (slot : ℕ) → All (IsRule n) rules → IsRule n (get_or rules slot None)
rule_at n [] slot all = tt
rule_at n (x ∷ rest) zero all = all 0 None (omega arith)
rule_at n (x ∷ rest) (suc k) all = rule_at n rest k (λ j d lt. all (suc j) d (omega (arith, lt)))

rule_opened : (o : Option OpeningValue) (count slot : ℕ) → ((x : OpeningValue) → o ≡ Some x → IsOpening count x)
    → IsRule (elim o as (λ _. ℕ) [ None ↦ 0 | Some x ↦ x.versions ]) (elim o as (λ _. Option Version) [ None ↦ None | Some x ↦ slice_index_or x.rules slot None ])
rule_opened None count slot good = tt
rule_opened (Some x) count slot good = rule_at x.versions x.rules slot (good x refl).rules

rule_in_force : (config : ConfigValue) → IsConfig config → (slot : ℕ) (past : List Entry) → GoodLoads past → AcceptedLoads past
    → IsRule (versions_before config + versions past) (in_force config slot past)
rule_in_force config is slot [] good accepted =
    let first : versions_before config ≡ versions_before config + 0 = omega arith in
    subst (λ n. IsRule n (opening_rule config slot)) first (rule_opened config.opening (length config.points) slot is.opening)
rule_in_force config is slot (e ∷ past) good accepted =
    newest_rule slot (versions_before config) (versions past) (in_force config slot past) (loaded e.act e.reply)
    (load_good e.act e.reply (good 0 e (omega arith)) (accepted 0 e (omega arith)))
    (rule_in_force config is slot past (λ k d lt. good (suc k) d (omega (arith, lt))) (λ k d lt. accepted (suc k) d (omega (arith, lt))))

all_reversed : (P : Entry → Type 0) (entries : List Entry) → All P entries → All P (reverse entries)
all_reversed P entries all = λ k d lt.
    let less : k < length entries = omega (arith, lt, length-reverse entries) in
    subst P (sym (get_or-reverse entries k d less)) (all (length entries - 1 - k) d (omega (arith, less)))

-- ---- what a site leaves is an opening, unless the number of a transaction, a total or a count is too great

-- Let an opening have `count` points and no price above 9,999,999 thousandths. If the number of a transaction, a total
-- or a count is too great for an opening, then the fault of the first such number (`IsFirstLimitFault`) is the first
-- fault that the opening has.
pub limit_fault_is_first : (count : ℕ) (o : OpeningValue) (f : OpeningFault) → length o.points ≡ count → All (λ price. price ≤ 9999999) o.prices
    → IsFirstLimitFault o.points o.cleared o.clears o.versions (Some f) → Misfits count o f
limit_fault_is_first count o fault.Points points prices h = absurd h
limit_fault_is_first count o fault.Prices points prices h = absurd h
limit_fault_is_first count o fault.Transactions points prices h = ((points, (prices, tt)), h)
limit_fault_is_first count o fault.Cleared points prices h = ((points, (prices, (h.0, tt))), h.1)
limit_fault_is_first count o fault.Clears points prices h = ((points, (prices, (h.0, (h.1, tt)))), h.2)
limit_fault_is_first count o fault.Versions points prices h = ((points, (prices, (h.0, (h.1, (h.2, tt))))), h.3)
limit_fault_is_first count o fault.Slots points prices h = absurd h
limit_fault_is_first count o fault.Rules points prices h = absurd h
limit_fault_is_first count o fault.DuplicateVersion points prices h = absurd h
limit_fault_is_first count o fault.OutOfMemory points prices h = absurd h

-- In this module a site has this configuration, history, state and slots. `points` are its points, `totals` are the
-- total of cleared amounts in cents and the count of cleared transactions, and `n` is how many versions there have
-- been.
module _ (config : ConfigValue) (history : List Entry) (s : SiteState) (slots : SlotsValue) (site : SiteValue)
    (site_is : record { config = config; history = history; state = s } ≡ site) (good : IsConfig config) (k : IsConsistent config history s slots)
    (points : List PointState) (totals : ℕ × ℕ) (n : ℕ) (points_are : points ≡ s.points) (totals_are : totals ≡ (s.cleared, s.clears))
    (count_is : n ≡ slots.before + length slots.programs) where
  abbrev past : List Entry
  past = reverse history

  count : n ≡ versions_before config + versions past
  count = count_is ∙ (λ i. sym k.agrees.before i + sym k.agrees.versions i)

  here : (found : Option OpeningFault) → IsFirstLimitFault points totals.0 totals.1 n found
      → IsFirstLimitFault s.points s.cleared s.clears (versions_before config + versions past) found
  here found h =
      subst (λ x. IsFirstLimitFault s.points s.cleared s.clears x found) count
      (subst (λ (t : ℕ × ℕ). IsFirstLimitFault s.points t.0 t.1 n found) totals_are
      (subst (λ (ps : List PointState). IsFirstLimitFault ps totals.0 totals.1 n found) points_are h))

  pub site_misfits : (f : OpeningFault) → IsFirstLimitFault points totals.0 totals.1 n (Some f) → Misfits (length site.config.points) (carried site) f
  site_misfits f h =
      subst (λ (x : SiteValue). Misfits (length x.config.points) (carried x) f) site_is
      (limit_fault_is_first (length config.points) (carried (record { config = config; history = history; state = s })) f k.points
      (prices_in_range config good past s k.legal) (here (Some f) h))

  rule : (slot : ℕ) → IsRule (versions_before config + versions past) (in_force config slot past)
  rule slot =
      rule_in_force config good slot past (all_reversed (λ (e : Entry). GoodLoad e.act) history k.good)
      (all_reversed (λ (e : Entry). load_refusal e.act ≡ None) history k.accepted)

  pub leaves_opening : (counters : Counters) → counters ≡ s.counters → AreCounters counters → IsFirstLimitFault points totals.0 totals.1 n None
      → IsOpening (length site.config.points) (carried site)
  leaves_opening counters same right h =
      let few = here None h in
      subst (λ (x : SiteValue). IsOpening (length x.config.points) (carried x)) site_is (record {
        points = k.points;
        prices = prices_in_range config good past s k.legal;
        counters = subst AreCounters same right;
        last = few.0;
        cleared = few.1;
        clears = few.2;
        versions = few.3;
        slots = refl;
        rules = All-map (IsRule (versions_before config + versions past)) (λ slot. in_force config slot past) (range_with_len 0 16)
            (λ i d lt. rule (get_or (range_with_len 0 16) i d));
        distinct = own_in_force config good past;
      })
