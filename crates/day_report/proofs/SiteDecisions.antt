-- The grants and denials of all versions of rules add up to the number of decisions in the history.
use Rattle.std.proofs.Common.{◌≡◌, ◌⊎◌, ℕ, zero, suc, ◌+◌, ◌≤◌, ◌<◌, ◌&&◌, Bool, true, false, not, List, [], ◌∷◌, ◌++◌, length, map, reverse, All, Option, Some, None, Result, Ok}
use Rattle.std.proofs.Common.{Err, refl, arith, ap, ◌∙◌, sym, subst, inl, inr}
use Rattle.std.specs.Prelude.{if◌then◌else◌, ◌==◌, nat_le, nat_lt, sum_by, count_by, option_to_list, fold, slice_index_or}
use Rattle.std.specs.List.{range_with_len, filter_map, AllByRecursion, IsDistinct}
use Rattle.std.proofs.lemmas.Bool.{eq-eqb}
use Rattle.std.proofs.lemmas.Bool.Decides.{nat_tests}
use Rattle.std.proofs.lemmas.Map.Keys.{IsDistinct-head, IsDistinct-tail}
use Rattle.std.proofs.lemmas.List.{reverse-append, reverse-reverse, length-append, append-nil, map-append}
use Rattle.std.proofs.lemmas.List.Elements.{filter_map-append, All-append, All-cons, All-head, All-nil, All-tail, All-weaker}
use Rattle.std.proofs.lemmas.List.Sums.{sum_by-cons, sum_by-append}
use Rattle.fuelling_point.specs.Table.{PointState, StepResult, command_step, event_step}
use Rattle.fuelling_point.specs.declared.kinds.Command.{Command}
use Rattle.fuelling_point.specs.declared.kinds.DispenserEvent.{DispenserEvent}
use Rattle.fuelling_point.specs.declared.kinds.Order.{Order}
use Rattle.fuelling_point.specs.declared.kinds.PointFault.{PointFault}
use Rattle.fuelling_point.specs.declared.kinds.PointFault.TheVariants.{WrongState}
use Rattle.till_request.specs.declared.act.Request.{Request}
use Rattle.till_request.specs.declared.act.Request.TheVariants as request
use Rattle.till_request.specs.declared.act.Act.{Act}
use Rattle.till_request.specs.declared.act.Act.TheVariants as act
use Rattle.till_request.specs.declared.act.Reply.{Reply}
use Rattle.till_request.specs.declared.act.Reply.TheVariants as reply
use Rattle.decision_journal.specs.declared.entries.Entry.{Entry}
use Rattle.bpf_model.specs.Machine.{Counters}
use Rattle.bpf_model.specs.Program.{ProgramText, outcome}
use Rattle.bpf_model.specs.Layouts.{bytes_of}
use Rattle.bpf_model.specs.declared.context.Layout.{Layout}
use Rattle.site_core.specs.SlotsValue.{Version}
use Rattle.site_core.specs.Slots.{IsRule}
use Rattle.site_core.specs.Opening.{OpeningValue, IsOpening, rule_numbers}
use Rattle.site_core.specs.declared.question.Question.{Question}
use Rattle.site_core.specs.declared.question.RequestAction.{RequestAction}
use Rattle.site_core.specs.declared.question.RequestAction.TheVariants as action
use Rattle.site_core.specs.Limits.{ConfigValue}
use Rattle.site_core.specs.State.{SiteState, at_number, view_of, price_of}
use Rattle.site_core.specs.Context.{context}
use Rattle.site_core.specs.History.{loaded, in_force, versions, versions_before, opening_rule}
use Rattle.site_core.specs.Decide.{Effect, replied, refused, denied, no_such_till, is_decided, is_till, admitted, request_action}
use Rattle.site_core.specs.Decide.{decided, verdict, run_result, grant}
use Rattle.site_core.specs.Step.{effect, effect_of, asked, till_command_effect, command_effect, dispenser_effect, event_effect, order_reply, fault_reply, show_reply}
use Rattle.site_core.specs.Legal.{Legal}
use Rattle.site_core.proofs.Points.{till_command_effect-none, till_command_effect-some, dispenser_effect-none, dispenser_effect-some}
use Rattle.site_core.proofs.Decisions.{decided-refused, decided-none, decided-some}
use Rattle.site_core.proofs.Grants.{verdict-deny, verdict-grant}
use Rattle.site_core.proofs.Undecided.{refuses, admitted-no, effect-iff-run}
use Rattle.day_report.specs.Decisions as decisions
use Rattle.decision_journal.specs.Tally.{verdict_of}
use Rattle.day_report.specs.Decisions.{kind_of_request, decision_of, loaded_at, load_of, loads, moment_after}
use Rattle.day_report.specs.Carried.{carried_from, carried_rules, HasValidOpening}
use Rattle.day_report.specs.Totals.{is_release, is_preset, is_price, versions_of}
use Rattle.day_report.specs.Laws.{decided_in_all, VersionsCountAllDecisions}
use Rattle.day_report.specs.declared.loading.Load.{Load}
use Rattle.day_report.specs.declared.opening.CarriedRule.{CarriedRule}
use Rattle.day_report.specs.declared.rulings.RequestKind.{RequestKind}
use Rattle.day_report.specs.declared.rulings.RequestKind.TheVariants as kinds
use Rattle.day_report.specs.declared.rulings.Decision.{Decision}
use Rattle.day_report.proofs.OneMore.{loads-push}
use Rattle.day_report.proofs.SiteSales.{none-key, one-key, add-keys, no-keys}

-- ---- A version has six counts of decisions: grants and denials of releases, of presets and of prices. These lemmas
-- show that the six counts add up to the number of its decisions.

one-of-six : (a : RequestKind) (g b : Bool) → (if (is_release a && g) && b then 1 else 0) + (if (is_release a && not g) && b then 1 else 0)
    + (if (is_preset a && g) && b then 1 else 0) + (if (is_preset a && not g) && b then 1 else 0) + (if (is_price a && g) && b then 1 else 0)
    + (if (is_price a && not g) && b then 1 else 0) ≡ (if b then 1 else 0)
one-of-six kinds.Release true true = refl
one-of-six kinds.Release true false = refl
one-of-six kinds.Release false true = refl
one-of-six kinds.Release false false = refl
one-of-six kinds.Preset true true = refl
one-of-six kinds.Preset true false = refl
one-of-six kinds.Preset false true = refl
one-of-six kinds.Preset false false = refl
one-of-six kinds.Price true true = refl
one-of-six kinds.Price true false = refl
one-of-six kinds.Price false true = refl
one-of-six kinds.Price false false = refl

six : (v : ℕ) (ds : List Decision) → decided_in_all v ds ≡ count_by (λ (d : Decision). d.version == v) ds
six v [] = refl
six v (d ∷ ds) =
    let here = one-of-six d.asked d.is_granted (d.version == v) in
    let rest = six v ds in
    let a = sum_by-cons (λ (x : Decision). if (is_release x.asked && x.is_granted) && x.version == v then 1 else 0) d ds in
    let b = sum_by-cons (λ (x : Decision). if (is_release x.asked && not x.is_granted) && x.version == v then 1 else 0) d ds in
    let e = sum_by-cons (λ (x : Decision). if (is_preset x.asked && x.is_granted) && x.version == v then 1 else 0) d ds in
    let f = sum_by-cons (λ (x : Decision). if (is_preset x.asked && not x.is_granted) && x.version == v then 1 else 0) d ds in
    let g = sum_by-cons (λ (x : Decision). if (is_price x.asked && x.is_granted) && x.version == v then 1 else 0) d ds in
    let h = sum_by-cons (λ (x : Decision). if (is_price x.asked && not x.is_granted) && x.version == v then 1 else 0) d ds in
    let all = sum_by-cons (λ (x : Decision). if x.version == v then 1 else 0) d ds in
    omega (arith, here, rest, a, b, e, f, g, h, all)

-- ---- `times v ns` is how often the number v is in the list `ns`. These lemmas show that it is 0 if v differs from all
-- numbers in the list or is greater than all, and 1 if v is the first number and differs from all others.

abbrev times : ℕ → List ℕ → ℕ
times v ns = sum_by (λ k. if v == k then 1 else 0) ns

some-is : (u v : Version) → ◌≡◌ {A = Option Version} (Some u) (Some v) → u ≡ v
some-is u v h = cc

none-is : {P : Type 0} (v : Version) → ◌≡◌ {A = Option Version} None (Some v) → P
none-is v h = absurd (cc)

apart-none : (v : ℕ) (ns : List ℕ) → AllByRecursion (λ n. (v == n) ≡ false) ns → times v ns ≡ 0
apart-none v [] h = refl
apart-none v (n ∷ ns) h = sum_by-cons (λ k. if v == k then 1 else 0) n ns ∙ (λ i. (if h.0 i then 1 else 0) + apart-none v ns h.1 i)

above-none : (v m : ℕ) (ns : List ℕ) → AllByRecursion (λ n. n ≤ m) ns → m < v → times v ns ≡ 0
above-none v m [] h lt = refl
above-none v m (n ∷ ns) h lt =
    let le : n ≤ m = h.0 in
    let no : (v == n) ≡ false = grind (arith, nat_tests, le, lt) in
    sum_by-cons (λ k. if v == k then 1 else 0) n ns ∙ (λ i. (if no i then 1 else 0) + above-none v m ns h.1 lt i)

first-once : (n : ℕ) (ns : List ℕ) → AllByRecursion (λ k. (n == k) ≡ false) ns → times n (n ∷ ns) ≡ 1
first-once n ns h = sum_by-cons (λ k. if n == k then 1 else 0) n ns ∙ (λ i. (if eq-eqb n n refl i then 1 else 0) + apart-none n ns h i)

-- ---- These lemmas show: if the configuration has no opening or a valid one, then the version numbers in the slots
-- when the day begins are distinct, and none is over the count of versions loaded before the day.

-- If P holds for the number of each version in the slots, then it holds for the number of v, the version in `slot`.
at-slot : (P : ℕ → Type 0) (rules : List (Option Version)) (slot : ℕ) (v : Version) → AllByRecursion P (rule_numbers rules)
    → slice_index_or rules slot None ≡ Some v → P v.number
at-slot P [] slot v h is = none-is v is
at-slot P (None ∷ rules) zero v h is = none-is v is
at-slot P (None ∷ rules) (suc slot) v h is = at-slot P rules slot v h is
at-slot P (Some u ∷ rules) zero v h is = subst (λ (x : Version). P x.number) (some-is u v is) h.0
at-slot P (Some u ∷ rules) (suc slot) v h is = at-slot P rules slot v h.1 is

-- If no two slots have versions with the same number, then the number of v, the version in `slot`, comes exactly once
-- among the numbers in all slots.
once-at : (rules : List (Option Version)) (slot : ℕ) (v : Version) → IsDistinct (λ a b. a == b) (rule_numbers rules)
    → slice_index_or rules slot None ≡ Some v → times v.number (rule_numbers rules) ≡ 1
once-at [] slot v d is = none-is v is
once-at (None ∷ rules) zero v d is = none-is v is
once-at (None ∷ rules) (suc slot) v d is = once-at rules slot v d is
once-at (Some u ∷ rules) zero v d is =
    subst (λ (x : Version). times x.number (u.number ∷ rule_numbers rules) ≡ 1) (some-is u v is)
    (first-once u.number (rule_numbers rules) (IsDistinct-head (λ a b. a == b) u.number (rule_numbers rules) d))
once-at (Some u ∷ rules) (suc slot) v d is =
    let apart : (u.number == v.number) ≡ false =
    at-slot (λ n. (u.number == n) ≡ false) rules slot v (IsDistinct-head (λ a b. a == b) u.number (rule_numbers rules) d) is in
    let other : (v.number == u.number) ≡ false = grind (arith, nat_tests, apart) in
    let rest = once-at rules slot v (IsDistinct-tail (λ a b. a == b) u.number (rule_numbers rules) d) is in
    sum_by-cons (λ k. if v.number == k then 1 else 0) u.number (rule_numbers rules) ∙ (λ i. (if other i then 1 else 0) + rest i)

low-numbers : (m : ℕ) (rules : List (Option Version)) → All (IsRule m) rules → AllByRecursion (λ n. n ≤ m) (rule_numbers rules)
low-numbers m [] h = tt
low-numbers m (None ∷ rules) h = low-numbers m rules (All-tail (IsRule m) None rules h)
low-numbers m (Some v ∷ rules) h =
    ((All-head (IsRule m) (Some v) rules h).1, low-numbers m rules (All-tail (IsRule m) (Some v) rules h))

-- the numbers of the versions that are carried in from the day before
abbrev olds : ConfigValue → List ℕ
olds config = map (λ (rule : CarriedRule). rule.version) (carried_rules config)

are-numbers : (slot : ℕ) (rules : List (Option Version)) → map (λ (rule : CarriedRule). rule.version) (carried_from slot rules) ≡ rule_numbers rules
are-numbers slot [] = refl
are-numbers slot (None ∷ rules) = are-numbers (slot + 1) rules
are-numbers slot (Some v ∷ rules) = ap (λ ns. v.number ∷ ns) (are-numbers (slot + 1) rules)

-- For each version in force when the day begins: its number comes exactly once among the numbers of the versions
-- carried in, and is at most `versions_before`, the count of versions loaded before the day.
abbrev Opens : ConfigValue → Type 0
Opens config = (slot : ℕ) (v : Version) → opening_rule config slot ≡ Some v → (times v.number (olds config) ≡ 1) × (v.number ≤ versions_before config)

abbrev AreLow : ConfigValue → List ℕ → Type 0
AreLow config ns = AllByRecursion (λ n. n ≤ versions_before config) ns

opens : (config : ConfigValue) (o : Option OpeningValue) → HasValidOpening config → config.opening ≡ o → Opens config × AreLow config (olds config)
opens config None good is = (
  λ slot v h. none-is v (sym (ap (λ x. elim x as (λ _. Option Version) [ None ↦ None | Some y ↦ slice_index_or y.rules slot None ]) is) ∙ h),
  subst (λ x. AreLow config (map (λ (rule : CarriedRule). rule.version) (elim x as (λ _. List CarriedRule) [ None ↦ [] | Some y ↦ carried_from 0 y.rules ]))) (sym is) tt,
)
opens config (Some o) good is =
    let fits : IsOpening (length config.points) o = good o is in
    let numbers : olds config ≡ rule_numbers o.rules =
    ap (λ x. map (λ (rule : CarriedRule). rule.version) (elim x as (λ _. List CarriedRule) [ None ↦ [] | Some y ↦ carried_from 0 y.rules ])) is
    ∙ are-numbers 0 o.rules in
    let before : versions_before config ≡ o.versions = ap (λ x. elim x as (λ _. ℕ) [ None ↦ 0 | Some y ↦ y.versions ]) is in
    let low : AreLow config (rule_numbers o.rules) =
    subst (λ m. AllByRecursion (λ n. n ≤ m) (rule_numbers o.rules)) (sym before) (low-numbers o.versions o.rules fits.rules) in (
      λ slot v h. let at : slice_index_or o.rules slot None ≡ Some v =
          sym (ap (λ x. elim x as (λ _. Option Version) [ None ↦ None | Some y ↦ slice_index_or y.rules slot None ]) is) ∙ h in (
            ap (times v.number) numbers ∙ once-at o.rules slot v fits.distinct at,
            at-slot (λ n. n ≤ versions_before config) o.rules slot v low at,
          ),
      subst (AreLow config) (sym numbers) low,
    )

-- ---- These lemmas show: the decisions of all versions of the day add up to the number of decisions, if each decision
-- is by a version of the day, and no version carried in from the day before has a number over `versions_before` (the
-- count of versions loaded before the day).

-- v is the number of a version of a day with n accepted loads. Either exactly one version that was carried in has this
-- number, or one of the n loads gave this number to its version.
abbrev IsVersion : ConfigValue → ℕ → ℕ → Type 0
IsVersion config n v =
    ((times v (olds config) ≡ 1) × (v ≤ versions_before config)) ⊎ ((versions_before config < v) × (v ≤ versions_before config + n))

version-more : (config : ConfigValue) (n m v : ℕ) → n ≤ m → IsVersion config n v → IsVersion config m v
version-more config n m v le (inl old) = inl old
version-more config n m v le (inr new) = let l : v ≤ versions_before config + n = new.1 in inr (new.0, omega (arith, l, le))

abbrev IsByVersion : ConfigValue → ℕ → Decision → Type 0
IsByVersion config n d = IsVersion config n d.version

-- the version numbers of a day with n loads: those carried in, then those of the loads
abbrev numbers_with : ConfigValue → ℕ → List ℕ
numbers_with config n = olds config ++ range_with_len (versions_before config + 1) n

once-of : (config : ConfigValue) (n v : ℕ) → AreLow config (olds config) → IsVersion config n v
    → times v (numbers_with config n) ≡ 1
once-of config n v low (inl old) =
    let le : v ≤ versions_before config = old.1 in
    sum_by-append (λ k. if v == k then 1 else 0) (olds config) (range_with_len (versions_before config + 1) n)
    ∙ (λ i. old.0 i + none-key (versions_before config + 1) n v 1 (omega (arith, le)) i)
once-of config n v low (inr new) =
    let lt : versions_before config < v = new.0 in
    let le : v ≤ versions_before config + n = new.1 in
    sum_by-append (λ k. if v == k then 1 else 0) (olds config) (range_with_len (versions_before config + 1) n)
    ∙ (λ i. above-none v (versions_before config) (olds config) low lt i
    + one-key (versions_before config + 1) n v 1 (omega (arith, lt)) (omega (arith, le)) i)

all-versions : (config : ConfigValue) (n : ℕ) (ds : List Decision) → AreLow config (olds config) → All (IsByVersion config n) ds
    → sum_by (λ v. count_by (λ (d : Decision). d.version == v) ds) (numbers_with config n) ≡ length ds
all-versions config n [] low fits = no-keys (numbers_with config n)
all-versions config n (d ∷ ds) low fits =
    let one : ℕ → ℕ = λ v. if d.version == v then 1 else 0 in
    let rest : ℕ → ℕ = λ v. count_by (λ (x : Decision). x.version == v) ds in
    let sums = add-keys one rest (numbers_with config n) in
    let first = once-of config n d.version low (All-head (IsByVersion config n) d ds fits) in
    let later = all-versions config n ds low (All-tail (IsByVersion config n) d ds fits) in
    (λ i. sum_by (λ v. sum_by-cons (λ (x : Decision). if x.version == v then 1 else 0) d ds i) (numbers_with config n)) ∙ omega (arith, sums, first, later)

-- ---- These lemmas show that each version in force, when the day begins or later, is a version of the day: it was
-- carried in from the day before or loaded in the day (`IsVersion`). For this, the number of each version in force when
-- the day begins must come exactly once among the numbers of the versions carried in, and must be at most
-- `versions_before` (`Opens`).

if-force : (config : ConfigValue) (b : Bool) (n : ℕ) (p : ProgramText) (o : Option Version) (v : Version) → (o ≡ Some v → IsVersion config n v.number)
    → (if b then Some (record { number = versions_before config + n + 1; program = p }) else o) ≡ Some v → IsVersion config (n + 1) v.number
if-force config true n p o v earlier h =
    let e : ◌≡◌ {A = Version} (record { number = versions_before config + n + 1; program = p }) v = cc in
    let is : versions_before config + n + 1 ≡ v.number = ap (λ (x : Version). x.number) e in
    inr (omega (arith, is), omega (arith, is))
if-force config false n p o v earlier h = version-more config n (n + 1) v.number (omega arith) (earlier h)

force-more : (config : ConfigValue) (slot : ℕ) (earlier : List Entry) (v : Version) (o : Option (ℕ × ProgramText))
    → (in_force config slot earlier ≡ Some v → IsVersion config (versions earlier) v.number)
    → (elim o as (λ _. Option Version) [
      | Some l ↦ if l.0 == slot then Some (record { number = versions_before config + versions earlier + 1; program = l.1 })
          else in_force config slot earlier
      | None ↦ in_force config slot earlier
    ]) ≡ Some v
    → IsVersion config (elim o as (λ _. ℕ) [ Some _ ↦ versions earlier + 1 | None ↦ versions earlier ]) v.number
force-more config slot earlier v None h is = h is
force-more config slot earlier v (Some l) h is =
    if-force config (l.0 == slot) (versions earlier) l.1 (in_force config slot earlier) v h is

in-range : (config : ConfigValue) (first : Opens config) (slot : ℕ) (past : List Entry) (v : Version) → in_force config slot past ≡ Some v
    → IsVersion config (versions past) v.number
in-range config first slot [] v h = inl (first slot v h)
in-range config first slot (entry ∷ earlier) v h =
    force-more config slot earlier v (loaded entry.act entry.reply) (in-range config first slot earlier v) h

-- ---- `DecidesOne` says: if the reply to an act is a grant or S24 (a denial by a program), then there is exactly one
-- decision, and it is by a version of the day. For any other reply there is no decision.

record DecidesOne (config : ConfigValue) (past : List Entry) (a : Act) (r : Reply) : Type 0 where
  count : length (option_to_list (decisions.decided a r)) ≡ (if is_decided r then 1 else 0)
  fits : All (IsByVersion config (versions past)) (option_to_list (decisions.decided a r))

verdict-none : (r : Reply) → is_decided r ≡ false → verdict_of r ≡ None
verdict-none (reply.Granted g v) h = absurd (cc)
verdict-none (reply.Refused n None) h = refl
verdict-none (reply.Refused n (Some v)) h = ap (λ b. if b then Some (v, false) else None) h
verdict-none _ h = refl

-- The decision on a request of this kind, if the verdict w is there.
abbrev decided_as : ℕ → Option RequestKind → Option (ℕ × Bool) → Option Decision
decided_as till o w =
    elim o [
      | None ↦ None
      | Some a ↦ elim w [ None ↦ None | Some v ↦ Some (record { till = till; asked = a; version = v.0; is_granted = v.1 }) ]
    ]

ask-none : (till : ℕ) (o : Option RequestKind) → decided_as till o None ≡ None
ask-none till None = refl
ask-none till (Some a) = refl

act-none : (a : Act) (r : Reply) → is_decided r ≡ false → decisions.decided a r ≡ None
act-none (act.Till till q) r h = ap (decided_as till (kind_of_request q)) (verdict-none r h) ∙ ask-none till (kind_of_request q)
act-none (act.Dispenser n event) r h = refl
act-none (act.Load slot mask layout bytes) r h = refl

quiet : (config : ConfigValue) (past : List Entry) (a : Act) (r : Reply) → is_decided r ≡ false → DecidesOne config past a r
quiet config past a r h =
    let none = act-none a r h in
    record {
      count = ap (λ o. length (option_to_list o)) none ∙ ap (λ (b : Bool). if b then 1 else 0) (sym h);
      fits = subst (λ o. All (IsByVersion config (versions past)) (option_to_list o)) (sym none) (All-nil (IsByVersion config (versions past)));
    }

-- Let q be a request that a rule decides, and let v be a version of the day. If the reply r to q is the verdict of v (a
-- grant if g is true, or else a denial), then r counts as exactly one decision.
one-decides : (config : ConfigValue) (past : List Entry) (till : ℕ) (q : Request) (x : RequestKind) (r : Reply) (v : Version) (g : Bool)
    → kind_of_request q ≡ Some x → verdict_of r ≡ Some (v.number, g) → is_decided r ≡ true
    → IsVersion config (versions past) v.number → DecidesOne config past (act.Till till q) r
one-decides config past till q x r v g asks gives is range =
    let made : decisions.decided (act.Till till q) r ≡ Some (record { till = till; asked = x; version = v.number; is_granted = g }) =
    (λ i. decided_as till (asks i) (gives i)) in
    record {
      count = ap (λ o. length (option_to_list o)) made ∙ ap (λ (b : Bool). if b then 1 else 0) (sym is);
      fits = subst (λ o. All (IsByVersion config (versions past)) (option_to_list o)) (sym made) (All-cons (IsByVersion config (versions past)) _ [] range (All-nil (IsByVersion config (versions past))));
    }

verdict-decides : (config : ConfigValue) (past : List Entry) (s : SiteState) (till moment : ℕ) (q : Question) (v : Version) (n : ℕ) (c : Counters) (r : Request)
    (x : RequestKind) (b : Bool) → (n == 0) ≡ b → kind_of_request r ≡ Some x → IsVersion config (versions past) v.number
    → DecidesOne config past (act.Till till r) (verdict s till moment q v n c).reply
verdict-decides config past s till moment q v n c r x true is asks range =
    subst (λ e. DecidesOne config past (act.Till till r) e.reply) (sym (verdict-deny s till moment n q v c is))
    (one-decides config past till r x (denied v.number) v false asks refl refl range)
verdict-decides config past s till moment q v n c r x false is asks range =
    let g = grant (record s { counters = c }) till q n in
    subst (λ e. DecidesOne config past (act.Till till r) e.reply) (sym (verdict-grant s till moment n g.0 q v c g.1 is refl))
    (one-decides config past till r x (reply.Granted g.0 v.number) v true asks refl refl range)

version-decides : (config : ConfigValue) (first : Opens config) (past : List Entry) (s : SiteState) (till moment : ℕ) (q : Question) (r : Request)
    (x : RequestKind) (o : Option Version) → in_force config q.slot past ≡ o → kind_of_request r ≡ Some x
    → DecidesOne config past (act.Till till r) (decided config past s till moment (Ok q)).reply
version-decides config first past s till moment q r x None none asks =
    subst (λ e. DecidesOne config past (act.Till till r) e.reply) (sym (decided-none config past s till moment q none)) (quiet config past (act.Till till r) _ refl)
version-decides config first past s till moment q r x (Some v) some asks =
    let y : ℕ × Counters = run_result (outcome v.program (bytes_of (context v.program.layout s till moment q)) (view_of s) s.counters) s.counters in
    subst (λ e. DecidesOne config past (act.Till till r) e.reply) (sym (decided-some config past s till moment q v some))
    (verdict-decides config past s till moment q v y.0 y.1 r x (y.0 == 0) refl asks (in-range config first q.slot past v some))

question-decides : (config : ConfigValue) (first : Opens config) (past : List Entry) (s : SiteState) (till moment : ℕ) (r : Request) (x : RequestKind)
    (y : Result Question Reply) → refuses y ≡ false → kind_of_request r ≡ Some x
    → DecidesOne config past (act.Till till r) (decided config past s till moment y).reply
question-decides config first past s till moment r x (Err f) undecided asks =
    subst (λ e. DecidesOne config past (act.Till till r) e.reply) (sym (decided-refused config past s till moment f))
    (quiet config past (act.Till till r) f undecided)
question-decides config first past s till moment r x (Ok y) undecided asks =
    version-decides config first past s till moment y r x (in_force config y.slot past) refl asks

-- ---- These lemmas show that the reply to an event, to a load, or to a request that no rule decides is neither a grant
-- nor S24 (a denial by a program).

fault-no : (f : PointFault) → is_decided (fault_reply f) ≡ false
fault-no (WrongState state) = refl
fault-no _ = refl

show-no : (s : SiteState) (n : ℕ) (o : Option PointState) → at_number s.points n ≡ o → is_decided (show_reply s n) ≡ false
unfolding show_reply
show-no s n None at = rw (at, show_reply) refl
show-no s n (Some p) at = rw (at, show_reply) refl

command-no : (s : SiteState) (n : ℕ) (a : StepResult (Option ℕ)) → is_decided (command_effect s n a).reply ≡ false
command-no s n (Ok (p, cleared)) = refl
command-no s n (Err f) = fault-no f

till_command_effect-no : (s : SiteState) (till n : ℕ) (c : Command) (o : Option PointState) → at_number s.points n ≡ o → is_decided (till_command_effect s till n c).reply ≡ false
till_command_effect-no s till n c None at = ap (λ e. is_decided e.reply) (till_command_effect-none s till n c at)
till_command_effect-no s till n c (Some p) at = ap (λ e. is_decided e.reply) (till_command_effect-some s till n c p at) ∙ command-no s n (command_step (price_of s p.nozzle) p till c)

order-no : (o : Option Order) → is_decided (order_reply o) ≡ false
order-no None = refl
order-no (Some x) = refl

event-no : (s : SiteState) (n : ℕ) (a : StepResult (Option Order)) → is_decided (event_effect s n a).reply ≡ false
event-no s n (Ok (p, o)) = order-no o
event-no s n (Err f) = fault-no f

dispenser_effect-no : (s : SiteState) (n : ℕ) (event : DispenserEvent) (o : Option PointState) → at_number s.points n ≡ o
    → is_decided (dispenser_effect s n event).reply ≡ false
dispenser_effect-no s n event None at = ap (λ e. is_decided e.reply) (dispenser_effect-none s n event at)
dispenser_effect-no s n event (Some p) at = ap (λ e. is_decided e.reply) (dispenser_effect-some s n event p at) ∙ event-no s n (event_step (price_of s p.nozzle) p event)

-- A request that asks a question is one that a rule decides.
abbrev Asks : Request → RequestAction → Type 0
Asks r (action.Decision q) = (x : RequestKind) × (kind_of_request r ≡ Some x)
Asks r _ = Unit {0}

asks : (config : ConfigValue) (r : Request) → Asks r (request_action config r)
asks config (request.Release n amount) = (kinds.Release, refl)
asks config (request.Preset n amount) = (kinds.Preset, refl)
asks config (request.Price product price) = (kinds.Price, refl)
asks config _ = tt

-- ---- These lemmas show `DecidesOne` for any act and the site's reply to it: a grant or S24 (a denial by a program) is
-- one decision by a version of the day, and any other reply is none. For this, the number of each version in force
-- when the day begins must come exactly once among the numbers of the versions carried in, and must be at most
-- `versions_before` (`Opens`).

action-decides : (config : ConfigValue) (first : Opens config) (past : List Entry) (s : SiteState) (till moment : ℕ) (r : Request) (a : RequestAction)
    → Asks r a → DecidesOne config past (act.Till till r) (effect_of config past s till moment a).reply
action-decides config first past s till moment r (action.Decision q) does =
    question-decides config first past s till moment r does.0 (admitted s q) (admitted-no s q) does.1
action-decides config first past s till moment r (action.Command n c) does =
    quiet config past (act.Till till r) _ (till_command_effect-no s till n c (at_number s.points n) refl)
action-decides config first past s till moment r (action.Show n) does = quiet config past (act.Till till r) _ (show-no s n (at_number s.points n) refl)

till-decides : (config : ConfigValue) (first : Opens config) (past : List Entry) (s : SiteState) (till moment : ℕ) (r : Request) (b : Bool)
    → DecidesOne config past (act.Till till r) (if b then asked config past s till moment r else replied no_such_till s).reply
till-decides config first past s till moment r true =
    action-decides config first past s till moment r (request_action config r) (asks config r)
till-decides config first past s till moment r false = quiet config past (act.Till till r) no_such_till refl

effect-decides : (config : ConfigValue) (first : Opens config) (past : List Entry) (s : SiteState) (moment : ℕ) (a : Act) → DecidesOne config past a (effect config past s moment a).reply
effect-decides config first past s moment (act.Till till r) = till-decides config first past s till moment r (is_till config till)
effect-decides config first past s moment (act.Dispenser n event) = quiet config past (act.Dispenser n event) _ (dispenser_effect-no s n event (at_number s.points n) refl)
effect-decides config first past s moment (act.Load slot mask layout bytes) =
    quiet config past (act.Load slot mask layout bytes) _ (effect-iff-run config past s moment (act.Load slot mask layout bytes))

-- ---- If `DecidesOne` is true for an entry's act and reply, then the entry itself has one decision if its reply is a
-- grant or S24 (a denial by a program), and otherwise none.

entry-decides : (config : ConfigValue) (past : List Entry) (entry : Entry) → DecidesOne config past entry.act entry.reply
    → (length (option_to_list (decision_of entry)) ≡ (if is_decided entry.reply then 1 else 0))
    × All (IsByVersion config (versions past)) (option_to_list (decision_of entry))
unfolding decision_of
entry-decides config past entry d = (d.count, d.fits)

one-decision : (entry : Entry) (o : Option Decision) → decision_of entry ≡ o → filter_map decision_of (entry ∷ []) ≡ option_to_list o
one-decision entry None is = rw is refl
one-decision entry (Some d) is = rw is refl

-- ---- These lemmas show that the versions loaded in a day have successive numbers, from `versions_before` + 1 on
-- (`versions_before` is the count of versions loaded before the day).

abbrev numbers : List Load → List ℕ
numbers ls = map (λ (load : Load). load.version) ls

range-push : (a n : ℕ) → range_with_len a (n + 1) ≡ range_with_len a n ++ (a + n) ∷ []
range-push a zero = ap (λ k. k ∷ []) (omega arith)
range-push a (suc n) =
    let one : suc n + 1 ≡ suc (n + 1) = omega arith in
    let same : a + 1 + n ≡ a + suc n = omega arith in
    ap (range_with_len a) one
    ∙ ap (λ l. a ∷ l) (range-push (a + 1) n ∙ ap (λ k. range_with_len (a + 1) n ++ k ∷ []) same)

-- If the act and its reply are an accepted load, then the loaded version has the next version number. Otherwise no
-- version is loaded.
abbrev Numbers : ConfigValue → List Entry → Act → Reply → Type 0
Numbers config past a r =
    (number moment : ℕ) → numbers (option_to_list (loaded_at number moment a r))
    ≡ (elim (loaded a r) as (λ _. List ℕ) [ Some _ ↦ (versions_before config + versions past + 1) ∷ [] | None ↦ [] ])

load-numbers : (config : ConfigValue) (past : List Entry) (slot mask : ℕ) (layout : Layout) (bytes : List ℕ) (b c : Bool)
    → Numbers config past (act.Load slot mask layout bytes)
    (if b then if c then reply.Version (versions_before config + versions past + 1) else refused 30 else refused 32)
load-numbers config past slot mask layout bytes true true = λ number moment. refl
load-numbers config past slot mask layout bytes true false = λ number moment. refl
load-numbers config past slot mask layout bytes false c = λ number moment. refl

effect-numbers : (config : ConfigValue) (past : List Entry) (s : SiteState) (moment : ℕ) (a : Act) → Numbers config past a (effect config past s moment a).reply
effect-numbers config past s moment (act.Till till r) = λ number moment. refl
effect-numbers config past s moment (act.Dispenser n event) = λ number moment. refl
effect-numbers config past s moment (act.Load slot mask layout bytes) =
    load-numbers config past slot mask layout bytes (nat_le slot 15) (nat_lt (versions past) 4096)

numbers-more : (before n : ℕ) (o : Option (ℕ × ProgramText))
    → range_with_len (before + 1) n ++ (elim o as (λ _. List ℕ) [ Some _ ↦ (before + n + 1) ∷ [] | None ↦ [] ])
    ≡ range_with_len (before + 1) (elim o as (λ _. ℕ) [ Some _ ↦ n + 1 | None ↦ n ])
numbers-more before n None = append-nil (range_with_len (before + 1) n)
numbers-more before n (Some l) =
    let same : before + n + 1 ≡ before + 1 + n = omega arith in
    ap (λ k. range_with_len (before + 1) n ++ k ∷ []) same ∙ sym (range-push (before + 1) n)

entry-numbers : (config : ConfigValue) (past : List Entry) (moment : ℕ) (entry : Entry) → Numbers config past entry.act entry.reply
    → range_with_len (versions_before config + 1) (versions past) ++ numbers (option_to_list (load_of moment entry))
    ≡ range_with_len (versions_before config + 1) (versions (entry ∷ past))
unfolding load_of
entry-numbers config past moment entry one =
    ap (λ ns. range_with_len (versions_before config + 1) (versions past) ++ ns) (one entry.number moment)
    ∙ numbers-more (versions_before config) (versions past) (loaded entry.act entry.reply)

versions-more : (n : ℕ) (o : Option (ℕ × ProgramText)) → n ≤ (elim o as (λ _. ℕ) [ Some _ ↦ n + 1 | None ↦ n ])
versions-more n None = omega arith
versions-more n (Some l) = omega arith

-- ---- These lemmas show by induction that `Comes` is true for any legal history. For this, the number of each version
-- in force when the day begins must come exactly once among the numbers of the versions carried in, and must be at most
-- `versions_before` (`Opens`). `Comes` says of the history `past`, newest entry first:
-- - There are as many decisions as replies that are a grant or S24 (a denial by a program).
-- - All decisions are by versions of the day.
-- - The versions loaded in the day have successive numbers, from `versions_before` + 1 on.

record Comes (config : ConfigValue) (past : List Entry) : Type 0 where
  count : length (filter_map decision_of (reverse past)) ≡ count_by (λ (e : Entry). is_decided e.reply) (reverse past)
  fits : All (IsByVersion config (versions past)) (filter_map decision_of (reverse past))
  loaded : numbers (loads 0 (reverse past)) ≡ range_with_len (versions_before config + 1) (versions past)

comes-more : (config : ConfigValue) (past : List Entry) (entry : Entry) → DecidesOne config past entry.act entry.reply
    → Numbers config past entry.act entry.reply → Comes config past → Comes config (entry ∷ past)
comes-more config past entry one numbered h =
    let turned : reverse (entry ∷ past) ≡ reverse past ++ entry ∷ [] = reverse-append (entry ∷ []) past in
    let e = entry-decides config past entry one in
    let last : filter_map decision_of (entry ∷ []) ≡ option_to_list (decision_of entry) = one-decision entry (decision_of entry) refl in
    let split : filter_map decision_of (reverse (entry ∷ past)) ≡ filter_map decision_of (reverse past) ++ option_to_list (decision_of entry) =
    ap (filter_map decision_of) turned ∙ filter_map-append decision_of (reverse past) (entry ∷ []) ∙ ap
    (λ xs. filter_map decision_of (reverse past) ++ xs) last in
    let counts = ap (λ h. count_by (λ (x : Entry). is_decided x.reply) h) turned ∙ sum_by-append
    (λ (x : Entry). if is_decided x.reply then 1 else 0) (reverse past) (entry ∷ []) in
    let single = sum_by-cons (λ (x : Entry). if is_decided x.reply then 1 else 0) entry [] in
    let before = h.count in
    let long = ap length split ∙ length-append (filter_map decision_of (reverse past)) (option_to_list (decision_of entry)) in
    let first = e.0 in
    let none : sum_by (λ (x : Entry). if is_decided x.reply then 1 else 0) [] ≡ 0 = refl in
    let moment : ℕ = fold moment_after 0 (reverse past) in
    let pushed : numbers (loads 0 (reverse (entry ∷ past))) ≡ numbers (loads 0 (reverse past)) ++ numbers (option_to_list (load_of moment entry)) =
    ap (λ h. numbers (loads 0 h)) turned ∙ ap numbers (loads-push 0 (reverse past) entry)
    ∙ map-append (λ (load : Load). load.version) (loads 0 (reverse past)) (option_to_list (load_of moment entry)) in
    let more : versions past ≤ versions (entry ∷ past) = versions-more (versions past) (loaded entry.act entry.reply) in
    record {
      count = omega (arith, counts, single, before, long, first, none);
      fits = subst (All (IsByVersion config (versions (entry ∷ past)))) (sym split)
          (All-weaker (IsByVersion config (versions past)) (IsByVersion config (versions (entry ∷ past)))
          (λ d (is : IsByVersion config (versions past) d). version-more config (versions past) (versions (entry ∷ past)) d.version more is) _
          (All-append (IsByVersion config (versions past)) (filter_map decision_of (reverse past)) (option_to_list (decision_of entry)) h.fits e.1));
      loaded = pushed ∙ ap (λ ns. ns ++ numbers (option_to_list (load_of moment entry))) h.loaded ∙ entry-numbers config past moment entry numbered;
    }

comes : (config : ConfigValue) (first : Opens config) (past : List Entry) (s : SiteState) → Legal config past s → Comes config past
comes config first [] s l = record { count = refl; fits = All-nil (IsByVersion config 0); loaded = refl }
comes config first (entry ∷ past) s l =
    let e : Effect = effect config past l.0 entry.moment entry.act in
    let answered : entry.reply ≡ e.reply = ap (λ (x : Entry). x.reply) l.3.enters in
    comes-more config past entry (subst (DecidesOne config past entry.act) (sym answered) (effect-decides config first past l.0 entry.moment entry.act))
    (subst (Numbers config past entry.act) (sym answered) (effect-numbers config past l.0 entry.moment entry.act)) (comes config first past l.0 l.1)

pub versions-count-all : VersionsCountAllDecisions
versions-count-all config history state good legal =
    let begins : Opens config × AreLow config (olds config) = opens config config.opening good refl in
    let c : Comes config (reverse history) = comes config begins.0 (reverse history) state legal in
    let same : reverse (reverse history) ≡ history = reverse-reverse history in
    let n : ℕ = versions (reverse history) in
    let ds = filter_map decision_of history in
    let all : versions_of config history ≡ numbers_with config n =
    ap (λ ns. olds config ++ ns) (ap (λ h. numbers (loads 0 h)) (sym same) ∙ c.loaded) in
    let fits : All (IsByVersion config n) ds = subst (λ h. All (IsByVersion config n) (filter_map decision_of h)) same c.fits in
    let count : length ds ≡ count_by (λ (x : Entry). is_decided x.reply) history =
    subst (λ h. length (filter_map decision_of h) ≡ count_by (λ (x : Entry). is_decided x.reply) h) same c.count in
    (λ i. sum_by (λ v. six v ds i) (all i)) ∙ all-versions config n ds begins.1 fits ∙ count
