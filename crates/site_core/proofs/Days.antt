-- On the next day an event has the same effect as if the day before had gone on, as long as the two days together have
-- fewer than 4,096 versions.
use Rattle.std.proofs.Common.{◌≡◌, ℕ, ◌+◌, ◌-◌, ◌<◌, ◌≤◌, List, [], ◌∷◌, ◌++◌, length, map, Option, Some, None, refl, ap, sym, subst, arith, get_or, zero, suc}
use Rattle.std.proofs.Common.{Bool, true, false}
use Rattle.std.specs.Prelude.{reverse, ◌&&◌, ◌==◌, if◌then◌else◌, nat_lt, All, Result, Ok, Err, IfOk}
use Rattle.std.proofs.lemmas.Bool.Decides.{nat_tests}
use Rattle.std.proofs.lemmas.List.Elements.{All-head, All-tail}
use Rattle.std.proofs.lemmas.List.FromFn.{get_or-map-range_with_len}
use Rattle.decision_journal.specs.declared.entries.Entry.{Entry}
use Rattle.till_request.specs.declared.act.Request.{Request}
use Rattle.till_request.specs.declared.act.Request.TheVariants as request
use Rattle.till_request.specs.declared.act.Act.{Act}
use Rattle.till_request.specs.declared.act.Act.TheVariants as act
use Rattle.till_request.specs.declared.act.Reply.{Reply}
use Rattle.bpf_model.specs.Program.{ProgramText}
use Rattle.site_core.specs.SlotsValue.{Version}
use Rattle.fuelling_point.specs.Table.{PointState}
use Rattle.fuelling_point.specs.States.{is_ready}
use Rattle.fuelling_point.specs.declared.kinds.State.{State}
use Rattle.site_core.specs.declared.question.Kind.{Kind}
use Rattle.site_core.specs.declared.question.Kind.TheVariants.{Release, Preset, Price}
use Rattle.site_core.specs.declared.question.Question.{Question}
use Rattle.site_core.specs.declared.question.RequestAction.{RequestAction}
use Rattle.site_core.specs.declared.question.RequestAction.TheVariants as action
use Rattle.site_core.specs.Limits.{ConfigValue, IsConfig}
use Rattle.site_core.specs.State.{SiteState, first_busy, at_number}
use Rattle.site_core.specs.History.{loaded, in_force, versions, versions_before}
use Rattle.site_core.specs.Decide.{refuse_unless, is_within, has_room, bad_amount, wrong_state, no_such_point, transactions_full, admitted, asked_at, asked_at_point, price_at, request_action, decided, is_till, replied, no_such_till}
use Rattle.site_core.specs.Step.{effect, effect_of, asked, load_reply}
use Rattle.site_core.specs.Site.{SiteValue}
use Rattle.site_core.specs.Days.{next_day, with_number_raised}

-- The history of a site's day and of the next day together, newest entry first: the next day's entries, `later` (newest
-- first too), with numbers raised by the length of the site's history, and then the entries of the site.
abbrev pub followed : SiteValue → List Entry → List Entry
followed site later = map (with_number_raised (length site.history)) later ++ reverse site.history

-- The count of versions after an entry: one more than before it if the entry loaded a version.
abbrev counted : ℕ → Option (ℕ × ProgramText) → ℕ
counted n None = n
counted n (Some l) = n + 1

counted-sum : (all day before : ℕ) (o : Option (ℕ × ProgramText)) → all ≡ day + before → counted all o ≡ counted day o + before
counted-sum all day before None h = h
counted-sum all day before (Some l) h = omega arith

-- `followed`, the history of both days together, has as many versions as `later` and the site's history have together.
pub versions-followed : (site : SiteValue) (later : List Entry) → versions (followed site later) ≡ versions later + versions (reverse site.history)
versions-followed site [] = omega arith
versions-followed site (e ∷ later) =
    counted-sum (versions (followed site later)) (versions later) (versions (reverse site.history)) (loaded e.act e.reply) (versions-followed site later)

counted-more : (n : ℕ) (o : Option (ℕ × ProgramText)) → n ≤ counted n o
counted-more n None = omega arith
counted-more n (Some l) = omega arith

-- With one more entry there are at least as many versions.
pub versions-more : (e : Entry) (later : List Entry) → versions later ≤ versions (e ∷ later)
versions-more e later = counted-more (versions later) (loaded e.act e.reply)

-- The next version has the same number after the history of both days (`followed`) as after `later` on the next day.
next-number : (site : SiteValue) (later : List Entry) → versions_before site.config + versions (followed site later) + 1
    ≡ versions_before (next_day site) + versions later + 1
next-number site later = let n = versions-followed site later in omega arith

-- The version in force in slot `slot` after an entry. If the entry loaded a program into this slot, the version is this
-- program with the version number `number`. Otherwise it is `older`, the version in force before the entry.
abbrev newest : ℕ → ℕ → Option Version → Option (ℕ × ProgramText) → Option Version
newest slot number older None = older
newest slot number older (Some l) = if l.0 == slot then Some (record { number = number; program = l.1 }) else older

-- In each of slots 0 to 15 the same version is in force after the history of both days (`followed`) as after `later` on
-- the next day.
in_force-followed : (site : SiteValue) (slot : ℕ) (later : List Entry) → slot ≤ 15
    → in_force site.config slot (followed site later) ≡ in_force (next_day site) slot later
in_force-followed site slot [] h =
    sym (get_or-map-range_with_len (λ n. in_force site.config n (reverse site.history)) 0 16 slot slot None (omega arith) (omega arith))
in_force-followed site slot (e ∷ later) h =
    λ i. newest slot (next-number site later i) (in_force-followed site slot later h i) (loaded e.act e.reply)

-- If a request asks a program a question, the program's slot is 0 to 15.
abbrev IsWithin : RequestAction → Type 0
IsWithin (action.Decision q) = q.slot ≤ 15
IsWithin _ = Unit {0}

point-slots : (points : List (ℕ × ℕ)) (k : ℕ) → All (λ p. (p.0 ≤ 15) × (p.1 ≤ 15)) points
    → ((get_or points k (0, 0)).0 ≤ 15) × ((get_or points k (0, 0)).1 ≤ 15)
point-slots [] k all = (omega arith, omega arith)
point-slots (p ∷ ps) zero all = All-head (λ (p : ℕ × ℕ). (p.0 ≤ 15) × (p.1 ≤ 15)) p ps all
point-slots (p ∷ ps) (suc k) all = point-slots ps k (All-tail (λ (p : ℕ × ℕ). (p.0 ≤ 15) × (p.1 ≤ 15)) p ps all)

action-within : (config : ConfigValue) (request : Request) → IsConfig config → IsWithin (request_action config request)
action-within config (request.Release n amount) is = (point-slots config.points (n - 1) is.slots).0
action-within config (request.Preset n amount) is = (point-slots config.points (n - 1) is.slots).1
action-within config (request.Price product price) is = is.price_slot
action-within config _ is = tt

-- If `rest` is the question q or a refusal, then so is what `refuse_unless` returns for it.
refuse_unless-kept : (q : Question) (test : Bool) (refusal : Reply) (rest : Result Question Reply) → IfOk rest (λ r. r ≡ q)
    → IfOk (refuse_unless test refusal rest) (λ r. r ≡ q)
refuse_unless-kept q true refusal rest h = h
refuse_unless-kept q false refusal rest h = tt

busy-kept : (q : Question) (busy : Option State) → IfOk (price_at busy q) (λ r. r ≡ q)
busy-kept q None = refuse_unless-kept q (is_within 1 q.product 8 && is_within 1 q.asked 9999999) bad_amount (Ok q) refl
busy-kept q (Some state) =
    refuse_unless-kept q (is_within 1 q.product 8 && is_within 1 q.asked 9999999) bad_amount (Err (wrong_state state)) tt

point-kept : (q : Question) (point : Option PointState)
    → IfOk (elim point [ None ↦ Err no_such_point | Some p ↦ asked_at p q ]) (λ r. r ≡ q)
point-kept q None = tt
point-kept q (Some p) =
    refuse_unless-kept q (is_within 1 q.asked 999999999) bad_amount
    (refuse_unless (is_ready p.state) (wrong_state p.state) (refuse_unless (has_room q.kind p) transactions_full (Ok q)))
    (refuse_unless-kept q (is_ready p.state) (wrong_state p.state) (refuse_unless (has_room q.kind p) transactions_full (Ok q))
    (refuse_unless-kept q (has_room q.kind p) transactions_full (Ok q) refl))

at_point-kept : (s : SiteState) (q : Question) → IfOk (asked_at_point s q) (λ r. r ≡ q)
unfolding asked_at_point
at_point-kept s q = point-kept q (at_number s.points q.point)

kind-kept : (s : SiteState) (q : Question) (k : Kind)
    → IfOk (elim k [ Price ↦ price_at (first_busy s) q | _ ↦ asked_at_point s q ]) (λ r. r ≡ q)
kind-kept s q Release = at_point-kept s q
kind-kept s q Preset = at_point-kept s q
kind-kept s q Price = busy-kept q (first_busy s)

-- If the question's slot is 0 to 15, its decision has the same effect after the history of both days (`followed`) as
-- after `later` on the next day.
decided-followed : (site : SiteValue) (later : List Entry) (s : SiteState) (till moment : ℕ) (q : Question) (r : Result Question Reply) → q.slot ≤ 15
    → IfOk r (λ x. x ≡ q) → decided site.config (followed site later) s till moment r ≡ decided (next_day site) later s till moment r
unfolding decided
decided-followed site later s till moment q (Err refusal) h same = refl
decided-followed site later s till moment q (Ok x) h same =
    let within : x.slot ≤ 15 = subst (λ (y : Question). y.slot ≤ 15) (sym same) h in
    rw (in_force-followed site x.slot later within, decided) refl

-- `a` is what a request leads to: a question to a program, a command to a point, or the display of a point's state. If
-- the slot of a question is 0 to 15 (`IsWithin`), then `a` has the same effect after the history of both days
-- (`followed`) as after `later` on the next day.
action-followed : (site : SiteValue) (later : List Entry) (s : SiteState) (till moment : ℕ) (a : RequestAction) → IsWithin a
    → effect_of site.config (followed site later) s till moment a ≡ effect_of (next_day site) later s till moment a
action-followed site later s till moment (action.Decision q) h = decided-followed site later s till moment q (admitted s q) h (kind-kept s q q.kind)
action-followed site later s till moment (action.Command n command) h = refl
action-followed site later s till moment (action.Show n) h = refl

-- A load has the same reply after the history of both days (`followed`) as after `later` on the next day, as long as
-- both together have fewer than 4,096 versions.
load-followed : (site : SiteValue) (later : List Entry) (slot : ℕ) → versions (reverse site.history) + versions later < 4096
    → load_reply site.config slot (followed site later) ≡ load_reply (next_day site) slot later
load-followed site later slot h =
    let sum = versions-followed site later in
    let long : nat_lt (versions (followed site later)) 4096 ≡ true = grind (arith, nat_tests) in
    let short : nat_lt (versions later) 4096 ≡ true = grind (arith, nat_tests) in
    rw (long, short, next-number site later) refl

-- An event has the same effect after the history of both days (`followed`) as after `later` on the next day, as long as
-- both together have fewer than 4,096 versions.
pub effect-followed : (site : SiteValue) (later : List Entry) (s : SiteState) (moment : ℕ) (act : Act) → IsConfig site.config
    → versions (reverse site.history) + versions later < 4096
    → effect site.config (followed site later) s moment act ≡ effect (next_day site) later s moment act
effect-followed site later s moment (act.Till till request) is h =
    let same : asked site.config (followed site later) s till moment request ≡ asked (next_day site) later s till moment request =
    action-followed site later s till moment (request_action site.config request) (action-within site.config request is) in
    ap (λ x. if is_till site.config till then x else replied no_such_till s) same
effect-followed site later s moment (act.Dispenser n event) is h = refl
effect-followed site later s moment (act.Load slot mask layout bytes) is h = ap (λ r. replied r s) (load-followed site later slot h)
