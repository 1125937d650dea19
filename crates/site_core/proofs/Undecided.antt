-- The reply to an act is a grant or S24 (a denial by a program) exactly if the site's step for this act runs a program.
use Rattle.std.proofs.Common.{◌≡◌, ℕ, ◌+◌, ◌&&◌, Bool, true, false, List, Option, Some, None, Result, Ok, Err, refl, ap, ◌∙◌, sym, subst}
use Rattle.std.specs.Prelude.{if◌then◌else◌, ◌==◌, nat_le, nat_lt, is_some}
use Rattle.fuelling_point.specs.Table.{PointState, StepResult, command_step, event_step}
use Rattle.fuelling_point.specs.States.{is_ready}
use Rattle.fuelling_point.specs.declared.kinds.State.{State}
use Rattle.fuelling_point.specs.declared.kinds.Command.{Command}
use Rattle.fuelling_point.specs.declared.kinds.DispenserEvent.{DispenserEvent}
use Rattle.fuelling_point.specs.declared.kinds.Order.{Order}
use Rattle.fuelling_point.specs.declared.kinds.PointFault.{PointFault}
use Rattle.fuelling_point.specs.declared.kinds.PointFault.TheVariants.{WrongState, TransactionsFull, NotYourTransaction, NoSuchTransaction, NoOrder, Unexpected}
use Rattle.decision_journal.specs.declared.entries.Entry.{Entry}
use Rattle.till_request.specs.declared.act.Request.{Request}
use Rattle.till_request.specs.declared.act.Act.{Act}
use Rattle.till_request.specs.declared.act.Act.TheVariants as act
use Rattle.till_request.specs.declared.act.Reply.{Reply}
use Rattle.till_request.specs.declared.act.Reply.TheVariants as reply
use Rattle.bpf_model.specs.Machine.{Counters}
use Rattle.bpf_model.specs.Program.{outcome}
use Rattle.site_core.specs.SlotsValue.{Version}
use Rattle.bpf_model.specs.Layouts.{bytes_of}
use Rattle.site_core.specs.declared.question.Kind.{Kind}
use Rattle.site_core.specs.declared.question.Kind.TheVariants.{Release, Preset, Price}
use Rattle.site_core.specs.declared.question.Question.{Question}
use Rattle.site_core.specs.declared.question.RequestAction.{RequestAction}
use Rattle.site_core.specs.declared.question.RequestAction.TheVariants as action
use Rattle.site_core.specs.Limits.{ConfigValue}
use Rattle.site_core.specs.State.{SiteState, at_number, first_busy, price_of, view_of}
use Rattle.site_core.specs.Context.{context}
use Rattle.site_core.specs.History.{versions_before, in_force, versions}
use Rattle.site_core.specs.Decide.{Effect, replied, refused, no_such_till, is_decided, is_till, is_within, has_room, bad_amount, transactions_full, wrong_state}
use Rattle.site_core.specs.Decide.{refuse_unless, request_action, admitted, asked_at_point, price_at}
use Rattle.site_core.specs.Decide.{decided, verdict, run_result, grant}
use Rattle.site_core.specs.Step.{effect, effect_of, asked, till_command_effect, command_effect, dispenser_effect, event_effect}
use Rattle.site_core.specs.Step.{order_reply, fault_reply, show_reply}
use Rattle.site_core.proofs.Points.{asked-none, asked-some, till_command_effect-none, till_command_effect-some, dispenser_effect-none, dispenser_effect-some}
use Rattle.site_core.proofs.Decisions.{decided-refused, decided-none, decided-some}
use Rattle.site_core.proofs.Grants.{verdict-deny, verdict-grant}

-- ---- a refusal before a program is looked for is neither a grant nor S24 (a denial by a program)

abbrev pub refuses : Result Question Reply → Bool
refuses (Ok q) = false
refuses (Err r) = is_decided r

three-no : (a b c : Bool) (x y z : Reply) (q : Question) → is_decided x ≡ false → is_decided y ≡ false → is_decided z ≡ false
    → refuses (refuse_unless a x (refuse_unless b y (refuse_unless c z (Ok q)))) ≡ false
three-no true true true x y z q hx hy hz = refl
three-no true true false x y z q hx hy hz = hz
three-no true false c x y z q hx hy hz = hy
three-no false b c x y z q hx hy hz = hx

asked_at_point-no : (s : SiteState) (q : Question) (o : Option PointState) → at_number s.points q.point ≡ o → refuses (asked_at_point s q) ≡ false
asked_at_point-no s q None at = ap refuses (asked-none s q at)
asked_at_point-no s q (Some p) at =
    ap refuses (asked-some s q p at) ∙ three-no (is_within 1 q.asked 999999999) (is_ready p.state) (has_room q.kind p) bad_amount (wrong_state p.state)
    transactions_full q refl refl refl

busy-no : (b : Bool) (busy : Option State) (q : Question)
    → refuses (refuse_unless b bad_amount (elim busy as (λ _. Result Question Reply) [ Some state ↦ Err (wrong_state state) | None ↦ Ok q ])) ≡ false
busy-no true None q = refl
busy-no true (Some state) q = refl
busy-no false busy q = refl

price_at-no : (busy : Option State) (q : Question) → refuses (price_at busy q) ≡ false
price_at-no busy q = busy-no (is_within 1 q.product 8 && is_within 1 q.asked 9999999) busy q

kind-no : (s : SiteState) (q : Question) (k : Kind) → refuses (elim k [ Price ↦ price_at (first_busy s) q | _ ↦ asked_at_point s q ]) ≡ false
kind-no s q Release = asked_at_point-no s q (at_number s.points q.point) refl
kind-no s q Preset = asked_at_point-no s q (at_number s.points q.point) refl
kind-no s q Price = price_at-no (first_busy s) q

pub admitted-no : (s : SiteState) (q : Question) → refuses (admitted s q) ≡ false
admitted-no s q = kind-no s q q.kind

-- ---- for each event the reply is a grant or S24 (a denial by a program) exactly if a program is run

abbrev DecidedIffRun : Effect → Type 0
DecidedIffRun e = is_decided e.reply ≡ is_some e.run

verdict-iff-run : (s : SiteState) (till moment : ℕ) (q : Question) (v : Version) (r : ℕ) (c : Counters) (b : Bool) → (r == 0) ≡ b
    → DecidedIffRun (verdict s till moment q v r c)
verdict-iff-run s till moment q v r c true zero = subst DecidedIffRun (sym (verdict-deny s till moment r q v c zero)) refl
verdict-iff-run s till moment q v r c false some =
    let g = grant (record s { counters = c }) till q r in
    subst DecidedIffRun (sym (verdict-grant s till moment r g.0 q v c g.1 some refl)) refl

version-iff-run : (config : ConfigValue) (past : List Entry) (s : SiteState) (till moment : ℕ) (q : Question) (o : Option Version)
    → in_force config q.slot past ≡ o
    → DecidedIffRun (decided config past s till moment (Ok q))
version-iff-run config past s till moment q None none = subst DecidedIffRun (sym (decided-none config past s till moment q none)) refl
version-iff-run config past s till moment q (Some v) some =
    let x : ℕ × Counters = run_result (outcome v.program (bytes_of (context v.program.layout s till moment q)) (view_of s) s.counters) s.counters in
    subst DecidedIffRun (sym (decided-some config past s till moment q v some)) (verdict-iff-run s till moment q v x.0 x.1 (x.0 == 0) refl)

decided-iff-run : (config : ConfigValue) (past : List Entry) (s : SiteState) (till moment : ℕ) (x : Result Question Reply) → refuses x ≡ false
    → DecidedIffRun (decided config past s till moment x)
decided-iff-run config past s till moment (Ok q) undecided = version-iff-run config past s till moment q (in_force config q.slot past) refl
decided-iff-run config past s till moment (Err r) undecided = subst DecidedIffRun (sym (decided-refused config past s till moment r)) undecided

pub fault-no : (f : PointFault) → is_decided (fault_reply f) ≡ false
fault-no (WrongState state) = refl
fault-no TransactionsFull = refl
fault-no NotYourTransaction = refl
fault-no NoSuchTransaction = refl
fault-no NoOrder = refl
fault-no Unexpected = refl

command-iff-run : (s : SiteState) (n : ℕ) (a : StepResult (Option ℕ)) → DecidedIffRun (command_effect s n a)
command-iff-run s n (Ok (p, cleared)) = refl
command-iff-run s n (Err fault) = fault-no fault

till_command_effect-iff-run : (s : SiteState) (till n : ℕ) (c : Command) (o : Option PointState) → at_number s.points n ≡ o
    → DecidedIffRun (till_command_effect s till n c)
till_command_effect-iff-run s till n c None at = subst DecidedIffRun (sym (till_command_effect-none s till n c at)) refl
till_command_effect-iff-run s till n c (Some p) at =
    subst DecidedIffRun (sym (till_command_effect-some s till n c p at)) (command-iff-run s n (command_step (price_of s p.nozzle) p till c))

pub order-no : (order : Option Order) → is_decided (order_reply order) ≡ false
order-no None = refl
order-no (Some order) = refl

event-iff-run : (s : SiteState) (n : ℕ) (a : StepResult (Option Order)) → DecidedIffRun (event_effect s n a)
event-iff-run s n (Ok (p, order)) = order-no order
event-iff-run s n (Err fault) = fault-no fault

dispenser_effect-iff-run : (s : SiteState) (n : ℕ) (event : DispenserEvent) (o : Option PointState) → at_number s.points n ≡ o
    → DecidedIffRun (dispenser_effect s n event)
dispenser_effect-iff-run s n event None at = subst DecidedIffRun (sym (dispenser_effect-none s n event at)) refl
dispenser_effect-iff-run s n event (Some p) at = subst DecidedIffRun (sym (dispenser_effect-some s n event p at)) (event-iff-run s n (event_step (price_of s p.nozzle) p event))

pub show-no : (s : SiteState) (n : ℕ) (o : Option PointState) → at_number s.points n ≡ o → is_decided (show_reply s n) ≡ false
unfolding show_reply
show-no s n None at = rw (at, show_reply) refl
show-no s n (Some p) at = rw (at, show_reply) refl

action-iff-run : (config : ConfigValue) (past : List Entry) (s : SiteState) (till moment : ℕ) (a : RequestAction)
    → DecidedIffRun (effect_of config past s till moment a)
action-iff-run config past s till moment (action.Decision q) = decided-iff-run config past s till moment (admitted s q) (admitted-no s q)
action-iff-run config past s till moment (action.Command n command) = till_command_effect-iff-run s till n command (at_number s.points n) refl
action-iff-run config past s till moment (action.Show n) = show-no s n (at_number s.points n) refl

till-iff-run : (config : ConfigValue) (past : List Entry) (s : SiteState) (till moment : ℕ) (r : Request) (b : Bool)
    → DecidedIffRun (if b then asked config past s till moment r else replied no_such_till s)
till-iff-run config past s till moment r true = action-iff-run config past s till moment (request_action config r)
till-iff-run config past s till moment r false = refl

load-no : (slot more : Bool) (v : ℕ) → is_decided (if slot then if more then reply.Version v else refused 30 else refused 32) ≡ false
load-no true true v = refl
load-no true false v = refl
load-no false more v = refl

pub effect-iff-run : (config : ConfigValue) (past : List Entry) (s : SiteState) (moment : ℕ) (a : Act) → is_decided (effect config past s moment a).reply
    ≡ is_some (effect config past s moment a).run
effect-iff-run config past s moment (act.Till till r) = till-iff-run config past s till moment r (is_till config till)
effect-iff-run config past s moment (act.Dispenser n event) = dispenser_effect-iff-run s n event (at_number s.points n) refl
effect-iff-run config past s moment (act.Load slot mask layout bytes) =
    load-no (nat_le slot 15) (nat_lt (versions past) 4096) (versions_before config + versions past + 1)
