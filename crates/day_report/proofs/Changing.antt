-- An act changes at most one point: the point that it names. It changes a site's cleared total and its count of cleared
-- transactions just as the act and its reply say.
use Rattle.std.proofs.Common.{◌≡◌, ℕ, ◌-◌, arith, Bool, true, false, List, [], ◌∷◌, zero, suc, Option, Some, None, Result, Ok, Err, slice_get, slice_set}
use Rattle.std.proofs.Common.{refl, ap, subst, sym, ◌∙◌, inl, inr}
use Rattle.std.specs.Prelude.{◌==◌, ◌&&◌, ◌+◌, nat_le, if◌then◌else◌, option_map, unwrap_or}
use Rattle.std.proofs.lemmas.Bool.{cases_Bool, eq-eqb, eqb-true}
use Rattle.std.proofs.lemmas.Bool.Decides.{nat_tests}
use Rattle.fuelling_point.specs.Table.{PointState, StepResult, command_step, event_step}
use Rattle.fuelling_point.specs.States.{is_ready}
use Rattle.fuelling_point.specs.declared.kinds.State.{State}
use Rattle.fuelling_point.specs.declared.kinds.Command.{Command}
use Rattle.fuelling_point.specs.declared.kinds.Command.TheVariants as command
use Rattle.fuelling_point.specs.declared.kinds.DispenserEvent.{DispenserEvent}
use Rattle.fuelling_point.specs.declared.kinds.Order.{Order}
use Rattle.decision_journal.specs.declared.entries.Entry.{Entry}
use Rattle.till_request.specs.declared.act.Request.{Request}
use Rattle.till_request.specs.declared.act.Request.TheVariants as request
use Rattle.till_request.specs.declared.act.Act.{Act}
use Rattle.till_request.specs.declared.act.Act.TheVariants as act
use Rattle.till_request.specs.declared.act.Reply.{Reply}
use Rattle.till_request.specs.declared.act.Reply.TheVariants as reply
use Rattle.bpf_model.specs.Machine.{Counters}
use Rattle.bpf_model.specs.Program.{outcome}
use Rattle.bpf_model.specs.Layouts.{bytes_of}
use Rattle.site_core.specs.SlotsValue.{Version}
use Rattle.site_core.specs.declared.question.Kind.{Kind}
use Rattle.site_core.specs.declared.question.Kind.TheVariants as kind
use Rattle.site_core.specs.declared.question.Question.{Question}
use Rattle.site_core.specs.Limits.{ConfigValue}
use Rattle.site_core.specs.State.{SiteState, at_number, first_busy, view_of, with_point, price_of}
use Rattle.site_core.specs.Context.{context}
use Rattle.site_core.specs.History.{in_force}
use Rattle.site_core.specs.Decide.{Effect, admitted, after_command, asked_at_point, bad_amount, command_of, decided, grant, granted_amount, has_room, is_till}
use Rattle.site_core.specs.Decide.{is_within, no_such_till, preset_of, price_question_of, release_of, price_at, refuse_unless, replied, run_result, transactions_full, verdict, wrong_state}
use Rattle.site_core.specs.Step.{asked, clears_by, command_effect, dispenser_effect, effect, event_effect, fault_reply, till_command_effect}
use Rattle.site_core.specs.Steps.{point_asked, point_named}
use Rattle.site_core.proofs.Decisions.{decided-none, decided-refused, decided-some}
use Rattle.site_core.proofs.Grants.{grant-none, grant-some, verdict-deny, verdict-grant}
use Rattle.site_core.proofs.Points.{asked-none, asked-some, dispenser_effect-none, dispenser_effect-some, till_command_effect-none, till_command_effect-some}
use Rattle.fuelling_point.specs.declared.kinds.PointFault.{PointFault}
use Rattle.fuelling_point.specs.declared.kinds.PointFault.TheVariants.{WrongState}
use Rattle.day_report.specs.Sales.{cleared_by, clearing_of}
use Rattle.day_report.specs.declared.sales.Clearing.{Clearing}
use Rattle.day_report.proofs.Growing.{Gives, Grows, IsGone, Takes, amount_of, command-takes, event-gives, kept, number_in, paid_at, same}
use Rattle.day_report.proofs.Owing.{nothing}

-- ---- These lemmas show: if point m is replaced by q, then q is found at number m, and any other number has the same
-- point as before.

no-point : {P : Type 0} (p : PointState) → ◌≡◌ {A = Option PointState} None (Some p) → P
no-point p h = absurd (cc)

get-set-other : (points : List PointState) (i k : ℕ) (q : PointState) → (i ≡ k → ⊥) → slice_get (slice_set points i q) k ≡ slice_get points k
get-set-other [] i k q other = refl
get-set-other (x ∷ points) zero zero q other = absurd (other refl)
get-set-other (x ∷ points) zero (suc k) q other = refl
get-set-other (x ∷ points) (suc i) zero q other = refl
get-set-other (x ∷ points) (suc i) (suc k) q other = get-set-other points i k q (λ e. other (ap suc e))

get-set-same : (points : List PointState) (i : ℕ) (p q : PointState) → slice_get points i ≡ Some p → slice_get (slice_set points i q) i ≡ Some q
get-set-same [] i p q h = no-point p h
get-set-same (x ∷ points) zero p q h = refl
get-set-same (x ∷ points) (suc i) p q h = get-set-same points i p q h

less : (i : ℕ) → suc i - 1 ≡ i
less i = omega arith

numbered : (points : List PointState) (i : ℕ) → at_number points (suc i) ≡ slice_get points i
numbered points i =
    let some : nat_le 1 (suc i) ≡ true = grind (arith, nat_tests) in
    λ j. if some j then slice_get points (less i j) else None

at-same : (points : List PointState) (m : ℕ) (p q : PointState) → at_number points m ≡ Some p → at_number (slice_set points (m - 1) q) m ≡ Some q
at-same points zero p q h = no-point p h
at-same points (suc i) p q h =
    numbered (slice_set points (suc i - 1) q) i ∙ (λ j. slice_get (slice_set points (less i j) q) i) ∙ get-set-same points i p q (sym (numbered points i) ∙ h)

at-other : (points : List PointState) (m n : ℕ) (p q : PointState) → at_number points m ≡ Some p → (n == m) ≡ false
    → at_number (slice_set points (m - 1) q) n ≡ at_number points n
at-other points zero n p q at other = no-point p at
at-other points (suc i) zero p q at other = refl
at-other points (suc i) (suc k) p q at other =
    numbered (slice_set points (suc i - 1) q) k
    ∙ (λ j. slice_get (slice_set points (less i j) q) k)
    ∙ get-set-other points i k q (λ e. nothing (sym other ∙ eq-eqb (suc k) (suc i) (ap suc (sym e))))
    ∙ sym (numbered points k)

-- ---- `Leads` says how an act can change a site.

-- A point that exists after an act existed before it, and the act added at most one unpaid transaction to it (`Grows`).
abbrev pub GrowsTo : Option PointState → Option PointState → Type 0
GrowsTo o None = Unit {0}
GrowsTo None (Some q) = ⊥
GrowsTo (Some p) (Some q) = Grows p q

-- From these points, this cleared total and this count of cleared transactions, a site came to the state t. At most
-- point m changed. Transaction x of this point was cleared, or nothing if x is None.
pub record Leads (points : List PointState) (total count m : ℕ) (x : Option ℕ) (t : SiteState) : Type 0 where
  pub other : (n : ℕ) → (n == m) ≡ false → at_number t.points n ≡ at_number points n
  pub here : GrowsTo (at_number points m) (at_number t.points m)
  pub cleared : t.cleared ≡ total + unwrap_or (amount_of (paid_at (at_number points m) x)) 0
  pub clears : t.clears ≡ count + clears_by (amount_of (paid_at (at_number points m) x))
  pub gone : IsGone x (at_number t.points m)

abbrev pub LeadsTo : SiteState → ℕ → Option ℕ → SiteState → Type 0
LeadsTo s m x t = Leads s.points s.cleared s.clears m x t

same-here : (o : Option PointState) → GrowsTo o o
same-here None = tt
same-here (Some p) = same p

pub grows-at : (points : List PointState) (total count m : ℕ) (x : Option ℕ) (t : SiteState) → Leads points total count m x t → (n : ℕ)
    → GrowsTo (at_number points n) (at_number t.points n)
grows-at points total count m x t leads n = elim (cases_Bool (n == m)) [
  | inl here ↦ subst (λ k. GrowsTo (at_number points k) (at_number t.points k)) (sym (eqb-true n m here)) leads.here
  | inr other ↦ subst (GrowsTo (at_number points n)) (sym (leads.other n other)) (same-here (at_number points n))
]

unchanged : (m : ℕ) (s t : SiteState) → t.points ≡ s.points → t.cleared ≡ s.cleared → t.clears ≡ s.clears → LeadsTo s m None t
unchanged m s t points cleared clears = record {
  other = λ n apart. ap (λ ps. at_number ps n) points;
  here = subst (λ ps. GrowsTo (at_number s.points m) (at_number ps m)) (sym points) (same-here (at_number s.points m));
  cleared = omega (arith, cleared);
  clears = omega (arith, clears);
  gone = tt;
}

replaced : (s t : SiteState) (m : ℕ) (p q : PointState) (x given : Option ℕ) → at_number s.points m ≡ Some p → Takes p x q given
    → t.points ≡ slice_set s.points (m - 1) q → t.cleared ≡ s.cleared + unwrap_or given 0 → t.clears ≡ s.clears + clears_by given → LeadsTo s m x t
replaced s t m p q x given at takes points cleared clears =
    let now : at_number t.points m ≡ Some q = ap (λ ps. at_number ps m) points ∙ at-same s.points m p q at in
    let gives : given ≡ amount_of (paid_at (at_number s.points m) x) = takes.gives ∙ ap (λ o. amount_of (paid_at o x)) (sym at) in
    record {
      other = λ n apart. ap (λ ps. at_number ps n) points ∙ at-other s.points m n p q at apart;
      here = subst (λ o. GrowsTo o (at_number t.points m)) (sym at) (subst (GrowsTo (Some p)) (sym now) takes.grows);
      cleared = cleared ∙ ap (λ o. s.cleared + unwrap_or o 0) gives;
      clears = clears ∙ ap (λ o. s.clears + clears_by o) gives;
      gone = subst (IsGone x) (sym now) takes.gone;
    }

-- ---- These lemmas show that a command clears the transaction that its act names, if the reply is `Done`.

-- The number of the transaction that a clearing names.
abbrev pub number_of : Option Clearing → Option ℕ
number_of o = option_map (λ (c : Clearing). c.number) o

-- The effect of an act changed at most point m of the state s, and cleared what the act and its reply say.
abbrev pub Does : SiteState → ℕ → Act → Effect → Type 0
Does s m a e = LeadsTo s m (number_of (clearing_of a e.reply)) e.after

clearing-none : (a : Act) (r : Reply) → cleared_by a ≡ None → clearing_of a r ≡ None
clearing-none a reply.Done none = none
clearing-none a _ none = refl

does-none : (s : SiteState) (m : ℕ) (a : Act) (e : Effect) → clearing_of a e.reply ≡ None → LeadsTo s m None e.after → Does s m a e
does-none s m a e none leads = subst (λ o. LeadsTo s m (number_of o) e.after) (sym none) leads

fault-clearing : (a : Act) (f : PointFault) → clearing_of a (fault_reply f) ≡ None
fault-clearing a (WrongState s) = refl
fault-clearing a _ = refl

answer-does : (s : SiteState) (n : ℕ) (a : Act) (p : PointState) (x : StepResult (Option ℕ)) → at_number s.points n ≡ Some p
    → Gives (Takes p (number_of (cleared_by a))) x → Does s n a (command_effect s n x)
unfolding Gives
answer-does s n a p (Ok (q, given)) at takes = replaced s _ n p q (number_of (cleared_by a)) given at takes refl refl refl
answer-does s n a p (Err fault) at takes = does-none s n a (replied (fault_reply fault) s) (fault-clearing a fault) (unchanged n s s refl refl refl)

command-does : (s : SiteState) (till n : ℕ) (c : Command) (a : Act) (o : Option PointState) → at_number s.points n ≡ o
    → number_in c ≡ number_of (cleared_by a) → Does s n a (till_command_effect s till n c)
command-does s till n c a None at same =
    subst (Does s n a) (sym (till_command_effect-none s till n c at)) (unchanged n s s refl refl refl)
command-does s till n c a (Some p) at same =
    subst (Does s n a) (sym (till_command_effect-some s till n c p at))
    (answer-does s n a p (command_step (price_of s p.nozzle) p till c) at (subst (λ x. Gives (Takes p x) (command_step (price_of s p.nozzle) p till c)) same (command-takes (price_of s p.nozzle) p till c)))

-- ---- These lemmas show that an event of a dispenser and a decision clear nothing.

abbrev Keeps : ℕ → SiteState → SiteState → Type 0
Keeps m s t = LeadsTo s m None t

grown : (s : SiteState) (m : ℕ) (p q : PointState) → at_number s.points m ≡ Some p → Grows p q → Keeps m s (with_point s m q)
grown s m p q at grows = replaced s (with_point s m q) m p q None None at (kept p q grows) refl (omega arith) (omega arith)

event-keeps : (s : SiteState) (n : ℕ) (p : PointState) (a : StepResult (Option Order)) → at_number s.points n ≡ Some p → Gives (λ q _. Grows p q) a
    → Keeps n s (event_effect s n a).after
unfolding Gives
event-keeps s n p (Ok (q, o)) at grows = grown s n p q at grows
event-keeps s n p (Err f) at grows = unchanged n s s refl refl refl

dispenser-keeps : (s : SiteState) (n : ℕ) (e : DispenserEvent) (o : Option PointState) → at_number s.points n ≡ o
    → Keeps n s (dispenser_effect s n e).after
dispenser-keeps s n e None at = subst (λ (x : Effect). Keeps n s x.after) (sym (dispenser_effect-none s n e at)) (unchanged n s s refl refl refl)
dispenser-keeps s n e (Some p) at =
    subst (λ (x : Effect). Keeps n s x.after) (sym (dispenser_effect-some s n e p at)) (event-keeps s n p (event_step (price_of s p.nozzle) p e) at (event-gives (price_of s p.nozzle) p e))

after-grows : (p : PointState) (x : Option ℕ) (a : StepResult (Option ℕ)) → Gives (Takes p x) a
    → Grows p (elim a as (λ _. PointState) [ Ok o ↦ o.0 | Err f ↦ p ])
unfolding Gives
after-grows p x (Ok (q, given)) takes = takes.grows
after-grows p x (Err f) takes = same p

grant-keeps : (s : SiteState) (till r : ℕ) (q : Question) (o : Option PointState) → at_number s.points q.point ≡ o → Keeps q.point s (grant s till q r).1
grant-keeps s till r q None at = subst (λ (g : ℕ × SiteState). Keeps q.point s g.1) (sym (grant-none s till r q at)) (unchanged q.point s _ refl refl refl)
grant-keeps s till r q (Some p) at =
    let c : Command = command_of q.kind (granted_amount q.kind q.asked r p.preset) in
    subst (λ (g : ℕ × SiteState). Keeps q.point s g.1) (sym (grant-some s till r q p at))
    (grown s q.point p (after_command (price_of s p.nozzle) p till c) at
    (after-grows p (number_in c) (command_step (price_of s p.nozzle) p till c) (command-takes (price_of s p.nozzle) p till c)))

verdict-keeps : (s : SiteState) (till moment : ℕ) (q : Question) (v : Version) (r : ℕ) (c : Counters) (b : Bool) → (r == 0) ≡ b
    → Keeps q.point s (verdict s till moment q v r c).after
verdict-keeps s till moment q v r c true denies =
    subst (λ (e : Effect). Keeps q.point s e.after) (sym (verdict-deny s till moment r q v c denies)) (unchanged q.point s _ refl refl refl)
verdict-keeps s till moment q v r c false grants =
    let counted : SiteState = record s { counters = c } in
    let g : ℕ × SiteState = grant counted till q r in
    subst (λ (e : Effect). Keeps q.point s e.after) (sym (verdict-grant s till moment r g.0 q v c g.1 grants refl))
    (grant-keeps counted till r q (at_number s.points q.point) refl)

version-keeps : (config : ConfigValue) (past : List Entry) (s : SiteState) (till moment : ℕ) (q : Question) (o : Option Version)
    → in_force config q.slot past ≡ o → Keeps q.point s (decided config past s till moment (Ok q)).after
version-keeps config past s till moment q None none =
    subst (λ (e : Effect). Keeps q.point s e.after) (sym (decided-none config past s till moment q none)) (unchanged q.point s s refl refl refl)
version-keeps config past s till moment q (Some v) some =
    let x : ℕ × Counters = run_result (outcome v.program (bytes_of (context v.program.layout s till moment q)) (view_of s) s.counters) s.counters in
    subst (λ (e : Effect). Keeps q.point s e.after) (sym (decided-some config past s till moment q v some)) (verdict-keeps s till moment q v x.0 x.1 (x.0 == 0) refl)

-- The result is the question q itself, or an error.
abbrev Admits : Question → Result Question Reply → Type 0
Admits q (Ok x) = q ≡ x
Admits q (Err r) = Unit {0}

unless-admits : (q : Question) (b : Bool) (r : Reply) (x : Result Question Reply) → Admits q x → Admits q (refuse_unless b r x)
unless-admits q true r x h = h
unless-admits q false r x h = tt

point-admits : (s : SiteState) (q : Question) (o : Option PointState) → at_number s.points q.point ≡ o → Admits q (asked_at_point s q)
point-admits s q None at = subst (Admits q) (sym (asked-none s q at)) tt
point-admits s q (Some p) at =
    subst (Admits q) (sym (asked-some s q p at))
    (unless-admits q (is_within 1 q.asked 999999999) bad_amount _
    (unless-admits q (is_ready p.state) (wrong_state p.state) _ (unless-admits q (has_room q.kind p) transactions_full (Ok q) refl)))

price-admits : (q : Question) (busy : Option State) → Admits q (price_at busy q)
price-admits q None = unless-admits q (is_within 1 q.product 8 && is_within 1 q.asked 9999999) bad_amount (Ok q) refl
price-admits q (Some st) = unless-admits q (is_within 1 q.product 8 && is_within 1 q.asked 9999999) bad_amount (Err (wrong_state st)) tt

kind-admits : (s : SiteState) (q : Question) (k : Kind) → Admits q (elim k [ kind.Price ↦ price_at (first_busy s) q | _ ↦ asked_at_point s q ])
kind-admits s q kind.Price = price-admits q (first_busy s)
kind-admits s q _ = point-admits s q (at_number s.points q.point) refl

decided-keeps : (config : ConfigValue) (past : List Entry) (s : SiteState) (till moment : ℕ) (q : Question) (x : Result Question Reply) → Admits q x
    → Keeps q.point s (decided config past s till moment x).after
decided-keeps config past s till moment q (Err r) h =
    subst (λ (e : Effect). Keeps q.point s e.after) (sym (decided-refused config past s till moment r)) (unchanged q.point s s refl refl refl)
decided-keeps config past s till moment q (Ok x) h =
    subst (λ (y : Question). Keeps q.point s (decided config past s till moment (Ok y)).after) h
    (version-keeps config past s till moment q (in_force config q.slot past) refl)

question-keeps : (config : ConfigValue) (past : List Entry) (s : SiteState) (till moment : ℕ) (q : Question)
    → Keeps q.point s (decided config past s till moment (admitted s q)).after
question-keeps config past s till moment q = decided-keeps config past s till moment q (admitted s q) (kind-admits s q q.kind)

-- ---- What an act does: it changes at most the point that it names, it clears what its reply says, and only tills of
-- the configuration clear transactions.

-- The clearing, if there is one, is of point m, by a till of the configuration.
abbrev pub IsByTill : ConfigValue → ℕ → Option Clearing → Type 0
IsByTill config m None = Unit {0}
IsByTill config m (Some c) = (c.point ≡ m) × (is_till config c.till ≡ true)

reply-by-till : (config : ConfigValue) (m : ℕ) (a : Act) (r : Reply) → IsByTill config m (cleared_by a) → IsByTill config m (clearing_of a r)
reply-by-till config m a reply.Done is = is
reply-by-till config m a _ is = tt

pub record Acts (config : ConfigValue) (s : SiteState) (a : Act) (e : Effect) : Type 0 where
  pub does : Does s (point_named a) a e
  pub by_till : IsByTill config (point_named a) (clearing_of a e.reply)

-- An act that asks to clear nothing, and whose effect clears nothing.
other-acts : (config : ConfigValue) (s : SiteState) (a : Act) (e : Effect) → cleared_by a ≡ None → Keeps (point_named a) s e.after → Acts config s a e
other-acts config s a e none keeps =
    let no : clearing_of a e.reply ≡ None = clearing-none a e.reply none in
    record { does = does-none s (point_named a) a e no keeps; by_till = subst (IsByTill config (point_named a)) (sym no) tt }

command-acts : (config : ConfigValue) (s : SiteState) (till : ℕ) (c : Command) (a : Act) → number_in c ≡ number_of (cleared_by a)
    → IsByTill config (point_named a) (cleared_by a) → Acts config s a (till_command_effect s till (point_named a) c)
command-acts config s till c a same by_till = record {
  does = command-does s till (point_named a) c a (at_number s.points (point_named a)) refl same;
  by_till = reply-by-till config (point_named a) a (till_command_effect s till (point_named a) c).reply by_till;
}

asked-acts : (config : ConfigValue) (past : List Entry) (s : SiteState) (till moment : ℕ) (r : Request) → is_till config till ≡ true
    → Acts config s (act.Till till r) (asked config past s till moment r)
asked-acts config past s till moment (request.Release n x) is =
    other-acts config s (act.Till till _) _ refl (question-keeps config past s till moment (release_of config n x))
asked-acts config past s till moment (request.Preset n x) is =
    other-acts config s (act.Till till _) _ refl (question-keeps config past s till moment (preset_of config n x))
asked-acts config past s till moment (request.Price product x) is =
    other-acts config s (act.Till till _) _ refl (question-keeps config past s till moment (price_question_of config product x))
asked-acts config past s till moment (request.Show n) is = other-acts config s (act.Till till _) _ refl (unchanged n s s refl refl refl)
asked-acts config past s till moment (request.Clear n x) is =
    command-acts config s till (command.Clear x) (act.Till till (request.Clear n x)) refl (refl, is)
asked-acts config past s till moment _ is = command-acts config s till _ (act.Till till _) refl tt

till-acts : (config : ConfigValue) (past : List Entry) (s : SiteState) (till moment : ℕ) (r : Request) (b : Bool) → is_till config till ≡ b
    → Acts config s (act.Till till r) (if b then asked config past s till moment r else replied no_such_till s)
till-acts config past s till moment r true is = asked-acts config past s till moment r is
till-acts config past s till moment r false is = record { does = unchanged (point_asked r) s s refl refl refl; by_till = tt }

pub effect-acts : (config : ConfigValue) (past : List Entry) (s : SiteState) (moment : ℕ) (a : Act) → Acts config s a (effect config past s moment a)
effect-acts config past s moment (act.Till till r) = till-acts config past s till moment r (is_till config till) refl
effect-acts config past s moment (act.Dispenser n event) =
    other-acts config s (act.Dispenser n event) _ refl (dispenser-keeps s n event (at_number s.points n) refl)
effect-acts config past s moment (act.Load slot mask layout bytes) = other-acts config s (act.Load slot mask layout bytes) _ refl (unchanged 0 s s refl refl refl)
