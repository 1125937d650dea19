-- If a condition is true of the state that a site begins with, and each part of an event keeps it true (`Stays`), then
-- it is true of the state after each legal history.
use Rattle.std.proofs.Common.{◌≡◌, ℕ, ◌-◌, ◌≤◌, List, [], ◌∷◌, Bool, true, false, Option, Some, None, Result, Ok, Err, refl, sym, subst, arith}
use Rattle.std.specs.Prelude.{◌==◌, ◌+◌, if◌then◌else◌, slice_set, unwrap_or}
use Rattle.std.specs.Result.{result_ok}
use Rattle.fuelling_point.specs.Table.{PointState, StepResult, command_step, event_step}
use Rattle.fuelling_point.specs.declared.kinds.Command.{Command}
use Rattle.fuelling_point.specs.declared.kinds.DispenserEvent.{DispenserEvent}
use Rattle.fuelling_point.specs.declared.kinds.Order.{Order}
use Rattle.decision_journal.specs.declared.entries.Entry.{Entry}
use Rattle.till_request.specs.declared.act.Request.{Request}
use Rattle.till_request.specs.declared.act.Act.{Act}
use Rattle.till_request.specs.declared.act.Act.TheVariants as act
use Rattle.till_request.specs.declared.act.Reply.{Reply}
use Rattle.bpf_model.specs.Machine.{Counters}
use Rattle.bpf_model.specs.declared.machine.View.{View}
use Rattle.bpf_model.specs.Program.{ProgramText, outcome}
use Rattle.bpf_model.specs.Layouts.{bytes_of}
use Rattle.site_core.specs.SlotsValue.{Version}
use Rattle.site_core.specs.declared.question.Question.{Question}
use Rattle.site_core.specs.declared.question.RequestAction.{RequestAction}
use Rattle.site_core.specs.declared.question.RequestAction.TheVariants as action
use Rattle.site_core.specs.Limits.{ConfigValue}
use Rattle.site_core.specs.State.{SiteState, at_number, opening_state, view_of, with_point, price_of}
use Rattle.site_core.specs.Context.{context}
use Rattle.site_core.specs.History.{in_force}
use Rattle.site_core.specs.Days.{IsHeldWithin}
use Rattle.site_core.proofs.Holders.{LeavesHeld, command_held, event_held, grant_held}
use Rattle.std.proofs.lemmas.Bool.Decides.{nat_tests}
use Rattle.site_core.specs.Decide.{after_command, command_of, granted_amount, is_within}
use Rattle.site_core.specs.Decide.{Effect, HasPointOrValidPrice, replied, no_such_till, is_till, decided, verdict, run_result, grant}
use Rattle.site_core.specs.Decide.{request_action, admitted}
use Rattle.site_core.specs.Step.{effect, effect_of, asked, clears_by, till_command_effect, command_effect, dispenser_effect, event_effect}
use Rattle.site_core.specs.Legal.{Legal}
use Rattle.site_core.proofs.Asking.{well-action}
use Rattle.site_core.proofs.Decisions.{decided-refused, decided-none, decided-some}
use Rattle.site_core.proofs.Grants.{grant-none, grant-some, verdict-deny, verdict-grant}
use Rattle.site_core.proofs.Points.{till_command_effect-none, till_command_effect-some, dispenser_effect-none, dispenser_effect-some}

-- P stays true after each part of an event: after one point is replaced, after the totals of what was cleared change,
-- after a price of at most 9,999,999 is set, and after a run. The new point must have this property if the replaced one
-- has it: each of its unpaid transactions is held by nobody, or by a till whose number is at most `tills`
-- (`IsHeldWithin`).
pub record Stays (tills : ℕ) (P : SiteState → Type 0) : Type 0 where
  pub at_point : (s : SiteState) (n : ℕ) (p new : PointState) → at_number s.points n ≡ Some p → (IsHeldWithin tills p → IsHeldWithin tills new) → P s
      → P (with_point s n new)
  pub at_clear : (s : SiteState) (cleared clears : ℕ) → P s → P (record s { cleared = cleared; clears = clears })
  pub at_price : (s : SiteState) (product price : ℕ) → price ≤ 9999999 → P s → P (record s { prices = slice_set s.prices (product - 1) price })
  pub at_run : (s : SiteState) (p : ProgramText) (bytes : List ℕ) (view : View) → P s
      → P (record s { counters = (run_result (outcome p bytes view s.counters) s.counters).1 })

is_within_tills : (till tills : ℕ) → is_within 1 till tills ≡ true → till ≤ tills
is_within_tills till tills h = grind (arith, nat_tests, h)

module _ (tills : ℕ) (P : SiteState → Type 0) (stays : Stays tills P) where
  abbrev Leaves : Effect → Type 0
  Leaves e = P e.after

  granted : (s : SiteState) (till r : ℕ) (q : Question) (o : Option PointState) → at_number s.points q.point ≡ o → HasPointOrValidPrice s q → P s → P (grant s till q r).1
  granted s till r q None at well h =
      subst (λ (g : ℕ × SiteState). P g.1) (sym (grant-none s till r q at)) (stays.at_price s q.product q.asked (well at).2 h)
  granted s till r q (Some p) at well h =
      let g : ℕ = granted_amount q.kind q.asked r p.preset in
      subst (λ (x : ℕ × SiteState). P x.1) (sym (grant-some s till r q p at))
      (stays.at_point s q.point p (after_command (price_of s p.nozzle) p till (command_of q.kind g)) at
      (grant_held tills till (price_of s p.nozzle) g p q.kind) h)

  judged : (s : SiteState) (till moment : ℕ) (q : Question) (v : Version) (r : ℕ) (c : Counters) (b : Bool) → (r == 0) ≡ b → HasPointOrValidPrice s q
      → P (record s { counters = c }) → Leaves (verdict s till moment q v r c)
  judged s till moment q v r c true zero well h = subst Leaves (sym (verdict-deny s till moment r q v c zero)) h
  judged s till moment q v r c false some well h =
      let counted : SiteState = record s { counters = c } in
      let g : ℕ × SiteState = grant counted till q r in
      subst Leaves (sym (verdict-grant s till moment r g.0 q v c g.1 some refl)) (granted counted till r q (at_number s.points q.point) refl well h)

  by_version : (config : ConfigValue) (past : List Entry) (s : SiteState) (till moment : ℕ) (q : Question) (o : Option Version)
      → in_force config q.slot past ≡ o → HasPointOrValidPrice s q → P s → Leaves (decided config past s till moment (Ok q))
  by_version config past s till moment q None none well h = subst Leaves (sym (decided-none config past s till moment q none)) h
  by_version config past s till moment q (Some v) some well h =
      let bytes : List ℕ = bytes_of (context v.program.layout s till moment q) in
      let x : ℕ × Counters = run_result (outcome v.program bytes (view_of s) s.counters) s.counters in
      subst Leaves (sym (decided-some config past s till moment q v some))
      (judged s till moment q v x.0 x.1 (x.0 == 0) refl well (stays.at_run s v.program bytes (view_of s) h))

  by_question : (config : ConfigValue) (past : List Entry) (s : SiteState) (till moment : ℕ) (x : Result Question Reply)
      → ((q : Question) → result_ok x ≡ Some q → HasPointOrValidPrice s q) → P s → Leaves (decided config past s till moment x)
  by_question config past s till moment (Ok q) well h = by_version config past s till moment q (in_force config q.slot past) refl (well q refl) h
  by_question config past s till moment (Err r) well h = subst Leaves (sym (decided-refused config past s till moment r)) h

  by_answer : (s : SiteState) (n : ℕ) (p : PointState) (a : StepResult (Option ℕ)) → at_number s.points n ≡ Some p → (IsHeldWithin tills p → LeavesHeld tills a)
      → P s → Leaves (command_effect s n a)
  by_answer s n p (Ok (new, cleared)) at held h =
      stays.at_clear (with_point s n new) (s.cleared + unwrap_or cleared 0) (s.clears + clears_by cleared) (stays.at_point s n p new at held h)
  by_answer s n p (Err fault) at held h = h

  by_command : (s : SiteState) (till n : ℕ) (c : Command) (o : Option PointState) → at_number s.points n ≡ o → till ≤ tills → P s
      → Leaves (till_command_effect s till n c)
  by_command s till n c None at le h = subst Leaves (sym (till_command_effect-none s till n c at)) h
  by_command s till n c (Some p) at le h =
      subst Leaves (sym (till_command_effect-some s till n c p at)) (by_answer s n p (command_step (price_of s p.nozzle) p till c) at
      (command_held tills till (price_of s p.nozzle) p c le) h)

  by_report : (s : SiteState) (n : ℕ) (p : PointState) (a : StepResult (Option Order)) → at_number s.points n ≡ Some p → (IsHeldWithin tills p → LeavesHeld tills a)
      → P s → Leaves (event_effect s n a)
  by_report s n p (Ok (new, order)) at held h = stays.at_point s n p new at held h
  by_report s n p (Err fault) at held h = h

  by_event : (s : SiteState) (n : ℕ) (event : DispenserEvent) (o : Option PointState) → at_number s.points n ≡ o → P s → Leaves (dispenser_effect s n event)
  by_event s n event None at h = subst Leaves (sym (dispenser_effect-none s n event at)) h
  by_event s n event (Some p) at h =
      subst Leaves (sym (dispenser_effect-some s n event p at)) (by_report s n p (event_step (price_of s p.nozzle) p event) at
      (event_held tills (price_of s p.nozzle) p event) h)

  by_action : (config : ConfigValue) (past : List Entry) (s : SiteState) (till moment : ℕ) (a : RequestAction) → till ≤ tills → P s
      → Leaves (effect_of config past s till moment a)
  by_action config past s till moment (action.Decision q) le h = by_question config past s till moment (admitted s q) (well-action s (action.Decision q)) h
  by_action config past s till moment (action.Command n command) le h = by_command s till n command (at_number s.points n) refl le h
  by_action config past s till moment (action.Show n) le h = h

  by_till : (config : ConfigValue) (past : List Entry) (s : SiteState) (till moment : ℕ) (r : Request) (b : Bool) → (b ≡ true → till ≤ tills) → P s
      → Leaves (if b then asked config past s till moment r else replied no_such_till s)
  by_till config past s till moment r true le h = by_action config past s till moment (request_action config r) (le refl) h
  by_till config past s till moment r false le h = h

  by_act : (config : ConfigValue) (past : List Entry) (s : SiteState) (moment : ℕ) (a : Act) → config.tills ≡ tills → P s → Leaves (effect config past s moment a)
  by_act config past s moment (act.Till till r) same h =
      by_till config past s till moment r (is_till config till) (λ yes. subst (λ n. till ≤ n) same (is_within_tills till config.tills yes)) h
  by_act config past s moment (act.Dispenser n event) same h = by_event s n event (at_number s.points n) refl h
  by_act config past s moment (act.Load slot mask layout bytes) same h = h

  pub after_all : (config : ConfigValue) → config.tills ≡ tills → P (opening_state config) → (past : List Entry) (s : SiteState) → Legal config past s → P s
  after_all config same first [] s l = subst P (sym l) first
  after_all config same first (e ∷ past) s l =
      subst P (sym l.3.leaves) (by_act config past l.0 e.moment e.act same (after_all config same first past l.0 l.1))
