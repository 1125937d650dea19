-- A draft's program is run while the site can change. If all that the run depends on is still the same when the run is
-- committed, then the commit gives what the site's own step gives.
use Rattle.std.proofs.Common.{◌≡◌, ℕ, List, ◌∷◌, length, Bool, true, false, Option, Some, None, Ok, Err, refl, ap, ◌∙◌, sym, subst}
use Rattle.std.specs.Prelude.{◌⊎◌, reverse, ◌==◌, if◌then◌else◌, IsSome, is_some, ◌<◌, Result, IfOk, OnErr}
use Rattle.std.specs.declared.alloc.AllocError.{AllocError}
use Rattle.std.proofs.Common.{inl, inr}
use Rattle.std.specs.Result.{result_ok}
use Rattle.fuelling_point.specs.Table.{PointState, StepResult, command_step}
use Rattle.fuelling_point.specs.declared.kinds.Command.{Command}
use Rattle.decision_journal.specs.declared.entries.Entry.{Entry}
use Rattle.decision_journal.specs.declared.entries.Run.{Run}
use Rattle.till_request.specs.declared.act.Request.{Request}
use Rattle.till_request.specs.declared.act.Act.{Act}
use Rattle.till_request.specs.declared.act.Act.TheVariants as act
use Rattle.bpf_model.specs.Machine.{Counters, counter}
use Rattle.bpf_model.specs.Runs.{Ended}
use Rattle.bpf_model.specs.Program.{outcome}
use Rattle.site_core.specs.SlotsValue.{SlotsValue}
use Rattle.site_core.specs.SlotsValue.{Version}
use Rattle.bpf_model.specs.Layouts.{bytes_of}
use Rattle.site_core.specs.declared.question.Question.{Question}
use Rattle.site_core.specs.declared.question.RequestAction.{RequestAction}
use Rattle.site_core.specs.declared.question.RequestAction.TheVariants as action
use Rattle.site_core.specs.Limits.{ConfigValue}
use Rattle.site_core.specs.State.{SiteState, at_number, price_of, view_of}
use Rattle.site_core.specs.Context.{context}
use Rattle.site_core.specs.History.{loaded, loaded_at, in_force, versions}
use Rattle.site_core.specs.Decide.{Effect, replied, no_such_till, is_decided, is_till, decided, verdict, run_result, grant}
use Rattle.site_core.specs.Decide.{request_action, admitted, question_in, question_of, asked_question}
use Rattle.site_core.specs.Step.{effect, effect_of, asked, till_command_effect, command_effect}
use Rattle.site_core.specs.SiteInvariant.{Agrees, Performs}
use Rattle.site_core.specs.Legal.{GoodLoad}
use Rattle.site_core.specs.Histories.{load_refusal}
use Rattle.site_core.specs.Draft.{context_for, DraftValue, ReadyValue, basis_of, routed}
use Rattle.site_core.specs.Asked.{StillAsked, IsDraft, Drafts, WouldRun, basis_in}
use Rattle.site_core.specs.declared.draft.Begin.{Begin}
use Rattle.site_core.specs.declared.draft.Begin.TheVariants as begin
use Rattle.site_core.specs.Outside.{run_now, reply_now, Begins, IsFreshDraft, IsRunOf, basis, drafted}
use Rattle.site_core.specs.Site.{SiteValue, entered}
use Rattle.site_core.proofs.Points.{till_command_effect-none, till_command_effect-some}
use Rattle.site_core.proofs.Decisions.{decided-refused, decided-none, decided-some, decided-ended}
use Rattle.site_core.proofs.Grants.{verdict-deny, verdict-grant}
use Rattle.site_core.proofs.Lawful.{Asked}
use Rattle.site_core.proofs.Undecided.{effect-iff-run}
use Rattle.site_core.proofs.Asking.{ok-is, none-some, asked-routed}

-- ---- if a request asks a program a question, then the step's effect is that of the question (`decided`)

action-decided : (config : ConfigValue) (past : List Entry) (s : SiteState) (till moment : ℕ) (a : RequestAction) (q : Question) → question_in s a ≡ Some q
    → effect_of config past s till moment a ≡ decided config past s till moment (Ok q)
action-decided config past s till moment (action.Decision p) q h = ap (decided config past s till moment) (ok-is (admitted s p) q h)
action-decided config past s till moment _ q h = absurd (none-some q h)

asked-till : (config : ConfigValue) (past : List Entry) (s : SiteState) (till moment : ℕ) (r : Request) (q : Question) (b : Bool)
    → (if b then question_of config s r else None) ≡ Some q → (if b then asked config past s till moment r else replied no_such_till s)
    ≡ decided config past s till moment (Ok q)
asked-till config past s till moment r q true h = action-decided config past s till moment (request_action config r) q h
asked-till config past s till moment r q false h = absurd (none-some q h)

pub effect-decided : (config : ConfigValue) (past : List Entry) (s : SiteState) (till moment : ℕ) (r : Request) (q : Question)
    → asked_question config s till r ≡ Some q → effect config past s moment (act.Till till r) ≡ decided config past s till moment (Ok q)
effect-decided config past s till moment r q h = asked-till config past s till moment r q (is_till config till) h

-- If the slots agree with a history, they still do once a till's entry is added, since it loads no program.
pub agrees-till : (config : ConfigValue) (slots : SlotsValue) (past : List Entry) (entry : Entry) (till : ℕ) (r : Request) → Agrees config slots past → entry.act ≡ act.Till till r
    → Agrees config slots (entry ∷ past)
agrees-till config slots past entry till r a is =
    let none : loaded entry.act entry.reply ≡ None = ap (λ x. loaded x entry.reply) is in
    record {
      in_force = λ slot. rw (none, in_force) (a.in_force slot);
      since = λ slot. rw (none, loaded_at) (a.since slot);
      before = a.before;
      versions = rw (none, versions) a.versions;
    }

-- The site's step for the draft's request gives the reply and the run of `entry`, and the state `new` (`Performs`), if
-- all of these are true:
-- - In the state `s` the draft isn't stale (`StillAsked`), and the slots agree with the history.
-- - The draft's program, run on the draft's context and view and on the counters of `s`, ends with `r0` and `after`.
-- - A decision with the answer `r0` and the counters `after` (`verdict`) has the reply and the run of `entry`, and
--   leads to the state `new`.
-- - `entry` has the draft's moment, till and request.
pub performs-applied_answer : (config : ConfigValue) (past : List Entry) (s new : SiteState) (slots : SlotsValue) (draft : DraftValue) (q : Question) (r0 : ℕ)
    (after : Counters) (entry : Entry) → entry.moment ≡ draft.moment → entry.act ≡ act.Till draft.till draft.request → StillAsked config s slots draft q
    → Agrees config slots past → outcome draft.version.program draft.context draft.view s.counters ≡ Ended r0 after
    → verdict s draft.till draft.moment q draft.version r0 after
    ≡ record { reply = entry.reply; run = entry.run; after = new } → Performs config past s draft.moment (act.Till draft.till draft.request)
    entry new slots
performs-applied_answer config past s new slots draft q r0 after entry moment_is act_is still agrees run_result applied_answer =
    let ended : outcome draft.version.program (bytes_of (context draft.version.program.layout s draft.till draft.moment q)) (view_of s) s.counters
    ≡ Ended r0 after =
    (λ i. outcome draft.version.program (still.context_is i) (still.view_is i) s.counters) ∙ run_result in
    record {
      act_is = act_is;
      moment_is = moment_is;
      effect_is =
          effect-decided config past s draft.till draft.moment draft.request q still.asked
          ∙ decided-ended config past s draft.till draft.moment q draft.version r0 after (agrees.in_force q.slot ∙ still.version_is) ended
          ∙ applied_answer;
      agrees = λ other is replied_is numbered. agrees-till config slots past other draft.till draft.request agrees (is ∙ act_is);
      accepted = ap load_refusal act_is;
      good = subst GoodLoad (sym act_is) tt;
    }

-- ---- the step runs a program exactly if the request asks a question whose slot has a program

answer-run : (s : SiteState) (n : ℕ) (a : StepResult (Option ℕ)) → (command_effect s n a).run ≡ None
answer-run s n (Ok (p, cleared)) = refl
answer-run s n (Err fault) = refl

till_command_effect-run : (s : SiteState) (till n : ℕ) (c : Command) (o : Option PointState) → at_number s.points n ≡ o
    → (till_command_effect s till n c).run ≡ None
till_command_effect-run s till n c None at = ap (λ (e : Effect). e.run) (till_command_effect-none s till n c at)
till_command_effect-run s till n c (Some p) at = ap (λ (e : Effect). e.run) (till_command_effect-some s till n c p at) ∙ answer-run s n (command_step (price_of s p.nozzle) p till c)

refused-run : (config : ConfigValue) (past : List Entry) (s : SiteState) (till moment : ℕ) (x : Asked) → result_ok x ≡ None
    → (decided config past s till moment x).run ≡ None
refused-run config past s till moment (Ok q) h = absurd (none-some q (sym h))
refused-run config past s till moment (Err r) h = ap (λ (e : Effect). e.run) (decided-refused config past s till moment r)

action-run : (config : ConfigValue) (past : List Entry) (s : SiteState) (till moment : ℕ) (a : RequestAction) → question_in s a ≡ None
    → (effect_of config past s till moment a).run ≡ None
action-run config past s till moment (action.Decision q) h = refused-run config past s till moment (admitted s q) h
action-run config past s till moment (action.Command n command) h = till_command_effect-run s till n command (at_number s.points n) refl
action-run config past s till moment (action.Show n) h = refl

till-run : (config : ConfigValue) (past : List Entry) (s : SiteState) (till moment : ℕ) (r : Request) (b : Bool)
    → (if b then question_of config s r else None) ≡ None → (if b then asked config past s till moment r else replied no_such_till s).run ≡ None
till-run config past s till moment r true h = action-run config past s till moment (request_action config r) h
till-run config past s till moment r false h = refl

-- If a till's request asks no question, or the slot of its question has no program, then the site's step for this
-- request runs no program.
pub runs-none : (config : ConfigValue) (past : List Entry) (s : SiteState) (till moment : ℕ) (r : Request)
    → (asked_question config s till r ≡ None) ⊎ ((q : Question) × (asked_question config s till r ≡ Some q) × (in_force config q.slot past ≡ None))
    → (effect config past s moment (act.Till till r)).run ≡ None
runs-none config past s till moment r (inl h) = till-run config past s till moment r (is_till config till) h
runs-none config past s till moment r (inr h) =
    ap (λ (e : Effect). e.run) (effect-decided config past s till moment r h.0 h.1 ∙ decided-none config past s till moment h.0 h.2)

verdict-run : (s : SiteState) (till moment : ℕ) (q : Question) (v : Version) (r : ℕ) (c : Counters) (b : Bool) → (r == 0) ≡ b
    → IsSome (verdict s till moment q v r c).run
verdict-run s till moment q v r c true zero = subst (λ (e : Effect). IsSome e.run) (sym (verdict-deny s till moment r q v c zero)) refl
verdict-run s till moment q v r c false some =
    let g = grant (record s { counters = c }) till q r in
    subst (λ (e : Effect). IsSome e.run) (sym (verdict-grant s till moment r g.0 q v c g.1 some refl)) refl

-- If a till's request asks a question, and the question's slot has a version in force, then the site's step for this
-- request runs a program.
pub runs-some : (config : ConfigValue) (past : List Entry) (s : SiteState) (till moment : ℕ) (r : Request) (q : Question) (v : Version)
    → asked_question config s till r ≡ Some q → in_force config q.slot past ≡ Some v → IsSome (effect config past s moment (act.Till till r)).run
runs-some config past s till moment r q v h some =
    let x : ℕ × Counters = run_result (outcome v.program (bytes_of (context v.program.layout s till moment q)) (view_of s) s.counters) s.counters in
    subst (λ (e : Effect). IsSome e.run) (sym (effect-decided config past s till moment r q h ∙ decided-some config past s till moment q v some))
    (verdict-run s till moment q v x.0 x.1 (x.0 == 0) refl)

-- ---- if the history has room and no draft is made, the step would run no program; a draft that is made is fresh

-- If the site's step for a till's request would run no program now, then the reply to this request would be neither a
-- grant nor S24 (a denial by a program).
undecided : (site : SiteValue) (till moment : ℕ) (r : Request) → run_now site till moment r ≡ None → is_decided (reply_now site till moment r) ≡ false
undecided site till moment r none =
    effect-iff-run site.config (reverse site.history) site.state moment (act.Till till r) ∙ ap (λ (run : Option Run). is_some run) none

begins-undecided : (site : SiteValue) (till moment : ℕ) (r : Request) → run_now site till moment r ≡ None
    → (run_now site till moment r ≡ None) × (is_decided (reply_now site till moment r) ≡ false)
begins-undecided site till moment r none = (none, undecided site till moment r none)

pub begins-none : (config : ConfigValue) (history : List Entry) (s : SiteState) (slots : SlotsValue) (till moment : ℕ) (r : Request)
    → Agrees config slots (reverse history) → Drafts config s slots till moment r None
    → (run_now (record { config = config; history = history; state = s }) till moment r ≡ None)
    × (is_decided (reply_now (record { config = config; history = history; state = s }) till moment r) ≡ false)
begins-none config history s slots till moment r agrees (inl h) =
    begins-undecided (record { config = config; history = history; state = s }) till moment r (runs-none config (reverse history) s till moment r (inl h))
begins-none config history s slots till moment r agrees (inr h) =
    begins-undecided (record {
      config = config;
      history = history;
      state = s;
    }) till moment r (runs-none config (reverse history) s till moment r (inr (h.0, h.1, agrees.in_force h.0.slot ∙ h.2)))

pub begun : (config : ConfigValue) (history : List Entry) (s : SiteState) (slots : SlotsValue) (till moment : ℕ) (r : Request) (draft : DraftValue)
    → Agrees config slots (reverse history) → IsDraft config s slots till moment r draft → IsFreshDraft (record {
      config = config;
      history = history;
      state = s;
    }) till moment r draft
begun config history s slots till moment r draft agrees d =
    let q = d.question in
    let some : in_force config q.slot (reverse history) ≡ Some draft.version = agrees.in_force q.slot ∙ d.version_is in
    let again : asked_question config s draft.till draft.request ≡ Some q = (λ i. asked_question config s (d.till_is i) (d.request_is i)) ∙ d.asked in
    let routed_is : routed config s draft.till draft.request ≡ Some q = asked-routed config s draft.till draft.request q again in
    record {
      till_is = d.till_is;
      moment_is = d.moment_is;
      request_is = d.request_is;
      runs = runs-some config (reverse history) s till moment r q draft.version d.asked some;
      fresh = rw routed_is (record {
        version = some;
        context =
            ap (λ o. context_for o s draft.till draft.moment q) some
            ∙ (λ i. bytes_of (context draft.version.program.layout s (d.till_is i) (d.moment_is i) q)) ∙ sym d.context_is;
        view = sym d.view_is;
        counters = λ k bit. ap (λ c. counter c k) d.counters_are;
      });
      counters_are = d.counters_are;
    }

-- Let `begin` return a draft made in this state, or Direct because no program would be run (`Drafts`). If the history
-- isn't full, and the slots agree with it, then this result fits the site (`Begins`).
pub begins : (config : ConfigValue) (history : List Entry) (s : SiteState) (slots : SlotsValue) (till moment : ℕ) (r : Request) (b : Begin)
    → Agrees config slots (reverse history) → length history < 1048576 → Drafts config s slots till moment r (drafted b)
    → Begins (record { config = config; history = history; state = s }) till moment r b
begins config history s slots till moment r begin.Direct agrees less d = inr (begins-none config history s slots till moment r agrees d)
begins config history s slots till moment r (begin.Run draft) agrees less d = (less, begun config history s slots till moment r draft agrees d)

-- If a call of `begin` returned without an error, then what it returned fits the site (`Begins`). It must have returned
-- a draft made in this state, or Direct because no program would be run (`Drafts`). The history must have room, and the
-- slots must agree with it. Nothing is claimed if the call returned an error.
pub begins-ok : (config : ConfigValue) (history : List Entry) (s : SiteState) (slots : SlotsValue) (till moment : ℕ) (r : Request)
    (result : Result Begin AllocError) → Agrees config slots (reverse history) → length history < 1048576
    → IfOk result (λ b. Drafts config s slots till moment r (drafted b))
    → IfOk result (Begins (record { config = config; history = history; state = s }) till moment r)
begins-ok config history s slots till moment r (Ok b) agrees less d = begins config history s slots till moment r b agrees less d
begins-ok config history s slots till moment r (Err e) agrees less d = d

-- If a call of `begin` returned an error, then the site's step would run a program for the request now. The history
-- must have room, the slots must agree with it, and after an error the request must ask a question whose slot has a
-- program (`WouldRun`). Nothing is claimed if the call returned no error.
pub begins-err : (config : ConfigValue) (history : List Entry) (s : SiteState) (slots : SlotsValue) (till moment : ℕ) (r : Request)
    (result : Result Begin AllocError) → Agrees config slots (reverse history) → length history < 1048576
    → OnErr result (WouldRun config s slots till r)
    → OnErr result ((length history < 1048576) × IsSome (run_now (record { config = config; history = history; state = s }) till moment r))
begins-err config history s slots till moment r (Ok b) agrees less w = w
begins-err config history s slots till moment r (Err e) agrees less w =
    (less, runs-some config (reverse history) s till moment r w.0 w.1 w.2 (agrees.in_force w.0.slot ∙ w.3))

-- If the slots agree with the history, then what a run would be made on is the same, whether versions are looked up in
-- the slots or in the history.
pub basis-is : (config : ConfigValue) (history : List Entry) (s : SiteState) (slots : SlotsValue) (draft : DraftValue) → Agrees config slots (reverse history)
    → basis_in config s slots draft ≡ basis (record { config = config; history = history; state = s }) draft
basis-is config history s slots draft agrees =
    λ i. basis_of (λ slot. sym (agrees.in_force slot) i) s draft.till draft.moment (routed config s draft.till draft.request)

-- The run of the entry that the site makes for the act `asked` has the draft's version and the answer that the draft's
-- program gave (`IsRunOf`), if this is true of the run of `p`, and `p` was made as the step defines (`Performs`).
pub entered-run : (site : SiteValue) (pass moment : ℕ) (asked : Act) (ready : ReadyValue) (p : Entry) (new : SiteState) (slots : SlotsValue)
    → Performs site.config (reverse site.history) site.state moment asked p new slots → IsRunOf ready p.run → IsRunOf ready (entered site pass moment asked).run
unfolding entered
entered-run site pass moment asked ready p new slots performs h = subst (IsRunOf ready) (sym (ap (λ (e : Effect). e.run) performs.effect_is)) h
