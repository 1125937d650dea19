-- Each granted release of a legal history is lawful (`LawfulRelease`). The reply names the version in force, and the
-- run of this version ends with an answer that isn't 0. The point is ready (`Idle` or `Calling`) and has fewer than two
-- unpaid transactions. The granted amount is the least of the amount asked, the answer, and the point's preset if it
-- has one.
use Rattle.std.proofs.Common.{◌≡◌, ℕ, Bool, true, false, List, [], ◌∷◌, length, Option, Some, None, Result, Ok, Err, refl, ap, ◌∙◌, sym}
use Rattle.std.proofs.lemmas.Bool.{ltb-true, eqb-false}
use Rattle.std.specs.Prelude.{IsTrue, if◌then◌else◌, ◌==◌}
use Rattle.fuelling_point.specs.Table.{PointState}
use Rattle.fuelling_point.specs.States.{is_ready}
use Rattle.decision_journal.specs.declared.entries.Entry.{Entry}
use Rattle.till_request.specs.declared.act.Request.TheVariants as request
use Rattle.till_request.specs.declared.act.Act.{Act}
use Rattle.till_request.specs.declared.act.Act.TheVariants as act
use Rattle.till_request.specs.declared.act.Reply.{Reply}
use Rattle.till_request.specs.declared.act.Reply.TheVariants as reply
use Rattle.bpf_model.specs.Machine.{Counters}
use Rattle.bpf_model.specs.Runs.{Outcome, Ended, GotStuck, Running}
use Rattle.bpf_model.specs.Program.{outcome}
use Rattle.site_core.specs.SlotsValue.{Version}
use Rattle.bpf_model.specs.Layouts.{bytes_of}
use Rattle.site_core.specs.declared.question.Kind.TheVariants as kind
use Rattle.site_core.specs.declared.question.Question.{Question}
use Rattle.site_core.specs.Limits.{ConfigValue}
use Rattle.site_core.specs.State.{SiteState, at_number, view_of}
use Rattle.site_core.specs.Context.{context}
use Rattle.site_core.specs.History.{in_force}
use Rattle.site_core.specs.Decide.{Effect, replied, no_such_point, no_such_till, denied, is_till, bad_amount, transactions_full, wrong_state, no_program}
use Rattle.site_core.specs.Decide.{is_within, refuse_unless, slots_of, has_room, release_of, asked_at_point, admitted, decided, verdict}
use Rattle.site_core.specs.Decide.{run_result, grant, granted_amount, is_decided}
use Rattle.site_core.specs.Step.{effect}
use Rattle.site_core.specs.Legal.{Legal, LawfulRelease, LawfulEntry, LawfulReleases}
use Rattle.site_core.proofs.Undecided.{refuses, admitted-no}
use Rattle.site_core.proofs.Points.{asked-none, asked-some}
use Rattle.site_core.proofs.Decisions.{decided-refused, decided-none, decided-some}

-- A legal history leads to only one state.
pub legal-unique : (config : ConfigValue) (h : List Entry) (s t : SiteState) → Legal config h s → Legal config h t → s ≡ t
legal-unique config [] s t l m = l ∙ sym m
legal-unique config (e ∷ past) s t l m =
    l.3.leaves ∙ ap (λ b. (effect config past b e.moment e.act).after) (legal-unique config past l.0 m.0 l.1 m.1) ∙ sym m.3.leaves

-- The question `q` is `p`, and its point exists. The point is ready (`Idle` or `Calling`) and, if the question is about
-- a release, has fewer than two unpaid transactions. The amount is in its range.
pub record AsksAt (s : SiteState) (p q : Question) : Type 0 where
  pub point : PointState
  pub is_point : at_number s.points p.point ≡ Some point
  pub question : q ≡ p
  pub within : is_within 1 p.asked 999999999 ≡ true
  pub ready : IsTrue (is_ready point.state)
  pub room : IsTrue (has_room p.kind point)

abbrev pub Asked : Type 0
Asked = Result Question Reply

pub ok-same : (p q : Question) → ◌≡◌ {A = Asked} (Ok p) (Ok q) → q ≡ p
ok-same p q h = cc

pub err-ok : (r : Reply) (q : Question) → ◌≡◌ {A = Asked} (Err r) (Ok q) → ⊥
err-ok r q h = cc

three-ok : (a b c : Bool) (x y z : Reply) (p q : Question) → refuse_unless a x (refuse_unless b y (refuse_unless c z (Ok p))) ≡ Ok q → (a ≡ true) × (b ≡ true) × (c ≡ true) × (q ≡ p)
three-ok true true true x y z p q h = (refl, refl, refl, ok-same p q h)
three-ok true true false x y z p q h = absurd (err-ok z q h)
three-ok true false c x y z p q h = absurd (err-ok y q h)
three-ok false b c x y z p q h = absurd (err-ok x q h)

pub asks-at : (s : SiteState) (p q : Question) (o : Option PointState) → at_number s.points p.point ≡ o → asked_at_point s p ≡ Ok q → AsksAt s p q
asks-at s p q None at h = absurd (err-ok no_such_point q (sym (asked-none s p at) ∙ h))
asks-at s p q (Some x) at h =
    let all = three-ok (is_within 1 p.asked 999999999) (is_ready x.state) (has_room p.kind x) bad_amount (wrong_state x.state) transactions_full p q
    (sym (asked-some s p x at) ∙ h) in
    record { point = x; is_point = at; question = all.3; within = all.0; ready = all.1; room = all.2 }

-- If the program's answer is 0, the reply is a denial. So a grant means that the answer isn't 0.
verdict-denied : (s : SiteState) (till moment : ℕ) (q : Question) (v : Version) (r : ℕ) (c : Counters) → (r == 0) ≡ true
    → (verdict s till moment q v r c).reply ≡ denied v.number
unfolding verdict
verdict-denied s till moment q v r c zero = rw (zero, verdict)

verdict-granted : (s : SiteState) (till moment : ℕ) (q : Question) (v : Version) (r : ℕ) (c : Counters) → (r == 0) ≡ false
    → (verdict s till moment q v r c).reply ≡ reply.Granted (grant (record s { counters = c }) till q r).0 v.number
unfolding verdict
verdict-granted s till moment q v r c some = rw (some, verdict)

-- The amount that `grant` gives for a release at a point is what `granted_amount` computes from the amount that is
-- asked, the program's answer r and the point's preset.
grant-release : (s : SiteState) (till n amount r slot : ℕ) (p : PointState) → at_number s.points n ≡ Some p
    → (grant s till (record { kind = kind.Release; point = n; product = 0; asked = amount; slot = slot }) r).0 ≡ granted_amount kind.Release amount r p.preset
unfolding grant
grant-release s till n amount r slot p at = rw (at, grant)

by-answer : (config : ConfigValue) (past : List Entry) (s : SiteState) (till moment n amount g v r : ℕ) (q : Question) (w : Version) (c : Counters)
    (zero : Bool) → (r == 0) ≡ zero → AsksAt s (release_of config n amount) q → in_force config q.slot past ≡ Some w
    → outcome w.program (bytes_of (context w.program.layout s till moment q)) (view_of s) s.counters ≡ Ended r c
    → reply.Granted g v ≡ (verdict s till moment q w r c).reply → LawfulRelease config past s till moment n amount g v
by-answer config past s till moment n amount g v r q w c true zero a some exit h = absurd (let e = h ∙ verdict-denied s till moment q w r c zero in cc)
by-answer config past s till moment n amount g v r q w c false zero a some exit h =
    let e : reply.Granted g v ≡ reply.Granted (grant (record s { counters = c }) till q r).0 w.number = h ∙ verdict-granted s till moment q w r c zero in
    let number : w.number ≡ v = cc in
    let given : g ≡ (grant (record s { counters = c }) till q r).0 = cc in
    let slot : q.slot ≡ (slots_of config n).0 = ap (λ (x : Question). x.slot) a.question in
    record {
      point = a.point;
      is_point = a.is_point;
      version = w;
      in_force = sym (ap (λ x. in_force config x past) slot) ∙ some;
      number = number;
      r = r;
      counters = c;
      exits = sym (ap (λ x. outcome w.program (bytes_of (context w.program.layout s till moment x)) (view_of s) s.counters) a.question) ∙ exit;
      allowed = eqb-false r 0 zero;
      ready = a.ready;
      room = ltb-true (length a.point.unpaid) 2 a.room;
      grant = given ∙ ap (λ x. (grant (record s { counters = c }) till x r).0) a.question ∙ grant-release
          (record s { counters = c }) till n amount r (slots_of config n).0 a.point a.is_point;
    }

by-outcome : (config : ConfigValue) (past : List Entry) (s : SiteState) (till moment n amount g v : ℕ) (q : Question) (w : Version) (o : Outcome)
    → AsksAt s (release_of config n amount) q → in_force config q.slot past ≡ Some w
    → outcome w.program (bytes_of (context w.program.layout s till moment q)) (view_of s) s.counters ≡ o
    → reply.Granted g v ≡ (verdict s till moment q w (run_result o s.counters).0 (run_result o s.counters).1).reply
    → LawfulRelease config past s till moment n amount g v
by-outcome config past s till moment n amount g v q w (Ended r c) a some is h =
    by-answer config past s till moment n amount g v r q w c (r == 0) refl a some is h
by-outcome config past s till moment n amount g v q w GotStuck a some is h = absurd (let e = h ∙ verdict-denied s till moment q w 0 s.counters refl in cc)
by-outcome config past s till moment n amount g v q w (Running t) a some is h = absurd (let e = h ∙ verdict-denied s till moment q w 0 s.counters refl in cc)

by-version : (config : ConfigValue) (past : List Entry) (s : SiteState) (till moment n amount g v : ℕ) (q : Question) (o : Option Version)
    → AsksAt s (release_of config n amount) q → in_force config q.slot past ≡ o → reply.Granted g v ≡ (decided config past s till moment (Ok q)).reply
    → LawfulRelease config past s till moment n amount g v
by-version config past s till moment n amount g v q None a none h =
    absurd (let e : reply.Granted g v ≡ no_program q.slot = h ∙ ap (λ (x : Effect). x.reply) (decided-none config past s till moment q none) in cc)
by-version config past s till moment n amount g v q (Some w) a some h =
    by-outcome config past s till moment n amount g v q w (outcome w.program (bytes_of (context w.program.layout s till moment q)) (view_of s) s.counters) a
    some refl
    (h ∙ ap (λ (x : Effect). x.reply) (decided-some config past s till moment q w some))

by-question : (config : ConfigValue) (past : List Entry) (s : SiteState) (till moment n amount g v : ℕ) (x : Result Question Reply)
    → admitted s (release_of config n amount) ≡ x → reply.Granted g v ≡ (decided config past s till moment x).reply → LawfulRelease config past s till moment n amount g v
by-question config past s till moment n amount g v (Ok q) is h =
    by-version config past s till moment n amount g v q (in_force config q.slot past)
    (asks-at s (release_of config n amount) q (at_number s.points n) refl is) refl h
by-question config past s till moment n amount g v (Err r) is h =
    let same : reply.Granted g v ≡ r = h ∙ ap (λ (x : Effect). x.reply) (decided-refused config past s till moment r) in
    let no : is_decided r ≡ false = sym (ap refuses is) ∙ admitted-no s (release_of config n amount) in
    let yes : true ≡ is_decided r = ap is_decided same in
    absurd (let e : true ≡ false = yes ∙ no in cc)

by-till : (config : ConfigValue) (past : List Entry) (s : SiteState) (till moment n amount g v : ℕ) (b : Bool)
    → reply.Granted g v ≡ (if b then decided config past s till moment (admitted s (release_of config n amount)) else replied no_such_till s).reply
    → LawfulRelease config past s till moment n amount g v
by-till config past s till moment n amount g v true h = by-question config past s till moment n amount g v (admitted s (release_of config n amount)) refl h
by-till config past s till moment n amount g v false h = absurd (let e : reply.Granted g v ≡ no_such_till = h in cc)

lawful-entry : (config : ConfigValue) (past : List Entry) (s : SiteState) (moment : ℕ) (act : Act) (r : Reply) → r ≡ (effect config past s moment act).reply
    → LawfulEntry config past s moment act r
lawful-entry config past s moment (act.Till till (request.Release n amount)) (reply.Granted g v) h =
    by-till config past s till moment n amount g v (is_till config till) h
lawful-entry config past s moment _ _ h = tt

pub lawful : (config : ConfigValue) (h : List Entry) (s : SiteState) → Legal config h s → LawfulReleases config h
lawful config [] s legal = tt
lawful config (e ∷ past) s legal = (
  λ before l.
      let same = legal-unique config past before legal.0 l legal.1 in
      let reply : e.reply ≡ (effect config past before e.moment e.act).reply =
      ap (λ (x : Entry). x.reply) legal.3.enters ∙ ap (λ b. (effect config past b e.moment e.act).reply) (sym same) in
      lawful-entry config past before e.moment e.act e.reply reply,
  lawful config past legal.0 legal.1,
)
