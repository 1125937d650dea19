-- A rule that is compared with itself answers the same.
use Rattle.std.proofs.Common.{◌≡◌, ℕ, Bool, true, false, List, [], ◌∷◌, All, Option, Some, None, Result, Ok, Err, refl, ap, ◌∙◌, sym, subst}
use Rattle.std.specs.Prelude.{◌==◌, ◌&&◌, nat_lt, if◌then◌else◌}
use Rattle.std.proofs.lemmas.Bool.{eq-eqb, eqb-true}
use Rattle.std.proofs.lemmas.List.Elements.{All-cons, All-nil}
use Rattle.fuelling_point.specs.Table.{PointState}
use Rattle.fuelling_point.specs.declared.kinds.State.{State}
use Rattle.decision_journal.specs.declared.entries.Entry.{Entry}
use Rattle.decision_journal.specs.declared.entries.Run.{Run}
use Rattle.till_request.specs.declared.act.Request.{Request}
use Rattle.till_request.specs.declared.act.Request.TheVariants as request
use Rattle.till_request.specs.declared.act.Act.{Act}
use Rattle.till_request.specs.declared.act.Act.TheVariants as act
use Rattle.till_request.specs.declared.act.Reply.{Reply}
use Rattle.till_request.specs.declared.act.Reply.TheVariants as reply
use Rattle.bpf_model.specs.declared.context.Context.{Context}
use Rattle.bpf_model.specs.declared.context.Layout.{Layout}
use Rattle.bpf_model.specs.declared.context.Layout.TheVariants as layout
use Rattle.bpf_model.specs.Layouts.{bytes_of, layout_of}
use Rattle.bpf_model.specs.Machine.{Counters}
use Rattle.bpf_model.specs.Program.{ProgramText, outcome}
use Rattle.site_core.specs.Context.{context}
use Rattle.site_core.specs.Decide.{Effect, admitted, asked_at_point, bad_amount, decided as decides, denied, grant, granted_amount, is_till, is_within}
use Rattle.site_core.specs.Decide.{no_such_till, preset_of as preset_question_of, price_at, price_question_of, refuse_unless, release_of, replied, run_result, verdict, wrong_state}
use Rattle.site_core.specs.History.{in_force}
use Rattle.site_core.specs.Legal.{Legal}
use Rattle.site_core.specs.Limits.{ConfigValue}
use Rattle.site_core.specs.SlotsValue.{Version}
use Rattle.site_core.specs.State.{SiteState, at_number, first_busy, view_of}
use Rattle.site_core.specs.Step.{asked, effect}
use Rattle.site_core.specs.Steps.{point_named, state_after, step_of}
use Rattle.site_core.specs.declared.question.Question.{Question}
use Rattle.site_core.proofs.Decisions.{decided-none, decided-refused, decided-some}
use Rattle.site_core.proofs.Grants.{grant-none, grant-some, verdict-deny, verdict-grant}
use Rattle.site_core.proofs.Heads.{legal_after}
use Rattle.site_core.proofs.Lawful.{AsksAt, asks-at, err-ok, ok-same}
use Rattle.what_if.specs.Decisions.{asked_by, decided, decision_in, granted_by}
use Rattle.what_if.specs.Laws.{AllSame, TheSameRuleAnswersTheSame}
use Rattle.what_if.specs.Rows.{Found, after_any, answer_on, change_between, change_of, found_in, granted_amount_of, is_same_layout, nothing_found, preset_of, row_of, would_be}
use Rattle.what_if.specs.declared.comparison.Reading.TheVariants.{AsTheyWere}
use Rattle.what_if.specs.declared.decisions.Asking.{Asking}
use Rattle.what_if.specs.declared.decisions.Decision.{Decision}
use Rattle.what_if.specs.declared.rows.Row.{Row}
use Rattle.what_if.specs.declared.rows.RowChange.{RowChange}
use Rattle.what_if.specs.declared.rows.RowChange.TheVariants.{Same, More, Less}

-- The rows that a rule has, with the counters as they were, of a decision in this state.
abbrev rows-for : ProgramText → SiteState → ℕ → Option Decision → List Row
rows-for rule s preset decision = (after_any rule AsTheyWere (view_of s) s.counters preset nothing_found decision).rows

-- A context has the layout that it was made for.
same-layout : (l : Layout) (s : SiteState) (till moment : ℕ) (q : Question) → is_same_layout (layout_of (context l s till moment q)) l ≡ true
unfolding context
same-layout layout.One s till moment q = refl
same-layout layout.Two s till moment q = refl

-- The answer of the rule that decides, in this state.
abbrev answer-in : SiteState → ℕ → ℕ → Question → Version → ℕ × Counters
answer-in s till moment q v = answer_on v.program (context v.program.layout s till moment q) (view_of s) s.counters

denied-same : (b : Bool) (x : ℕ) → b ≡ true → change_between None (if b then None else Some x) ≡ Same
denied-same true x zero = refl
denied-same false x zero = absurd (let e : false ≡ true = zero in cc)

granted-same : (b : Bool) (g x : ℕ) → b ≡ false → g ≡ x → change_between (Some g) (if b then None else Some x) ≡ Same
granted-same false g x some is = ap (λ same. if◌then◌else◌ {A = RowChange} same Same (if nat_lt g x then More else Less)) (eq-eqb g x is)
granted-same true g x some is = absurd (let e : true ≡ false = some in cc)

one-same : (row : Row) → change_of row ≡ Same → AllSame (row ∷ [])
one-same row is = All-cons (λ (r : Row). change_of r ≡ Same) row [] is (All-nil (λ (r : Row). change_of r ≡ Same))

none-same : AllSame []
none-same = All-nil (λ (r : Row). change_of r ≡ Same)

-- A decision on a context of the rule's own layout has one row.
rows-of-one : (rule : ProgramText) (s : SiteState) (preset : ℕ) (d : Decision) → is_same_layout (layout_of d.context) rule.layout ≡ true
    → rows-for rule s preset (Some d) ≡ row_of d (answer_on rule d.context (view_of s) s.counters).0 preset ∷ []
rows-of-one rule s preset d is =
    let answer : ℕ × Counters = answer_on rule d.context (view_of s) s.counters in
    ap (λ b. (if◌then◌else◌ {A = Found} b (record { rows = row_of d answer.0 preset ∷ []; own = Some answer.1; misfit = None })
    (record { rows = []; own = None; misfit = Some d.number })).rows) is

some-is : (u v : Version) → ◌≡◌ {A = Option Version} (Some u) (Some v) → u ≡ v
some-is u v h = cc

module _ (config : ConfigValue) (past : List Entry) (s : SiteState) (slot number till moment preset : ℕ) (version : Version) (asking : Asking)
    (in-slot : in_force config slot past ≡ Some version) where
  -- Each row that the version's program has of an entry with this effect is the same.
  abbrev IsSame : Effect → Type 0
  IsSame e = AllSame (rows-for version.program s preset (decided slot number moment (Some asking) e.reply e.run))

  -- Whatever a rule answers to this question, the grant is what would be granted.
  abbrev GrantsTheSame : Question → Type 0
  GrantsTheSame q = (r : ℕ) (counters : Counters) → (grant (record s { counters = counters }) till q r).0 ≡ granted_amount_of asking r preset

  abbrev decision-of : Version → Question → Reply → Decision
  decision-of v q reply = record {
    number = number;
    moment = moment;
    asking = asking;
    granted = granted_by reply;
    version = v.number;
    context = context v.program.layout s till moment q;
  }

  row-same : (v : Version) (q : Question) (reply : Reply) (here : Bool) → (here ≡ true → v ≡ version)
      → change_between (granted_by reply) (would_be asking (answer-in s till moment q v).0 preset) ≡ Same
      → AllSame (rows-for version.program s preset (if here then Some (decision-of v q reply) else None))
  row-same v q reply false is same = none-same
  row-same v q reply true is same =
      subst (λ (w : Version). AllSame (rows-for w.program s preset (Some (decision-of v q reply)))) (is refl)
      (subst AllSame (sym (rows-of-one v.program s preset (decision-of v q reply) (same-layout v.program.layout s till moment q))) (one-same _ same))

  by-verdict : (v : Version) (q : Question) (zero : Bool) → ((answer-in s till moment q v).0 == 0) ≡ zero → GrantsTheSame q
      → ((q.slot == slot) ≡ true → v ≡ version)
      → IsSame (verdict s till moment q v (answer-in s till moment q v).0 (answer-in s till moment q v).1)
  by-verdict v q true zero grants is =
      let r : ℕ × Counters = answer-in s till moment q v in
      subst IsSame (sym (verdict-deny s till moment r.0 q v r.1 zero))
      (row-same v q (denied v.number) (q.slot == slot) is (denied-same (r.0 == 0) (granted_amount_of asking r.0 preset) zero))
  by-verdict v q false some grants is =
      let r : ℕ × Counters = answer-in s till moment q v in
      let g : ℕ × SiteState = grant (record s { counters = r.1 }) till q r.0 in
      subst IsSame (sym (verdict-grant s till moment r.0 g.0 q v r.1 g.1 some refl))
      (row-same v q (reply.Granted g.0 v.number) (q.slot == slot) is
      (granted-same (r.0 == 0) g.0 (granted_amount_of asking r.0 preset) some (grants r.0 r.1)))

  by-version : (q : Question) (o : Option Version) → in_force config q.slot past ≡ o → GrantsTheSame q → IsSame (decides config past s till moment (Ok q))
  by-version q None none grants = subst IsSame (sym (decided-none config past s till moment q none)) none-same
  by-version q (Some v) some grants =
      subst IsSame (sym (decided-some config past s till moment q v some))
      (by-verdict v q ((answer-in s till moment q v).0 == 0) refl grants
      (λ here. some-is v version (sym some ∙ ap (λ n. in_force config n past) (eqb-true q.slot slot here) ∙ in-slot)))

  by-question : (x : Result Question Reply) → ((q : Question) → x ≡ Ok q → GrantsTheSame q) → IsSame (decides config past s till moment x)
  by-question (Ok q) grants = by-version q (in_force config q.slot past) refl (grants q refl)
  by-question (Err r) grants = subst IsSame (sym (decided-refused config past s till moment r)) none-same

  by-till : (has : Bool) (x : Result Question Reply) → ((q : Question) → x ≡ Ok q → GrantsTheSame q)
      → IsSame (if has then decides config past s till moment x else replied no_such_till s)
  by-till true x grants = by-question x grants
  by-till false x grants = none-same

-- A question about a point is granted what the point's preset and the answer allow.
point-grants : (s : SiteState) (till r : ℕ) (counters : Counters) (p q : Question) → AsksAt s p q
    → (grant (record s { counters = counters }) till q r).0 ≡ granted_amount p.kind p.asked r (preset_of (at_number s.points p.point))
point-grants s till r counters p q asks =
    ap (λ (x : Question). (grant (record s { counters = counters }) till x r).0) asks.question
    ∙ ap (λ (x : ℕ × SiteState). x.0) (grant-some (record s { counters = counters }) till r p asks.point asks.is_point)
    ∙ ap (λ o. granted_amount p.kind p.asked r (preset_of o)) (sym asks.is_point)

price-is : (fits : Bool) (busy : Option State) (p q : Question)
    → refuse_unless fits bad_amount (elim busy as (λ _. Result Question Reply) [ Some state ↦ Err (wrong_state state) | None ↦ Ok p ]) ≡ Ok q → q ≡ p
price-is true None p q h = ok-same p q h
price-is true (Some state) p q h = absurd (err-ok (wrong_state state) q h)
price-is false busy p q h = absurd (err-ok bad_amount q h)

same-entry : (config : ConfigValue) (past : List Entry) (s : SiteState) (slot number moment : ℕ) (version : Version) (a : Act)
    → in_force config slot past ≡ Some version
    → AllSame (rows-for version.program s (preset_of (at_number s.points (point_named a))) (decided slot number moment (asked_by a)
    (effect config past s moment a).reply (effect config past s moment a).run))
same-entry config past s slot number moment version (act.Till till (request.Release n amount)) is =
    let p : Question = release_of config n amount in
    by-till config past s slot number till moment (preset_of (at_number s.points n)) version _ is (is_till config till) (admitted s p)
    (λ q ok r counters. point-grants s till r counters p q (asks-at s p q (at_number s.points n) refl ok))
same-entry config past s slot number moment version (act.Till till (request.Preset n amount)) is =
    let p : Question = preset_question_of config n amount in
    by-till config past s slot number till moment (preset_of (at_number s.points n)) version _ is (is_till config till) (admitted s p)
    (λ q ok r counters. point-grants s till r counters p q (asks-at s p q (at_number s.points n) refl ok))
same-entry config past s slot number moment version (act.Till till (request.Price product price)) is =
    let p : Question = price_question_of config product price in
    by-till config past s slot number till moment (preset_of (at_number s.points 0)) version _ is (is_till config till) (admitted s p)
    (λ q ok r counters. ap (λ (x : Question). (grant (record s { counters = counters }) till x r).0)
    (price-is (is_within 1 product 8 && is_within 1 price 9999999) (first_busy s) p q ok)
    ∙ ap (λ (x : ℕ × SiteState). x.0) (grant-none (record s { counters = counters }) till r p refl))
same-entry config past s slot number moment version _ is = none-same

pub same-rule : TheSameRuleAnswersTheSame
unfolding found_in decision_in
same-rule config past entry state slot version legal is =
    let s : SiteState = state_after config past in
    let before : legal.0 ≡ s = legal_after config past legal.0 legal.1 in
    let replied-so : entry.reply ≡ (effect config past s entry.moment entry.act).reply =
    ap (λ (e : Entry). e.reply) legal.3.enters ∙ ap (λ b. (effect config past b entry.moment entry.act).reply) before in
    let run-so : entry.run ≡ (effect config past s entry.moment entry.act).run =
    ap (λ (e : Entry). e.run) legal.3.enters ∙ ap (λ b. (effect config past b entry.moment entry.act).run) before in
    let preset : ℕ = preset_of (at_number s.points (point_named entry.act)) in
    subst (λ r. AllSame (rows-for version.program s preset (decided slot entry.number entry.moment (asked_by entry.act) r entry.run))) (sym replied-so)
    (subst (λ run. AllSame (rows-for version.program s preset (decided slot entry.number entry.moment (asked_by entry.act)
    (effect config past s entry.moment entry.act).reply run))) (sym run-so)
    (same-entry config past s slot entry.number entry.moment version entry.act is))
