-- Let a request ask a program a question in one state. Let `routed` give the request's question in another state,
-- without checking whether that state refuses it. If both questions have the same context, each in its own state, then
-- the request asks a program this question in the other state too. In the other state the counts that the context holds
-- must fit into their bytes (`FitsContext`).
use Rattle.std.proofs.Common.{◌≡◌, ℕ, ◌<◌, ◌≤◌, ◌&&◌, Bool, true, false, length, Option, Some, None, Ok, Err, refl, ap, ◌∙◌, sym, arith}
use Rattle.std.specs.Prelude.{if◌then◌else◌, nat_lt}
use Rattle.std.specs.Result.{result_ok}
use Rattle.std.proofs.lemmas.Bool.{ltb-true}
use Rattle.std.proofs.lemmas.Bool.Decides.{nat_tests}
use Rattle.fuelling_point.specs.Table.{PointState}
use Rattle.fuelling_point.specs.States.{is_ready}
use Rattle.fuelling_point.specs.declared.kinds.State.{State}
use Rattle.till_request.specs.declared.act.Request.{Request}
use Rattle.till_request.specs.declared.act.Request.TheVariants as request
use Rattle.till_request.specs.declared.act.Reply.{Reply}
use Rattle.bpf_model.specs.declared.context.Layout.{Layout}
use Rattle.bpf_model.specs.Layouts.{bytes_of}
use Rattle.site_core.specs.declared.question.Kind.{Kind}
use Rattle.site_core.specs.declared.question.Kind.TheVariants.{Release, Price}
use Rattle.site_core.specs.declared.question.Question.{Question}
use Rattle.site_core.specs.declared.question.RequestAction.{RequestAction}
use Rattle.site_core.specs.declared.question.RequestAction.TheVariants as action
use Rattle.site_core.specs.Limits.{ConfigValue}
use Rattle.site_core.specs.State.{SiteState, at_number, first_busy}
use Rattle.site_core.specs.Context.{context}
use Rattle.site_core.specs.Decide.{is_till, is_within, refuse_unless, bad_amount, wrong_state, release_of, preset_of, price_question_of, has_room, admitted}
use Rattle.site_core.specs.Decide.{asked_at_point, price_at, request_action, question_in, question_of}
use Rattle.site_core.specs.Decide.{asked_question, HasPointOrValidPrice}
use Rattle.site_core.specs.Draft.{routed, routed_request, routed_to, at_point}
use Rattle.site_core.specs.Asked.{FitsContext}
use Rattle.site_core.proofs.Points.{asked-some}
use Rattle.site_core.proofs.Lawful.{AsksAt, Asked, asks-at, ok-same, err-ok}
use Rattle.site_core.proofs.Contexts.{same-ready, same-unpaid, same-busy}

pub ok-is : (x : Asked) (q : Question) → result_ok x ≡ Some q → x ≡ Ok q
ok-is (Ok p) q h = ap (λ y. Ok y) (let e : ◌≡◌ {A = Option Question} (Some p) (Some q) = h in let s : p ≡ q = cc in s)
ok-is (Err r) q h = absurd (let e : ◌≡◌ {A = Option Question} None (Some q) = h in cc)

pub none-some : (q : Question) → ◌≡◌ {A = Option Question} None (Some q) → ⊥
none-some q h = cc

some-same : (p q : Question) → ◌≡◌ {A = Option Question} (Some p) (Some q) → p ≡ q
some-same p q h = cc

-- ---- if a price change isn't refused, its product and its price are in their ranges, and no point is busy

-- The question `q` is `p`. The product and the price are in their ranges, and no point is busy (has a delivery
-- authorised or under way).
record AsksPrice (s : SiteState) (p q : Question) : Type 0 where
  question : q ≡ p
  within : (is_within 1 p.product 8 && is_within 1 p.asked 9999999) ≡ true
  free : first_busy s ≡ None

price-ok : (b : Bool) (x : Reply) (busy : Option State) (p q : Question)
    → refuse_unless b x (elim busy as (λ _. Asked) [ Some state ↦ Err (wrong_state state) | None ↦ Ok p ]) ≡ Ok q → (b ≡ true) × (busy ≡ None) × (q ≡ p)
price-ok true x None p q h = (refl, refl, ok-same p q h)
price-ok true x (Some state) p q h = absurd (err-ok (wrong_state state) q h)
price-ok false x busy p q h = absurd (err-ok x q h)

asks-price : (s : SiteState) (p q : Question) → price_at (first_busy s) p ≡ Ok q → AsksPrice s p q
asks-price s p q h =
    let all = price-ok (is_within 1 p.product 8 && is_within 1 p.asked 9999999) bad_amount (first_busy s) p q h in
    record { question = all.2; within = all.0; free = all.1 }

-- ---- if a request asks a program a question in a state, then `routed` gives the same question for the request

at-none : (s : SiteState) (n : ℕ) (q : Question) → at_number s.points n ≡ None → at_point s n q ≡ None
unfolding at_point
at-none s n q none = rw (none, at_point)

at-some : (s : SiteState) (n : ℕ) (q : Question) (p : PointState) → at_number s.points n ≡ Some p → at_point s n q ≡ Some q
unfolding at_point
at-some s n q p some = rw (some, at_point)

-- The questions `q` and `asked` are the same, and point `n` exists.
record Routes (s : SiteState) (n : ℕ) (asked q : Question) : Type 0 where
  point : PointState
  is_point : at_number s.points n ≡ Some point
  question : q ≡ asked

routes : (s : SiteState) (n : ℕ) (asked q : Question) (o : Option PointState) → at_number s.points n ≡ o → at_point s n asked ≡ Some q → Routes s n asked q
routes s n asked q None at h = absurd (none-some q (sym (at-none s n asked at) ∙ h))
routes s n asked q (Some p) at h = record { point = p; is_point = at; question = sym (some-same asked q (sym (at-some s n asked p at) ∙ h)) }

kind-routed : (s : SiteState) (p q : Question) (k : Kind) → elim k as (λ _. Asked) [ Price ↦ price_at (first_busy s) p | _ ↦ asked_at_point s p ] ≡ Ok q
    → elim k as (λ _. Option Question) [ Price ↦ Some p | _ ↦ at_point s p.point p ] ≡ Some q
kind-routed s p q Price h = ap (λ x. Some x) (sym (asks-price s p q h).question)
kind-routed s p q _ h =
    let a : AsksAt s p q = asks-at s p q (at_number s.points p.point) refl h in
    at-some s p.point p a.point a.is_point ∙ ap (λ x. Some x) (sym a.question)

-- If a request that leads to `a` asks a program the question `q` in this state, then `routed_to` gives `q` for `a` too.
asked-routed-action : (s : SiteState) (a : RequestAction) (q : Question) → question_in s a ≡ Some q → routed_to s a ≡ Some q
asked-routed-action s (action.Decision p) q h = kind-routed s p q p.kind (ok-is (admitted s p) q h)
asked-routed-action s _ q h = absurd (none-some q h)

asked-routed-till : (config : ConfigValue) (s : SiteState) (r : Request) (q : Question) (b : Bool) → (if b then question_of config s r else None) ≡ Some q
    → (if b then routed_request config s r else None) ≡ Some q
asked-routed-till config s r q true h = asked-routed-action s (request_action config r) q h
asked-routed-till config s r q false h = absurd (none-some q h)

pub asked-routed : (config : ConfigValue) (s : SiteState) (till : ℕ) (r : Request) (q : Question) → asked_question config s till r ≡ Some q
    → routed config s till r ≡ Some q
asked-routed config s till r q h = asked-routed-till config s r q (is_till config till) h

-- ---- a request that asks a program in one state also does so in one with the same context, if `FitsContext` holds

at-again : (s : SiteState) (p : Question) (x : PointState) → at_number s.points p.point ≡ Some x → is_within 1 p.asked 999999999 ≡ true
    → is_ready x.state ≡ true → has_room p.kind x ≡ true → asked_at_point s p ≡ Ok p
at-again s p x at within ready room = asked-some s p x at ∙ rw (within, ready, room) refl

price-again : (p : Question) (busy : Option State) → (is_within 1 p.product 8 && is_within 1 p.asked 9999999) ≡ true → busy ≡ None → price_at busy p ≡ Ok p
price-again p busy within free = rw (within, free) refl

-- If a point has room for the unpaid transaction that a release leads to, so has a point with as many unpaid
-- transactions. Questions of other kinds need no room (`has_room`).
room-again : (k : Kind) (x y : PointState) → has_room k x ≡ true → (length x.unpaid < 2 → length y.unpaid ≡ length x.unpaid) → has_room k y ≡ true
room-again Release x y room same =
    let less : length x.unpaid < 2 = ltb-true (length x.unpaid) 2 room in
    ap (λ n. nat_lt n 2) (same less) ∙ room
room-again _ x y room same = refl

-- Let the questions `p` and `r` have the same kind and amount; their points and slots can differ. If the state `t`
-- doesn't refuse `r`, if `p` has the same context in the state `s` as `r` has in `t`, and if the point of `p` exists in
-- `s`, then `s` doesn't refuse `p`. The counts in the context must fit into their bytes (`FitsContext`).
by-point : (layout : Layout) (s t : SiteState) (till moment : ℕ) (p r q was : Question) → p.kind ≡ r.kind → p.asked ≡ r.asked
    → asked_at_point t r ≡ Ok was → at_point s p.point p ≡ Some q → FitsContext s q
    → bytes_of (context layout s till moment q) ≡ bytes_of (context layout t till moment was) → asked_at_point s p ≡ Ok q
by-point layout s t till moment p r q was kind_is asked_is h routed fits same =
    let a : AsksAt t r was = asks-at t r was (at_number t.points r.point) refl h in
    let to : Routes s p.point p q = routes s p.point p q (at_number s.points p.point) refl routed in
    let here : q.point ≡ p.point = ap (λ (x : Question). x.point) to.question in
    let there : was.point ≡ r.point = ap (λ (x : Question). x.point) a.question in
    let ready : is_ready to.point.state ≡ true =
    same-ready layout s t till moment p.point r.point q was to.point a.point here to.is_point there a.is_point same ∙ a.ready in
    let room : has_room r.kind to.point ≡ true = room-again r.kind a.point to.point a.room
    (λ less. same-unpaid layout s t till moment p.point r.point q was to.point a.point here to.is_point there a.is_point fits.unpaid less same) in
    at-again s p to.point to.is_point (ap (λ n. is_within 1 n 999999999) asked_is ∙ a.within) ready (ap (λ k. has_room k to.point) kind_is ∙ room)
    ∙ ap (λ x. Ok x) (sym to.question)

by-request : (layout : Layout) (config other : ConfigValue) (s t : SiteState) (till moment : ℕ) (r : Request) (q was : Question)
    → question_of other t r ≡ Some was → routed_request config s r ≡ Some q → FitsContext s q
    → bytes_of (context layout s till moment q) ≡ bytes_of (context layout t till moment was) → question_of config s r ≡ Some q
by-request layout config other s t till moment (request.Release n amount) q was h routed fits same =
    ap result_ok (by-point layout s t till moment (release_of config n amount) (release_of other n amount) q was refl refl
    (ok-is (admitted t (release_of other n amount)) was h) routed fits same)
by-request layout config other s t till moment (request.Preset n amount) q was h routed fits same =
    ap result_ok (by-point layout s t till moment (preset_of config n amount) (preset_of other n amount) q was refl refl
    (ok-is (admitted t (preset_of other n amount)) was h) routed fits same)
by-request layout config other s t till moment (request.Price product price) q was h routed fits same =
    let p : Question = price_question_of config product price in
    let a : AsksPrice t (price_question_of other product price) was =
    asks-price t (price_question_of other product price) was (ok-is (admitted t (price_question_of other product price)) was h) in
    let free : first_busy s ≡ None = same-busy layout s t till moment q was fits.busy a.free same in
    ap result_ok (price-again p (first_busy s) a.within free) ∙ routed
by-request layout config other s t till moment _ q was h routed fits same = absurd (none-some was h)

by-till : (layout : Layout) (config other : ConfigValue) (s t : SiteState) (till moment : ℕ) (r : Request) (q was : Question) (b c : Bool)
    → (if c then question_of other t r else None) ≡ Some was → (if b then routed_request config s r else None) ≡ Some q → FitsContext s q
    → bytes_of (context layout s till moment q) ≡ bytes_of (context layout t till moment was) → (if b then question_of config s r else None) ≡ Some q
by-till layout config other s t till moment r q was true true h routed fits same = by-request layout config other s t till moment r q was h routed fits same
by-till layout config other s t till moment r q was true false h routed fits same = absurd (none-some was h)
by-till layout config other s t till moment r q was false c h routed fits same = absurd (none-some q routed)

pub asked-again : (layout : Layout) (config other : ConfigValue) (s t : SiteState) (till moment : ℕ) (r : Request) (q was : Question)
    → asked_question other t till r ≡ Some was → routed config s till r ≡ Some q → FitsContext s q
    → bytes_of (context layout s till moment q) ≡ bytes_of (context layout t till moment was) → asked_question config s till r ≡ Some q
asked-again layout config other s t till moment r q was h routed fits same =
    by-till layout config other s t till moment r q was (is_till config till) (is_till other till) h routed fits same

-- ---- if a request asks a program a question, then the question's point exists, or its product and price are valid

some-none : (p : PointState) → ◌≡◌ {A = Option PointState} (Some p) None → ⊥
some-none p h = cc

in-range : (product price : ℕ) → (is_within 1 product 8 && is_within 1 price 9999999) ≡ true → (1 ≤ product) × (product ≤ 8) × (price ≤ 9999999)
in-range product price h = (grind (arith, nat_tests, h), grind (arith, nat_tests, h), grind (arith, nat_tests, h))

kind-well : (s : SiteState) (p q : Question) (k : Kind) → elim k as (λ _. Asked) [ Price ↦ price_at (first_busy s) p | _ ↦ asked_at_point s p ] ≡ Ok q
    → HasPointOrValidPrice s q
kind-well s p q Price h = λ none.
    let a : AsksPrice s p q = asks-price s p q h in
    rw a.question (in-range p.product p.asked a.within)
kind-well s p q _ h = λ none.
    let a : AsksAt s p q = asks-at s p q (at_number s.points p.point) refl h in
    absurd (some-none a.point (sym a.is_point ∙ ap (λ (x : Question). at_number s.points x.point) (sym a.question) ∙ none))

pub well-action : (s : SiteState) (a : RequestAction) (q : Question) → question_in s a ≡ Some q → HasPointOrValidPrice s q
well-action s (action.Decision p) q h = kind-well s p q p.kind (ok-is (admitted s p) q h)
well-action s _ q h = absurd (none-some q h)

well-till : (config : ConfigValue) (s : SiteState) (r : Request) (q : Question) (b : Bool) → (if b then question_of config s r else None) ≡ Some q
    → HasPointOrValidPrice s q
well-till config s r q true h = well-action s (request_action config r) q h
well-till config s r q false h = absurd (none-some q h)

pub well-asked : (config : ConfigValue) (s : SiteState) (till : ℕ) (r : Request) (q : Question) → asked_question config s till r ≡ Some q → HasPointOrValidPrice s q
well-asked config s till r q h = well-till config s r q (is_till config till) h

-- If the site has a till of this number, then the number isn't 0.
first-till : (till tills : ℕ) → is_within 1 till tills ≡ true → 0 < till
first-till till tills h = grind (arith, nat_tests, h)

till-test : (config : ConfigValue) (s : SiteState) (r : Request) (q : Question) (b : Bool) → (if b then question_of config s r else None) ≡ Some q → b ≡ true
till-test config s r q true h = refl
till-test config s r q false h = absurd (none-some q h)

pub till-there : (config : ConfigValue) (s : SiteState) (till : ℕ) (r : Request) (q : Question) → asked_question config s till r ≡ Some q → 0 < till
till-there config s till r q h = first-till till config.tills (till-test config s r q (is_till config till) h)
