-- What two states have in common if they give the same context:
-- - The question's point is ready (`Idle` or `Calling`) in both, or in neither.
-- - The point has equally many unpaid transactions in both, if they are fewer than 2^32 in one and fewer than 2 in the
--   other.
-- - No point is busy (has a delivery authorised or under way) in either, if none is busy in one and fewer than 2^32 are
--   busy in the other.
use Rattle.std.proofs.Common.{◌≡◌, ℕ, ◌+◌, ◌%◌, ◌<◌, Bool, true, false, List, [], ◌∷◌, ◌++◌, length, take, map, replicate, Option, Some, None, refl, ap, ◌∙◌}
use Rattle.std.proofs.Common.{sym, arith, get_or, zero, suc, cond}
use Rattle.std.specs.Prelude.{◌==◌, ◌||◌, ◌-◌, count_by, find, option_map}
use Rattle.std.proofs.lemmas.List.Recursion.{is_count_by}
use Rattle.fuelling_point.specs.Table.{PointState}
use Rattle.fuelling_point.specs.declared.kinds.State.{State}
use Rattle.fuelling_point.specs.declared.kinds.State.TheVariants as state
use Rattle.fuelling_point.specs.States.{is_ready, is_busy, state_number}
use Rattle.bpf_model.specs.declared.machine.PointView.{PointView}
use Rattle.bpf_model.specs.declared.machine.View.{View}
use Rattle.bpf_model.specs.Machine.{no_point}
use Rattle.byteorder.specs.Endian.{little_number, little_bytes}
use Rattle.byteorder.specs.Numbers.{little_number-reads_back}
use Rattle.bpf_model.specs.declared.context.Layout.{Layout}
use Rattle.bpf_model.specs.declared.context.Layout.TheVariants as layouts
use Rattle.bpf_model.specs.declared.context.Context.{Context}
use Rattle.bpf_model.specs.declared.context.Context.TheVariants as contexts
use Rattle.bpf_model.specs.Layouts.{bytes_of, layout_of}
use Rattle.site_core.specs.declared.question.Question.{Question}
use Rattle.site_core.specs.State.{SiteState, at_number, busy_points, first_busy, seen, seen_points, view_of}
use Rattle.site_core.specs.declared.context.Field.{Field}
use Rattle.site_core.specs.declared.context.Field.TheVariants.{Four, Eight}
use Rattle.site_core.specs.Context.{context, fields, laid, field_or_zero, field_of_question_point}

-- ---- at which bytes a context has the point's state and the numbers of busy points and of unpaid transactions

-- The four bytes from place `at` on; 0 past the end.
four : List ℕ → ℕ → List ℕ
four bytes at = get_or bytes at 0 ∷ get_or bytes (at + 1) 0 ∷ get_or bytes (at + 2) 0 ∷ get_or bytes (at + 3) 0 ∷ []

four-same : (x y : ℕ) → x < 4294967296 → y < 256 → little_bytes 4 x ≡ little_bytes 4 y → x ≡ y
four-same x y fits small h =
    let mine : little_number 4 (little_bytes 4 x ++ []) ≡ x = little_number-reads_back 4 x [] (omega (arith, fits)) in
    let theirs : little_number 4 (little_bytes 4 y ++ []) ≡ y = little_number-reads_back 4 y [] (omega (arith, small)) in
    sym mine ∙ ap (λ bytes. little_number 4 (bytes ++ [])) h ∙ theirs

-- This lemma and the next two say where a context has three numbers: the state of the question's point at byte 12, the
-- number of busy points at byte 44, and the number of the point's unpaid transactions at byte 48.
laid-state : (a b c x : ℕ) (rest : List Field) → get_or (laid (Four a ∷ Four b ∷ Four c ∷ Four x ∷ rest)) 12 0 ≡ x % 256
unfolding laid
laid-state a b c x rest = refl

laid-busy : (a b c d e f g h i x : ℕ) (rest : List Field)
    → four (laid (Four a ∷ Four b ∷ Four c ∷ Four d ∷ Four e ∷ Four f ∷ Eight g ∷ Eight h ∷ Four i ∷ Four x ∷ rest)) 44 ≡ little_bytes 4 x
unfolding laid four
laid-busy a b c d e f g h i x rest = refl

laid-unpaid : (a b c d e f g h i j x : ℕ) (rest : List Field)
    → four (laid (Four a ∷ Four b ∷ Four c ∷ Four d ∷ Four e ∷ Four f ∷ Eight g ∷ Eight h ∷ Four i ∷ Four j ∷ Four x ∷ rest)) 48 ≡ little_bytes 4 x
unfolding laid four
laid-unpaid a b c d e f g h i j x rest = refl

context-bytes : (layout : Layout) (s : SiteState) (till moment : ℕ) (q : Question)
    → bytes_of (context layout s till moment q) ≡ laid (fields layout s till moment q)
unfolding context
context-bytes layouts.One s till moment q = refl
context-bytes layouts.Two s till moment q = refl

pub context-layout : (layout : Layout) (s : SiteState) (till moment : ℕ) (q : Question) → layout_of (context layout s till moment q) ≡ layout
unfolding context
context-layout layouts.One s till moment q = refl
context-layout layouts.Two s till moment q = refl

-- Contexts of the same layout and with the same bytes are the same.
pub same-context : (a b : Context) → layout_of a ≡ layout_of b → bytes_of a ≡ bytes_of b → a ≡ b
same-context (contexts.One x) (contexts.One y) l h = ap (λ bytes. contexts.One bytes) h
same-context (contexts.Two x) (contexts.Two y) l h = ap (λ bytes. contexts.Two bytes) h
same-context (contexts.One x) (contexts.Two y) l h = absurd (cc)
same-context (contexts.Two x) (contexts.One y) l h = absurd (cc)

fields-state : (layout : Layout) (s : SiteState) (till moment : ℕ) (q : Question) → get_or (laid (fields layout s till moment q)) 12 0 ≡ field_of_question_point s q
    (λ p. state_number p.state) % 256
fields-state layouts.One s till moment q = laid-state _ _ _ _ _
fields-state layouts.Two s till moment q = laid-state _ _ _ _ _

fields-busy : (layout : Layout) (s : SiteState) (till moment : ℕ) (q : Question) → four (laid (fields layout s till moment q)) 44
    ≡ little_bytes 4 (busy_points s)
fields-busy layouts.One s till moment q = laid-busy _ _ _ _ _ _ _ _ _ _ _
fields-busy layouts.Two s till moment q = laid-busy _ _ _ _ _ _ _ _ _ _ _

fields-unpaid : (layout : Layout) (s : SiteState) (till moment : ℕ) (q : Question) → four (laid (fields layout s till moment q)) 48
    ≡ little_bytes 4 (field_of_question_point s q (λ p. length p.unpaid))
fields-unpaid layouts.One s till moment q = laid-unpaid _ _ _ _ _ _ _ _ _ _ _ _
fields-unpaid layouts.Two s till moment q = laid-unpaid _ _ _ _ _ _ _ _ _ _ _ _

context-state : (layout : Layout) (s : SiteState) (till moment : ℕ) (q : Question) → get_or (bytes_of (context layout s till moment q)) 12 0 ≡ field_of_question_point s q
    (λ p. state_number p.state) % 256
context-state layout s till moment q = ap (λ bytes. get_or bytes 12 0) (context-bytes layout s till moment q) ∙ fields-state layout s till moment q

context-busy : (layout : Layout) (s : SiteState) (till moment : ℕ) (q : Question) → four (bytes_of (context layout s till moment q)) 44
    ≡ little_bytes 4 (busy_points s)
context-busy layout s till moment q = ap (λ bytes. four bytes 44) (context-bytes layout s till moment q) ∙ fields-busy layout s till moment q

context-unpaid : (layout : Layout) (s : SiteState) (till moment : ℕ) (q : Question) → four (bytes_of (context layout s till moment q)) 48
    ≡ little_bytes 4 (field_of_question_point s q (λ p. length p.unpaid))
context-unpaid layout s till moment q = ap (λ bytes. four bytes 48) (context-bytes layout s till moment q) ∙ fields-unpaid layout s till moment q

-- ---- a context tells whether the question's point is ready, and how many transactions are unpaid there, if below 2^32

ready-byte : ℕ → Bool
ready-byte x = x == 3 || x == 4

by-byte : (a : State) → is_ready a ≡ ready-byte (state_number a % 256)
unfolding ready-byte
by-byte state.Inoperative = refl
by-byte state.Closed = refl
by-byte state.Idle = refl
by-byte state.Calling = refl
by-byte state.Authorised = refl
by-byte state.Started = refl
by-byte state.SuspendedStarted = refl
by-byte state.Fuelling = refl
by-byte state.SuspendedFuelling = refl

of-point : (s : SiteState) (q : Question) (n : ℕ) (p : PointState) (field : PointState → ℕ) → q.point ≡ n → at_number s.points n ≡ Some p
    → field_of_question_point s q field ≡ field p
of-point s q n p field is at = ap (λ m. field_or_zero (at_number s.points m) field) is ∙ ap (λ o. field_or_zero o field) at

-- If two contexts are the same, then the points of their questions are both ready, or neither is.
pub same-ready : (layout : Layout) (s t : SiteState) (till moment n m : ℕ) (q r : Question) (p o : PointState) → q.point ≡ n → at_number s.points n ≡ Some p
    → r.point ≡ m → at_number t.points m ≡ Some o → bytes_of (context layout s till moment q) ≡ bytes_of (context layout t till moment r)
    → is_ready p.state ≡ is_ready o.state
same-ready layout s t till moment n m q r p o at here there_at there same =
    let mine : get_or (bytes_of (context layout s till moment q)) 12 0 ≡ state_number p.state % 256 =
    context-state layout s till moment q ∙ ap (λ x. x % 256) (of-point s q n p (λ x. state_number x.state) at here) in
    let theirs : get_or (bytes_of (context layout t till moment r)) 12 0 ≡ state_number o.state % 256 =
    context-state layout t till moment r ∙ ap (λ x. x % 256) (of-point t r m o (λ x. state_number x.state) there_at there) in
    by-byte p.state ∙ ap ready-byte (sym mine ∙ ap (λ bytes. get_or bytes 12 0) same ∙ theirs) ∙ sym (by-byte o.state)

-- If two contexts are the same, then the points of their questions have the same number of unpaid transactions. Fewer
-- than 2^32 must be unpaid at point p, and fewer than 2 at point o.
pub same-unpaid : (layout : Layout) (s t : SiteState) (till moment n m : ℕ) (q r : Question) (p o : PointState) → q.point ≡ n → at_number s.points n ≡ Some p
    → r.point ≡ m → at_number t.points m ≡ Some o → field_of_question_point s q (λ x. length x.unpaid) < 4294967296 → length o.unpaid < 2
    → bytes_of (context layout s till moment q) ≡ bytes_of (context layout t till moment r) → length p.unpaid ≡ length o.unpaid
same-unpaid layout s t till moment n m q r p o at here there_at there fits few same =
    let mine : field_of_question_point s q (λ x. length x.unpaid) ≡ length p.unpaid = of-point s q n p (λ x. length x.unpaid) at here in
    let theirs : field_of_question_point t r (λ x. length x.unpaid) ≡ length o.unpaid = of-point t r m o (λ x. length x.unpaid) there_at there in
    let bytes : little_bytes 4 (field_of_question_point s q (λ x. length x.unpaid)) ≡ little_bytes 4 (field_of_question_point t r (λ x. length x.unpaid)) =
    sym (context-unpaid layout s till moment q) ∙ ap (λ l. four l 48) same ∙ context-unpaid layout t till moment r in
    sym mine ∙ four-same (field_of_question_point s q (λ x. length x.unpaid)) (field_of_question_point t r (λ x. length x.unpaid)) fits (omega (arith, theirs)) bytes ∙ theirs

-- ---- a context tells whether any point is busy, if fewer than 2^32 points are

abbrev busy : PointState → Bool
busy p = is_busy p.state

abbrev count : List PointState → ℕ
count [] = 0
count (x ∷ xs) = cond (busy x) (1 + count xs) (count xs)

counted : (xs : List PointState) → count xs ≡ count_by busy xs
counted xs = is_count_by count busy refl (λ y ys. refl) xs

none-step : (b : Bool) (x : PointState) (rest : Option PointState) (n : ℕ) → (rest ≡ None → n ≡ 0) → cond b (Some x) rest ≡ None → cond b (1 + n) n ≡ 0
none-step true x rest n more h = absurd (cc)
none-step false x rest n more h = more h

none-found : (xs : List PointState) → find busy xs ≡ None → count xs ≡ 0
none-found [] h = refl
none-found (x ∷ xs) h = none-step (busy x) x (find busy xs) (count xs) (none-found xs) h

zero-step : (b : Bool) (x : PointState) (rest : Option PointState) (n : ℕ) → (n ≡ 0 → rest ≡ None) → cond b (1 + n) n ≡ 0 → cond b (Some x) rest ≡ None
zero-step true x rest n more h = absurd (omega (arith, h))
zero-step false x rest n more h = more h

none-counted : (xs : List PointState) → count xs ≡ 0 → find busy xs ≡ None
none-counted [] h = refl
none-counted (x ∷ xs) h = zero-step (busy x) x (find busy xs) (count xs) (none-counted xs) h

no-state : (o : Option PointState) → option_map (λ (p : PointState). p.state) o ≡ None → o ≡ None
no-state None h = refl
no-state (Some p) h = absurd (cc)

none-busy : (s : SiteState) → first_busy s ≡ None → busy_points s ≡ 0
unfolding first_busy busy_points
none-busy s h = sym (counted s.points) ∙ none-found s.points (no-state (find busy s.points) h)

first-none : (s : SiteState) → busy_points s ≡ 0 → first_busy s ≡ None
unfolding first_busy busy_points
first-none s h = ap (option_map (λ (p : PointState). p.state)) (none-counted s.points (counted s.points ∙ h))

-- If two contexts are the same, fewer than 2^32 points are busy in state s, and none is busy in state t, then none is
-- busy in state s.
pub same-busy : (layout : Layout) (s t : SiteState) (till moment : ℕ) (q r : Question) → busy_points s < 4294967296 → first_busy t ≡ None
    → bytes_of (context layout s till moment q) ≡ bytes_of (context layout t till moment r) → first_busy s ≡ None
same-busy layout s t till moment q r fits none same =
    let zero_there : busy_points t ≡ 0 = none-busy t none in
    let bytes : little_bytes 4 (busy_points s) ≡ little_bytes 4 (busy_points t) =
    sym (context-busy layout s till moment q) ∙ ap (λ l. four l 44) same ∙ context-busy layout t till moment r in
    first-none s (four-same (busy_points s) (busy_points t) fits (omega (arith, zero_there)) bytes ∙ zero_there)

-- ---- if the views of two states have the same points and prices, they also have the same count of points

there : List PointView → ℕ
there [] = 0
there (p ∷ ps) = cond (p.state == 0) (there ps) (suc (there ps))

is-there : (a : State) → (state_number a == 0) ≡ false
is-there state.Inoperative = refl
is-there state.Closed = refl
is-there state.Idle = refl
is-there state.Calling = refl
is-there state.Authorised = refl
is-there state.Started = refl
is-there state.SuspendedStarted = refl
is-there state.Fuelling = refl
is-there state.SuspendedFuelling = refl

there-none : (n : ℕ) → there (replicate n no_point) ≡ 0
unfolding there
there-none zero = refl
there-none (suc n) = there-none n

there-seen : (xs : List PointState) (n : ℕ) → there (map seen xs ++ replicate n no_point) ≡ length xs
unfolding there
there-seen [] n = there-none n
there-seen (x ∷ xs) n = rw (is-there x.state, there-seen xs n) refl

view-there : (s : SiteState) → there (view_of s).points ≡ (view_of s).count
unfolding view_of seen_points
view-there s = there-seen s.points (32 - length s.points)

-- If the views of two states have the same points and prices, then the views are the same: they also have the same
-- count of points.
pub same-view : (s t : SiteState) (now view : View) → now ≡ view_of s → view ≡ view_of t → now.points ≡ view.points → now.prices ≡ view.prices → now ≡ view
same-view s t now view mine theirs points prices =
    let many : now.count ≡ view.count =
    ap (λ (v : View). v.count) mine ∙ sym (view-there s) ∙ ap (λ (v : View). there v.points) (sym mine) ∙ ap there points ∙ ap
    (λ (v : View). there v.points) theirs ∙ view-there t ∙ ap (λ (v : View). v.count) (sym theirs) in
    λ i. record { count = many i; points = points i; prices = prices i }

-- ---- the bytes of the fields that the code writes are the bytes of the context

pub shared-first : (s : SiteState) (till moment : ℕ) (q : Question) → take 13 (fields layouts.Two s till moment q) ≡ fields layouts.One s till moment q
shared-first s till moment q = refl

pub one-long : (s : SiteState) (till moment : ℕ) (q : Question) → 64 ≡ length (laid (fields layouts.One s till moment q))
unfolding laid
one-long s till moment q = refl

pub two-long : (s : SiteState) (till moment : ℕ) (q : Question) → 80 ≡ length (laid (fields layouts.Two s till moment q))
unfolding laid
two-long s till moment q = refl

pub laid-one-context : (s : SiteState) (till moment : ℕ) (q : Question) (bytes : List ℕ) → bytes ≡ laid (fields layouts.One s till moment q)
    → contexts.One bytes ≡ context layouts.One s till moment q
unfolding context
laid-one-context s till moment q bytes h = ap (λ l. contexts.One l) h

pub laid-two-context : (s : SiteState) (till moment : ℕ) (q : Question) (bytes : List ℕ) → bytes ≡ laid (fields layouts.Two s till moment q)
    → contexts.Two bytes ≡ context layouts.Two s till moment q
unfolding context
laid-two-context s till moment q bytes h = ap (λ l. contexts.Two l) h
