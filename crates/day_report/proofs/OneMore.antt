-- What one more entry, slot or point changes or adds. An entry can change the last moment, and can add a load. A slot can
-- add a rule that is carried in from the day before. A point adds its unpaid transactions. If all entries together have
-- no load, then no single entry has one. The same holds for the rules in slots, and the unpaid transactions of points.
use Rattle.std.proofs.Common.{◌≡◌, ℕ, ◌+◌, ◌<◌, List, [], ◌∷◌, ◌++◌, length, map, take, drop, append_assoc, arith, Option, Some, None, refl, ap, ◌∙◌, sym, get_or}
use Rattle.std.specs.Prelude.{fold, option_to_list}
use Rattle.std.specs.List.{cons_option}
use Rattle.std.specs.Prelude.{option_map, replicate}
use Rattle.std.proofs.lemmas.Grind.{common_steps}
use Rattle.std.proofs.lemmas.List.{take_more, drop_more, take-append-drop, map-append, append-nil}
use Rattle.fuelling_point.specs.declared.kinds.Transaction.{Transaction}
use Rattle.day_report.specs.declared.adding.Unpaid.{Unpaid}
use Rattle.std.proofs.lemmas.List.Sums.{fold_push}
use Rattle.day_report.specs.Totals.{unpaid_transaction, unpaid_from, unpaid_of}
use Rattle.site_core.specs.SlotsValue.{Version}
use Rattle.day_report.specs.Carried.{carried_at, carried_from}
use Rattle.fuelling_point.specs.Table.{PointState, fresh_point}
use Rattle.decision_journal.specs.declared.entries.Entry.{Entry}
use Rattle.day_report.specs.Decisions.{load_of, loads, moment_after}

cons-append : {A : Type 0} (o : Option A) (xs ys : List A) → cons_option o (xs ++ ys) ≡ cons_option o xs ++ ys
cons-append None xs ys = refl
cons-append (Some x) xs ys = refl

pub cons-nil : {A : Type 0} (o : Option A) → cons_option o [] ≡ option_to_list o
cons-nil None = refl
cons-nil (Some x) = refl

loads-append : (moment : ℕ) (entries more : List Entry)
    → loads moment (entries ++ more) ≡ loads moment entries ++ loads (fold moment_after moment entries) more
loads-append moment [] more = refl
loads-append moment (e ∷ entries) more =
    ap (cons_option (load_of moment e)) (loads-append (moment_after moment e) entries more)
    ∙ cons-append (load_of moment e) (loads (moment_after moment e) entries) (loads (fold moment_after (moment_after moment e) entries) more)

pub loads-push : (moment : ℕ) (entries : List Entry) (entry : Entry) → loads moment (entries ++ entry ∷ []) ≡ loads moment entries
    ++ option_to_list (load_of (fold moment_after moment entries) entry)
loads-push moment entries entry =
    loads-append moment entries (entry ∷ []) ∙ ap (λ xs. loads moment entries ++ xs) (cons-nil (load_of (fold moment_after moment entries) entry))

pub loads-more : (moment : ℕ) (entries : List Entry) (i : ℕ) (entry : Entry) → i < length entries → entry ≡ get_or entries i entry
    → loads moment (take (i + 1) entries) ≡ loads moment (take i entries) ++ option_to_list (load_of (fold moment_after moment (take i entries)) entry)
loads-more moment entries i entry h is =
    ap (λ es. loads moment es) (take_more entries i entry h ∙ ap (λ e. take i entries ++ e ∷ []) (sym is)) ∙ loads-push moment (take i entries) entry

pub moment-more : (moment : ℕ) (entries : List Entry) (i : ℕ) (entry : Entry) → i < length entries → entry ≡ get_or entries i entry
    → fold moment_after moment (take (i + 1) entries) ≡ moment_after (fold moment_after moment (take i entries)) entry
moment-more moment entries i entry h is =
    ap (λ es. fold moment_after moment es) (take_more entries i entry h ∙ ap (λ e. take i entries ++ e ∷ []) (sym is))
    ∙ fold_push moment_after moment (take i entries) entry

-- ---- These lemmas say which rule one more slot carries in from the day before.

carried-append : (slot : ℕ) (rules more : List (Option Version))
    → carried_from slot (rules ++ more) ≡ carried_from slot rules ++ carried_from (slot + length rules) more
carried-append slot [] more = ap (λ n. carried_from n more) (omega arith)
carried-append slot (r ∷ rules) more =
    let same : slot + 1 + length rules ≡ slot + length (r ∷ rules) = omega arith in
    ap (cons_option (carried_at slot r)) (carried-append (slot + 1) rules more ∙ ap (λ n. carried_from (slot + 1) rules ++ carried_from n more) same)
    ∙ cons-append (carried_at slot r) (carried_from (slot + 1) rules) (carried_from (slot + length (r ∷ rules)) more)

carried-push : (slot : ℕ) (rules : List (Option Version)) (rule : Option Version) → carried_from slot (rules ++ rule ∷ []) ≡ carried_from slot rules
    ++ option_to_list (carried_at (slot + length rules) rule)
carried-push slot rules rule =
    carried-append slot rules (rule ∷ []) ∙ ap (λ xs. carried_from slot rules ++ xs) (cons-nil (carried_at (slot + length rules) rule))

-- The rules in the first i + 1 slots are the rules in the first i slots, followed by the rule in slot i. If slot i is
-- empty, nothing follows.
pub carried-more : (rules : List (Option Version)) (i : ℕ) (rule : Option Version) → i < length rules → rule ≡ get_or rules i rule
    → carried_from 0 (take (i + 1) rules) ≡ carried_from 0 (take i rules) ++ option_to_list (carried_at i rule)
carried-more rules i rule h is =
    let long : length (take i rules) ≡ i = grind (arith, common_steps) in
    let place : 0 + length (take i rules) ≡ i = omega (arith, long) in
    ap (carried_from 0) (take_more rules i rule h ∙ ap (λ x. take i rules ++ x ∷ []) (sym is))
    ∙ carried-push 0 (take i rules) rule
    ∙ ap (λ n. carried_from 0 (take i rules) ++ option_to_list (carried_at n rule)) place

-- ---- These lemmas say which unpaid transactions one more point adds.

pub map-option : {A B : Type 0} (f : A → B) (o : Option A) → map f (option_to_list o) ≡ option_to_list (option_map f o)
map-option f None = refl
map-option f (Some x) = refl

unpaid-append : (n : ℕ) (points more : List PointState) → unpaid_from n (points ++ more) ≡ unpaid_from n points ++ unpaid_from (n + length points) more
unpaid-append n [] more = ap (λ m. unpaid_from m more) (omega arith)
unpaid-append n (q ∷ points) more =
    let same : n + 1 + length points ≡ n + length (q ∷ points) = omega arith in
    ap (λ xs. map (unpaid_transaction n) q.unpaid ++ xs) (unpaid-append (n + 1) points more
    ∙ ap (λ m. unpaid_from (n + 1) points ++ unpaid_from m more) same)
    ∙ sym (append_assoc (map (unpaid_transaction n) q.unpaid) (unpaid_from (n + 1) points) (unpaid_from (n + length (q ∷ points)) more))

unpaid-push : (n : ℕ) (points : List PointState) (p : PointState) → unpaid_from n (points ++ p ∷ []) ≡ unpaid_from n points
    ++ map (unpaid_transaction (n + length points)) p.unpaid
unpaid-push n points p =
    unpaid-append n points (p ∷ []) ∙ ap (λ xs. unpaid_from n points ++ xs) (append-nil (map (unpaid_transaction (n + length points)) p.unpaid))

pub unpaid-none : unpaid_of [] ≡ []
unfolding unpaid_of
unpaid-none = refl

-- The unpaid transactions of the first i + 1 points are those of the first i points, followed by `first` and `second`,
-- the unpaid transactions of the point p at place i. Each of the two can be None.
pub unpaid-more : (points : List PointState) (i : ℕ) (p : PointState) (first second : Option Transaction) → i < length points → p ≡ get_or points i p
    → option_to_list first ++ option_to_list second ≡ p.unpaid
    → unpaid_of (take (i + 1) points) ≡ (unpaid_of (take i points) ++ option_to_list (option_map (unpaid_transaction (i + 1)) first))
    ++ option_to_list (option_map (unpaid_transaction (i + 1)) second)
unfolding unpaid_of
unpaid-more points i p first second h is both =
    let f : Transaction → Unpaid = unpaid_transaction (i + 1) in
    let long : length (take i points) ≡ i = grind (arith, common_steps) in
    let place : 1 + length (take i points) ≡ i + 1 = omega (arith, long) in
    ap (λ ps. unpaid_from 1 ps) (take_more points i p h ∙ ap (λ x. take i points ++ x ∷ []) (sym is))
    ∙ unpaid-push 1 (take i points) p
    ∙ ap (λ m. unpaid_from 1 (take i points) ++ map (unpaid_transaction m) p.unpaid) place
    ∙ ap (λ ts. unpaid_from 1 (take i points) ++ map f ts) (sym both)
    ∙ ap (λ xs. unpaid_from 1 (take i points) ++ xs) (map-append f (option_to_list first) (option_to_list second)
    ∙ (λ j. map-option f first j ++ map-option f second j))
    ∙ sym (append_assoc (unpaid_from 1 (take i points)) (option_to_list (option_map f first)) (option_to_list (option_map f second)))

-- ---- These lemmas say that two ways to make a list of closed points give the same list.

same-points : (points : List (ℕ × ℕ)) → replicate (length points) fresh_point ≡ map (λ (_ : ℕ × ℕ). fresh_point) points
same-points [] = refl
same-points (p ∷ points) = ap (λ xs. fresh_point ∷ xs) (same-points points)

-- Repeating a closed point once for each pair gives the same list as replacing each pair by a closed point.
pub closed-is : (pairs expected : List (ℕ × ℕ)) → pairs ≡ expected → replicate (length pairs) fresh_point ≡ map (λ (_ : ℕ × ℕ). fresh_point) expected
closed-is pairs expected same = same-points pairs ∙ ap (map (λ (_ : ℕ × ℕ). fresh_point)) same

-- ---- These lemmas show: if the list of all sales, loads, rules or unpaid transactions is empty, then no single entry,
-- slot or point adds an item to it.

-- If putting an optional item before a list gives the empty list, then the item is None.
none-before : {A : Type 0} (o : Option A) (xs : List A) → cons_option o xs ≡ [] → o ≡ None
none-before None xs h = refl
none-before (Some x) xs h = absurd (cc)

none-both : {A : Type 0} (xs ys : List A) → xs ++ ys ≡ [] → (xs ≡ []) × (ys ≡ [])
none-both [] ys h = (refl, h)
none-both (x ∷ xs) ys h = absurd (cc)

-- A list is its items before place i, then the item at place i, then the items after it.
at-place : {A : Type 0} (xs : List A) (i : ℕ) (x : A) → i < length xs → x ≡ get_or xs i x → xs ≡ take i xs ++ x ∷ drop (i + 1) xs
at-place xs i x h is = sym (take-append-drop i xs) ∙ ap (λ ys. take i xs ++ ys) (drop_more xs i x h ∙ ap (λ y. y ∷ drop (i + 1) xs) (sym is))

-- If none of the entries is an accepted load, then the entry at place i isn't one.
pub loads-none : (moment : ℕ) (entries : List Entry) (i : ℕ) (entry : Entry) → i < length entries → entry ≡ get_or entries i entry
    → loads moment entries ≡ []
    → load_of (fold moment_after moment (take i entries)) entry ≡ None
loads-none moment entries i entry h is none =
    let last = fold moment_after moment (take i entries) in
    let all : loads moment entries ≡ loads moment (take i entries) ++ loads last (entry ∷ drop (i + 1) entries) =
    ap (loads moment) (at-place entries i entry h is) ∙ loads-append moment (take i entries) (entry ∷ drop (i + 1) entries) in
    none-before (load_of last entry) (loads (moment_after last entry) (drop (i + 1) entries))
    (none-both (loads moment (take i entries)) (loads last (entry ∷ drop (i + 1) entries)) (sym all ∙ none)).1

-- If no slot carries in a rule from the day before, then slot i is empty.
pub carried-none : (rules : List (Option Version)) (i : ℕ) (rule : Option Version) → i < length rules → rule ≡ get_or rules i rule
    → carried_from 0 rules ≡ []
    → carried_at i rule ≡ None
carried-none rules i rule h is none =
    let long : length (take i rules) ≡ i = grind (arith, common_steps) in
    let place : 0 + length (take i rules) ≡ i = omega (arith, long) in
    let all : carried_from 0 rules ≡ carried_from 0 (take i rules) ++ carried_from i (rule ∷ drop (i + 1) rules) =
    ap (carried_from 0) (at-place rules i rule h is)
    ∙ carried-append 0 (take i rules) (rule ∷ drop (i + 1) rules)
    ∙ ap (λ n. carried_from 0 (take i rules) ++ carried_from n (rule ∷ drop (i + 1) rules)) place in
    none-before (carried_at i rule) (carried_from (i + 1) (drop (i + 1) rules))
    (none-both (carried_from 0 (take i rules)) (carried_from i (rule ∷ drop (i + 1) rules)) (sym all ∙ none)).1

none-mapped : {A B : Type 0} (f : A → B) (xs : List A) → map f xs ≡ [] → xs ≡ []
none-mapped f [] h = refl
none-mapped f (x ∷ xs) h = absurd (cc)

neither : {A : Type 0} (first second : Option A) → option_to_list first ++ option_to_list second ≡ [] → (first ≡ None) × (second ≡ None)
neither None None h = (refl, refl)
neither None (Some y) h = absurd (cc)
neither (Some x) second h = absurd (cc)

-- If no point has an unpaid transaction, then `first` and `second`, the unpaid transactions of the point at place i,
-- are both None.
pub unpaid-neither : (points : List PointState) (i : ℕ) (p : PointState) (first second : Option Transaction) → i < length points → p ≡ get_or points i p
    → option_to_list first ++ option_to_list second ≡ p.unpaid
    → unpaid_of points ≡ []
    → (first ≡ None) × (second ≡ None)
unfolding unpaid_of
unpaid-neither points i p first second h is both none =
    let n = 1 + length (take i points) in
    let all : unpaid_from 1 points ≡ unpaid_from 1 (take i points) ++ unpaid_from n (p ∷ drop (i + 1) points) =
    ap (unpaid_from 1) (at-place points i p h is) ∙ unpaid-append 1 (take i points) (p ∷ drop (i + 1) points) in
    let behind = (none-both (unpaid_from 1 (take i points)) (unpaid_from n (p ∷ drop (i + 1) points)) (sym all ∙ none)).1 in
    let mapped = (none-both (map (unpaid_transaction n) p.unpaid) (unpaid_from (n + 1) (drop (i + 1) points)) behind).0 in
    neither first second (both ∙ none-mapped (unpaid_transaction n) p.unpaid mapped)
