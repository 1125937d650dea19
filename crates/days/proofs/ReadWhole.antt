-- The text of an opening is read as that opening, and whatever a text is, what is read of it is an opening.
use Rattle.std.proofs.Common.{◌≡◌, ℕ, zero, suc, ◌+◌, ◌-◌, ◌<◌, ◌≤◌, ◌^◌, List, [], ◌∷◌, ◌++◌, length, map, set, get_or, replicate}
use Rattle.std.proofs.Common.{Bool, true, false, Option, Some, None, Result, Ok, Err, refl, sym, ◌∙◌, ap, subst, append_assoc, append-nil}
use Rattle.std.proofs.Common.{length-append, arith, lit≤, eqb, cond, ◌&&◌}
use Rattle.std.proofs.lemmas.Grind.{common_steps}
use Rattle.std.proofs.Common.{rules}
use Rattle.std.specs.Prelude.{◌==◌, All}
use Rattle.std.specs.List.{AllByRecursion}
use Rattle.std.proofs.Math.Seq.{get_or-append_seam}
use Rattle.std.proofs.lemmas.List.Elements.{All-replicate}
use Rattle.bpf_model.specs.Program.{as_loaded}
use Rattle.fuelling_point.specs.declared.kinds.Transaction.{Transaction}
use Rattle.fuelling_point.specs.Snapshot.{IsPointState, IsUnpaid}
use Rattle.fuelling_point.specs.Table.{PointState, fresh_point}
use Rattle.site_core.specs.Slots.{IsRule}
use Rattle.site_core.specs.SlotsValue.{Version}
use Rattle.site_core.specs.Opening.{IsNewNumber, HaveOwnNumbers}
use Rattle.site_core.proofs.Numbers.{flipped, own_head, own_none, own_set, own_tail}
use Rattle.till_request.specs.declared.act.LineFault.{LineFault}
use Rattle.days.specs.declared.file.OpeningFile.{OpeningFile}
use Rattle.days.specs.declared.line.Line.{Line}
use Rattle.days.specs.declared.line.Line.TheVariants as lines
use Rattle.days.specs.File.{IsOpeningFile}
use Rattle.days.specs.Flaws.{HasNoOpening}
use Rattle.days.specs.Parsing.{line_read}
use Rattle.days.specs.Ranges.{FileFits, PointFits, UnpaidFits, VersionFits}
use Rattle.days.specs.Reading.{CanTake, Reads, Takes, TakesRead, after_line, blank_file, pieces, point_at, with_unpaid}
use Rattle.days.specs.Text.{counter_lines, head_lines, line_spelling, numbered_lines, opening_lines, opening_text, own_values, point_lines, price_lines, version_lines}
use Rattle.days.proofs.ReadBack.{LineFits, reads_back, split_text}

-- The lines `ls` are taken one after another when `f` has been read, and `g` has been read after them. The numbers in
-- the lines are in range.
abbrev Leads : OpeningFile → List Line → OpeningFile → Type 0
Leads f [] g = f ≡ g
Leads f (l ∷ ls) g = CanTake f l × LineFits l × Leads (after_line f l) ls g

leads_both : (f g h : OpeningFile) (ls ms : List Line) → Leads f ls g → Leads g ms h → Leads f (ls ++ ms) h
leads_both f g h [] ms a b = subst (λ x. Leads x ms h) (sym a) b
leads_both f g h (l ∷ ls) ms a b = (a.0, a.1, leads_both (after_line f l) g h ls ms a.2 b)

-- ---- the items of a list are read one after another

-- `S xs k` is what has been read when the first items of the list `whole` are read, which are `xs`, and k items aren't.
-- If the lines of each item lead from the items before it to this item, then all lines lead to the whole list. `w n x`
-- is the lines of the item `x` with the number n.
fill : {T : Type 0} (S : List T → ℕ → OpeningFile) (w : ℕ → T → List Line) (n : ℕ) (whole : List T) (last : OpeningFile) → S whole 0 ≡ last
    → ((xs zs : List T) (x : T) → xs ++ x ∷ zs ≡ whole → Leads (S xs (length (x ∷ zs))) (w (n + length xs) x) (S (xs ++ x ∷ []) (length zs)))
    → (xs zs : List T) → xs ++ zs ≡ whole → Leads (S xs (length zs)) (numbered_lines w (n + length xs) zs) last
fill S w n whole last end item xs [] is = ap (λ ys. S ys 0) (sym (append-nil xs) ∙ is) ∙ end
fill S w n whole last end item xs (x ∷ zs) is =
    let next : n + length (xs ++ x ∷ []) ≡ n + length xs + 1 = omega (arith, length-append xs (x ∷ [])) in
    leads_both (S xs (length (x ∷ zs))) (S (xs ++ x ∷ []) (length zs)) last (w (n + length xs) x) (numbered_lines w (n + length xs + 1) zs) (item xs zs x is)
    (subst (λ m. Leads (S (xs ++ x ∷ []) (length zs)) (numbered_lines w m zs) last) next
    (fill S w n whole last end item (xs ++ x ∷ []) zs (append_assoc xs (x ∷ []) zs ∙ is)))

at_seam : {T : Type 0} (P : T → Type 0) (xs zs : List T) (x : T) (whole : List T) → xs ++ x ∷ zs ≡ whole → All P whole → P x
at_seam P xs zs x whole is h =
    subst P (get_or-append_seam xs x zs x) (subst (All P) (sym is) h (length xs) x (omega (arith, length-append xs (x ∷ zs))))

short : {T : Type 0} (xs zs : List T) (x : T) (whole : List T) → xs ++ x ∷ zs ≡ whole → length xs < length whole
short xs zs x whole is = omega (arith, length-append xs (x ∷ zs), ap length is)

set_seam : {T : Type 0} (xs : List T) (i : ℕ) (x y : T) (rest : List T) → i ≡ length xs → set (xs ++ x ∷ rest) i y ≡ (xs ++ y ∷ []) ++ rest
set_seam [] zero x y rest e = refl
set_seam [] (suc i) x y rest e = absurd (omega (arith, e))
set_seam (z ∷ xs) zero x y rest e = absurd (omega (arith, e))
set_seam (z ∷ xs) (suc i) x y rest e = ap (λ ys. z ∷ ys) (set_seam xs i x y rest (omega (arith, e)))

get_seam : {T : Type 0} (xs : List T) (i : ℕ) (x d : T) (rest : List T) → i ≡ length xs → get_or (xs ++ x ∷ rest) i d ≡ x
get_seam xs i x d rest e = ap (λ k. get_or (xs ++ x ∷ rest) k d) e ∙ get_or-append_seam xs x rest d

one_price : (product price : ℕ) → 1 ≤ price → price_lines product price ≡ lines.Price product price ∷ []
one_price product price h =
    let some : eqb price 0 ≡ false = search (rules, common_steps) in ap (λ b. cond b [] (lines.Price product price ∷ [])) some

and_no : (b c : Bool) → c ≡ false → (b && c) ≡ false
and_no true c h = h
and_no false c h = refl

one_counter : (c value bound : ℕ) → 1 ≤ bound → counter_lines c (value, bound) ≡ lines.Counter c value bound ∷ []
one_counter c value bound h =
    let some : eqb bound 0 ≡ false = search (rules, common_steps) in
    ap (λ b. cond b [] (lines.Counter c value bound ∷ [])) (and_no (eqb value 0) (eqb bound 0) some)

-- What has been read of the opening `f` before its last line, if the slots, prices, counters and points read so far are
-- `rs`, `ps`, `cs` and `qs`.
abbrev stage : OpeningFile → List (Option Version) → List ℕ → List (ℕ × ℕ) → List PointState → OpeningFile
stage f rs ps cs qs = record {
  day = f.day;
  opening = record {
    points = qs;
    prices = ps;
    counters = cs;
    cleared = f.opening.cleared;
    clears = f.opening.clears;
    versions = f.opening.versions;
    rules = rs;
  };
  entries = 0;
  digest = replicate 32 0;
}

abbrev no_prices : OpeningFile → List ℕ
no_prices f = replicate (length f.opening.prices) 0

abbrev no_counters : OpeningFile → List (ℕ × ℕ)
no_counters f = replicate (length f.opening.counters) (0, 0)

-- ---- slots

-- if no version in a list of slots has the number n, then the version `v` in the list doesn't have it
new_past : (xs zs : List (Option Version)) (v : Version) (n : ℕ) → IsNewNumber (xs ++ Some v ∷ zs) n → (n == v.number) ≡ false
new_past [] zs v n h = h.0
new_past (None ∷ xs) zs v n h = new_past xs zs v n h
new_past (Some w ∷ xs) zs v n h = new_past xs zs v n h.1

none_new : (k n : ℕ) → IsNewNumber (replicate k None) n
none_new zero n = tt
none_new (suc k) n = none_new k n

-- if no two versions in a list of slots have the same number, then no version before `v` has the number of `v`
new_behind : (xs zs : List (Option Version)) (v : Version) (k : ℕ) → HaveOwnNumbers (xs ++ Some v ∷ zs) → IsNewNumber (xs ++ replicate k None) v.number
new_behind [] zs v k h = none_new k v.number
new_behind (None ∷ xs) zs v k h = new_behind xs zs v k h
new_behind (Some w ∷ xs) zs v k h =
    (flipped w.number v.number (new_past xs zs v w.number (own_head w (xs ++ Some v ∷ zs) h)), new_behind xs zs v k (own_tail w (xs ++ Some v ∷ zs) h))

abbrev with_rules : OpeningFile → List (Option Version) → ℕ → OpeningFile
with_rules f xs k = stage f (xs ++ replicate k None) (no_prices f) (no_counters f) []

rule_leads : (f : OpeningFile) → IsOpeningFile f → FileFits f → (xs zs : List (Option Version)) (x : Option Version) → xs ++ x ∷ zs ≡ f.opening.rules
    → Leads (with_rules f xs (length (x ∷ zs))) (version_lines (0 + length xs) x) (with_rules f (xs ++ x ∷ []) (length zs))
rule_leads f h k xs zs None is =
    ap (λ rs. stage f rs (no_prices f) (no_counters f) []) (sym (append_assoc xs (None ∷ []) (replicate (length zs) None)))
rule_leads f h k xs zs (Some v) is =
    let i : 0 + length xs ≡ length xs = omega arith in
    let few : length xs < 16 = omega (arith, short xs zs (Some v) f.opening.rules is, h.opening.slots) in
    let rule : IsRule f.opening.versions (Some v) = at_seam (IsRule f.opening.versions) xs zs (Some v) f.opening.rules is h.opening.rules in
    let fits : VersionFits (Some v) = at_seam VersionFits xs zs (Some v) f.opening.rules is k.rules in
    let new : IsNewNumber (xs ++ replicate (length (Some v ∷ zs)) None) v.number =
    new_behind xs zs v (length (Some v ∷ zs)) (subst HaveOwnNumbers (sym is) h.opening.distinct) in (
      (
        omega (arith, few),
        get_seam xs (0 + length xs) None None (replicate (length zs) None) i,
        new,
        rule,
      ),
      (omega (arith, few), omega (arith, rule.1, h.opening.versions), fits.0, fits.1),
      ap (λ rs. stage f rs (no_prices f) (no_counters f) []) (set_seam xs (0 + length xs) None (Some v) (replicate (length zs) None) i),
    )

-- ---- products and counters

abbrev with_prices : OpeningFile → List ℕ → ℕ → OpeningFile
with_prices f xs k = stage f f.opening.rules (xs ++ replicate k 0) (no_counters f) []

price_leads : (f : OpeningFile) → IsOpeningFile f → (xs zs : List ℕ) (x : ℕ) → xs ++ x ∷ zs ≡ f.opening.prices
    → Leads (with_prices f xs (length (x ∷ zs))) (price_lines (1 + length xs) x) (with_prices f (xs ++ x ∷ []) (length zs))
price_leads f h xs zs zero is =
    ap (λ ps. stage f f.opening.rules ps (no_counters f) []) (sym (append_assoc xs (0 ∷ []) (replicate (length zs) 0)))
price_leads f h xs zs (suc x) is =
    let i : 1 + length xs - 1 ≡ length xs = omega arith in
    let start : OpeningFile = with_prices f xs (length (suc x ∷ zs)) in
    let end : OpeningFile = with_prices f (xs ++ suc x ∷ []) (length zs) in
    let few : 1 + length xs ≤ 8 = omega (arith, short xs zs (suc x) f.opening.prices is, h.products) in
    let small : suc x ≤ 9999999 = at_seam (λ price. price ≤ 9999999) xs zs (suc x) f.opening.prices is h.opening.prices in
    subst (λ ls. Leads start ls end) (sym (one_price (1 + length xs) (suc x) (omega arith))) (
      (
        omega arith,
        few,
        get_seam xs (1 + length xs - 1) 0 0 (replicate (length zs) 0) i,
        small,
      ),
      (omega (arith, few), omega (arith, small)),
      ap (λ ps. stage f f.opening.rules ps (no_counters f) []) (set_seam xs (1 + length xs - 1) 0 (suc x) (replicate (length zs) 0) i),
    )

abbrev with_counters : OpeningFile → List (ℕ × ℕ) → ℕ → OpeningFile
with_counters f xs k = stage f f.opening.rules f.opening.prices (xs ++ replicate k (0, 0)) []

counter_leads : (f : OpeningFile) → IsOpeningFile f → (xs zs : List (ℕ × ℕ)) (x : ℕ × ℕ) → xs ++ x ∷ zs ≡ f.opening.counters
    → Leads (with_counters f xs (length (x ∷ zs))) (counter_lines (0 + length xs) x) (with_counters f (xs ++ x ∷ []) (length zs))
counter_leads f h xs zs (zero, zero) is =
    ap (λ cs. stage f f.opening.rules f.opening.prices cs []) (sym (append_assoc xs ((0, 0) ∷ []) (replicate (length zs) (0, 0))))
counter_leads f h xs zs (suc v, zero) is =
    absurd (omega (arith, at_seam (λ (c : ℕ × ℕ). c.0 ≤ c.1) xs zs (suc v, zero) f.opening.counters is h.opening.counters.bounded))
counter_leads f h xs zs (v, suc b) is =
    let i : 0 + length xs ≡ length xs = omega arith in
    let start : OpeningFile = with_counters f xs (length ((v, suc b) ∷ zs)) in
    let end : OpeningFile = with_counters f (xs ++ (v, suc b) ∷ []) (length zs) in
    let few : length xs < 32 = omega (arith, short xs zs (v, suc b) f.opening.counters is, h.opening.counters.many) in
    let bounded : v ≤ suc b = at_seam (λ (c : ℕ × ℕ). c.0 ≤ c.1) xs zs (v, suc b) f.opening.counters is h.opening.counters.bounded in
    let small : suc b < 2 ^ 64 = at_seam (λ (c : ℕ × ℕ). c.1 < 2 ^ 64) xs zs (v, suc b) f.opening.counters is h.opening.counters.small in
    subst (λ ls. Leads start ls end) (sym (one_counter (0 + length xs) v (suc b) (omega arith))) (
      (omega (arith, few), ap (λ (c : ℕ × ℕ). c.1) (get_seam xs (0 + length xs) (0, 0) (0, 0) (replicate (length zs) (0, 0)) i), bounded, small),
      (omega (arith, few), omega (arith, bounded, small), small),
      ap (λ cs. stage f f.opening.rules f.opening.prices cs []) (set_seam xs (0 + length xs) (0, 0) (v, suc b) (replicate (length zs) (0, 0)) i),
    )

-- ---- points

abbrev owes : PointState → List Transaction → PointState
owes p us = record p { unpaid = us }

owes_none : (p : PointState) (us : List Transaction) → IsPointState (owes p us) → IsPointState (owes p [])
owes_none p us h = record {
  nozzle = h.nozzle;
  amount = h.amount;
  volume = h.volume;
  most = lit≤ tt;
  room = λ _. lit≤ tt;
  unpaid = λ k d lt. absurd (omega (arith, lt));
  rise = tt;
}

owes_one : (p : PointState) (t : Transaction) (us : List Transaction) → IsPointState (owes p (t ∷ us)) → IsPointState (owes p (t ∷ []))
owes_one p t us h = record {
  nozzle = h.nozzle;
  amount = h.amount;
  volume = h.volume;
  most = lit≤ tt;
  room = λ _. lit≤ tt;
  unpaid = All-replicate (IsUnpaid p.last) 1 t (h.unpaid 0 t (omega arith));
  rise = tt;
}

abbrev with_points : OpeningFile → List PointState → ℕ → OpeningFile
with_points f xs k = stage f f.opening.rules f.opening.prices f.opening.counters xs

own_leads : (f : OpeningFile) (n : ℕ) (xs : List PointState) (p : PointState) → n < 2 ^ 64 → p.last ≤ 4290000000 → PointFits p → IsPointState (owes p [])
    → Leads (with_points f xs 0) (lines.Point n (own_values p) ∷ []) (with_points f (xs ++ owes p [] ∷ []) 0)
own_leads f n xs p few last fits good = (
  (last, record { places = tt; state = good }),
  (
    few,
    record {
      nozzle = omega (arith, good.nozzle);
      preset = fits.preset;
      limit = fits.limit;
      amount = omega (arith, good.amount);
      volume = omega (arith, good.volume);
      order = fits.order;
      last = omega (arith, last);
      none = refl;
    },
  ),
  refl,
)

unpaid_leads : (f : OpeningFile) (xs : List PointState) (p : PointState) (us : List Transaction) (t : Transaction) → 1 + length xs < 2 ^ 64
    → p.last ≤ 4290000000 → UnpaidFits t → IsPointState (owes p (us ++ t ∷ []))
    → Leads (with_points f (xs ++ owes p us ∷ []) 0) (lines.Unpaid (1 + length xs) t ∷ []) (with_points f (xs ++ owes p (us ++ t ∷ []) ∷ []) 0)
unpaid_leads f xs p us t few last held good =
    let i : 1 + length xs - 1 ≡ length xs = omega arith in
    let found : point_at (xs ++ owes p us ∷ []) (1 + length xs) ≡ owes p us = get_seam xs (1 + length xs - 1) (owes p us) fresh_point [] i in
    let own : IsUnpaid p.last t = at_seam (IsUnpaid p.last) us [] t (us ++ t ∷ []) refl good.unpaid in (
      (
        omega arith,
        omega (arith, length-append xs (owes p us ∷ [])),
        subst (λ q. IsPointState (with_unpaid q t)) (sym found) good,
      ),
      (few, omega (arith, last, own.number), omega (arith, own.amount), omega (arith, own.volume), held.0, omega (arith, own.product), held.1),
      ap (λ q. with_points f (set (xs ++ owes p us ∷ []) (1 + length xs - 1) (with_unpaid q t)) 0) found
          ∙ ap (λ qs. with_points f qs 0)
          (set_seam xs (1 + length xs - 1) (owes p us) (owes p (us ++ t ∷ [])) [] i ∙ append-nil (xs ++ owes p (us ++ t ∷ []) ∷ [])),
    )

owing_leads : (f : OpeningFile) (xs : List PointState) (p : PointState) (us : List Transaction) → 1 + length xs < 2 ^ 64 → p.last ≤ 4290000000
    → PointFits p → All UnpaidFits us → IsPointState (owes p us)
    → Leads (with_points f xs 0) (point_lines (1 + length xs) (owes p us)) (with_points f (xs ++ owes p us ∷ []) 0)
owing_leads f xs p [] few last fits held good = own_leads f (1 + length xs) xs p few last fits good
owing_leads f xs p (t ∷ []) few last fits held good =
    leads_both (with_points f xs 0) (with_points f (xs ++ owes p [] ∷ []) 0) (with_points f (xs ++ owes p (t ∷ []) ∷ []) 0)
    (lines.Point (1 + length xs) (own_values p) ∷ []) (lines.Unpaid (1 + length xs) t ∷ [])
    (own_leads f (1 + length xs) xs p few last fits (owes_none p (t ∷ []) good)) (unpaid_leads f xs p [] t few last (held 0 t (omega arith)) good)
owing_leads f xs p (t ∷ u ∷ []) few last fits held good =
    let one : Leads (with_points f xs 0) (point_lines (1 + length xs) (owes p (t ∷ []))) (with_points f (xs ++ owes p (t ∷ []) ∷ []) 0) =
    owing_leads f xs p (t ∷ []) few last fits (All-replicate UnpaidFits 1 t (held 0 t (omega arith))) (owes_one p t (u ∷ []) good) in
    leads_both (with_points f xs 0) (with_points f (xs ++ owes p (t ∷ []) ∷ []) 0) (with_points f (xs ++ owes p (t ∷ u ∷ []) ∷ []) 0)
    (lines.Point (1 + length xs) (own_values p) ∷ lines.Unpaid (1 + length xs) t ∷ []) (lines.Unpaid (1 + length xs) u ∷ [])
    one (unpaid_leads f xs p (t ∷ []) u few last (held 1 u (omega arith)) good)
owing_leads f xs p (t ∷ u ∷ w ∷ us) few last fits held good = absurd (omega (arith, good.most))

point_leads : (f : OpeningFile) → IsOpeningFile f → FileFits f → (xs zs : List PointState) (p : PointState) → xs ++ p ∷ zs ≡ f.opening.points
    → Leads (with_points f xs (length (p ∷ zs))) (point_lines (1 + length xs) p) (with_points f (xs ++ p ∷ []) (length zs))
point_leads f h k xs zs p is =
    let few : 1 + length xs < 2 ^ 64 = omega (arith, short xs zs p f.opening.points is, k.few) in
    let fits : PointFits p = at_seam PointFits xs zs p f.opening.points is k.points in
    owing_leads f xs p p.unpaid few (at_seam (λ (q : PointState). q.last ≤ 4290000000) xs zs p f.opening.points is h.opening.last) fits fits.unpaid
    (at_seam IsPointState xs zs p f.opening.points is h.points)

-- ---- the lines of an opening lead from nothing to that opening

opening_leads : (f : OpeningFile) → IsOpeningFile f → FileFits f → Leads blank_file (opening_lines f) f
opening_leads f h k =
    let R : List Line = numbered_lines version_lines 0 f.opening.rules in
    let P : List Line = numbered_lines price_lines 1 f.opening.prices in
    let C : List Line = numbered_lines counter_lines 0 f.opening.counters in
    let Q : List Line = numbered_lines point_lines 1 f.opening.points in
    let J : List Line = lines.Journal f.entries f.digest ∷ [] in
    let first : OpeningFile = with_rules f [] (length f.opening.rules) in
    let ruled : OpeningFile = with_prices f [] (length f.opening.prices) in
    let priced : OpeningFile = with_counters f [] (length f.opening.counters) in
    let counted : OpeningFile = with_points f [] (length f.opening.points) in
    let ended : OpeningFile = with_points f f.opening.points 0 in
    let blanks : stage f (replicate 16 None) (replicate 8 0) (replicate 32 (0, 0)) [] ≡ first =
    ap (λ n. stage f (replicate n None) (replicate 8 0) (replicate 32 (0, 0)) []) (sym h.opening.slots)
    ∙ ap (λ n. stage f (replicate (length f.opening.rules) None) (replicate n 0) (replicate 32 (0, 0)) []) (sym h.products)
    ∙ ap (λ n. stage f (replicate (length f.opening.rules) None) (no_prices f) (replicate n (0, 0)) []) (sym h.opening.counters.many) in
    leads_both blank_file first f (head_lines f) (R ++ (P ++ (C ++ (Q ++ J)))) (
      (refl, h.day),
      k.day,
      (
        (refl, refl, h.opening.cleared, h.opening.clears),
        (omega (arith, h.opening.cleared), omega (arith, h.opening.clears)),
        ((refl, h.opening.versions), omega (arith, h.opening.versions), blanks),
      ),
    )
    (leads_both first ruled f R (P ++ (C ++ (Q ++ J)))
    (fill (with_rules f) version_lines 0 f.opening.rules ruled
    (ap (λ rs. stage f rs (no_prices f) (no_counters f) []) (append-nil f.opening.rules)) (rule_leads f h k) [] f.opening.rules refl)
    (leads_both ruled priced f P (C ++ (Q ++ J))
    (fill (with_prices f) price_lines 1 f.opening.prices priced
    (ap (λ ps. stage f f.opening.rules ps (no_counters f) []) (append-nil f.opening.prices)) (price_leads f h) [] f.opening.prices refl)
    (leads_both priced counted f C (Q ++ J)
    (fill (with_counters f) counter_lines 0 f.opening.counters counted
    (ap (λ cs. stage f f.opening.rules f.opening.prices cs []) (append-nil f.opening.counters)) (counter_leads f h) [] f.opening.counters refl)
    (leads_both counted ended f Q J (fill (with_points f) point_lines 1 f.opening.points ended refl (point_leads f h k) [] f.opening.points refl) (refl, (k.entries, k.digest, k.digest_length), refl)))))

-- ---- the text of an opening is read as that opening, and as no other

leads_fit : (f g : OpeningFile) (ls : List Line) → Leads f ls g → AllByRecursion LineFits ls
leads_fit f g [] h = tt
leads_fit f g (l ∷ ls) h = (h.1, leads_fit (after_line f l) g ls h.2)

taken_so : (f : OpeningFile) (l : Line) (taken : Bool) (g : OpeningFile) → Takes f l taken g → CanTake f l → g ≡ after_line f l
taken_so f l true g h c = h.1
taken_so f l false g h c = absurd (h.0 c)

leads_reads : (f g : OpeningFile) (ls : List Line) → Leads f ls g → Reads f (map line_spelling ls ++ [] ∷ []) g
leads_reads f g [] h = (f, refl, h)
leads_reads f g (l ∷ ls) h =
    (after_line f l, subst (λ r. TakesRead f r (after_line f l)) (sym (reads_back l h.1)) (true, (h.0, refl)), leads_reads (after_line f l) g ls h.2)

reads_once : (f g k : OpeningFile) (ls : List Line) → Leads f ls g → Reads f (map line_spelling ls ++ [] ∷ []) k → k ≡ g
reads_once f g k [] h r = sym r.2 ∙ r.1 ∙ h
reads_once f g k (l ∷ ls) h r =
    let takes : TakesRead f (Ok l) r.0 = subst (λ x. TakesRead f x r.0) (reads_back l h.1) r.1 in
    let next : r.0 ≡ after_line f l = taken_so f l takes.0 r.0 takes.1 h.0 in
    reads_once (after_line f l) g k ls h.2 (subst (λ x. Reads x (map line_spelling ls ++ [] ∷ []) k) next r.2)

own_pieces : (f : OpeningFile) → IsOpeningFile f → FileFits f → pieces (opening_text f) ≡ map line_spelling (opening_lines f) ++ [] ∷ []
own_pieces f good fits = split_text (opening_lines f) (leads_fit blank_file f (opening_lines f) (opening_leads f good fits))

-- what is read of a text is the opening that has this text, if there is one
pub read_file : (text : List ℕ) (read f : OpeningFile) → Reads blank_file (pieces text) read → IsOpeningFile f → FileFits f → opening_text f ≡ text → f ≡ read
read_file text read f reads good fits is =
    sym (reads_once blank_file f read (opening_lines f) (opening_leads f good fits)
    (subst (λ ps. Reads blank_file ps read) (ap pieces (sym is) ∙ own_pieces f good fits) reads))

-- if two openings have the same text, then they are the same
pub one_opening : (f g : OpeningFile) → IsOpeningFile f → FileFits f → IsOpeningFile g → FileFits g → opening_text f ≡ opening_text g → f ≡ g
one_opening f g good fits good' fits' is =
    let own : Reads blank_file (pieces (opening_text f)) f =
    subst (λ ps. Reads blank_file ps f) (sym (own_pieces f good fits)) (leads_reads blank_file f (opening_lines f) (opening_leads f good fits)) in
    sym (read_file (opening_text f) f g own good' fits' (sym is))

-- if the text of what was read of a text is another one, then no opening has this text
pub other_none : (text : List ℕ) (read : OpeningFile) → Reads blank_file (pieces text) read → (text ≡ opening_text read → ⊥) → HasNoOpening text
other_none text read reads other f good fits is =
    other (sym is ∙ ap opening_text (read_file text read f reads good fits is))

-- ---- what is read of a text is an opening

-- what has been read is an opening after a line, if it was one before
after_good : (f : OpeningFile) (l : Line) → IsOpeningFile f → CanTake f l → IsOpeningFile (after_line f l)
after_good f (lines.Day n) h c = grind (arith, h, c)
after_good f (lines.Cleared total count) h c = grind (arith, h, c)
after_good f (lines.Versions n) h c = grind (arith, h, c)
after_good f (lines.Version slot number mask layout bytes) h c =
    let own : HaveOwnNumbers (set f.opening.rules slot (Some (record { number = number; program = as_loaded bytes mask layout }))) =
    own_set f.opening.rules slot (record { number = number; program = as_loaded bytes mask layout }) h.opening.distinct c.2 in
    search (rules, common_steps, h, c, own)
after_good f (lines.Price product price) h c = search (rules, common_steps, h, c)
after_good f (lines.Counter n value bound) h c = search (rules, common_steps, h, c)
after_good f (lines.Point n s) h c = search (rules, common_steps, h, c)
after_good f (lines.Unpaid n t) h c = search (rules, common_steps, h, c)
after_good f (lines.Journal entries digest) h c = grind (arith, h, c)

read_good : (r : Result Line LineFault) (f g : OpeningFile) → IsOpeningFile f → TakesRead f r g → IsOpeningFile g
read_good (Err fault) f g h r = subst IsOpeningFile (sym r) h
read_good (Ok l) f g h r = by_taken r.0 r.1
  where
    by_taken : (taken : Bool) → Takes f l taken g → IsOpeningFile g
    by_taken true t = subst IsOpeningFile (sym t.1) (after_good f l h t.0)
    by_taken false t = subst IsOpeningFile (sym t.1) h

pieces_good : (ps : List (List ℕ)) (f g : OpeningFile) → IsOpeningFile f → Reads f ps g → IsOpeningFile g
pieces_good [] f g h r = subst IsOpeningFile r h
pieces_good (p ∷ ps) f g h r = pieces_good ps r.0 g (read_good (line_read p) f r.0 h r.1) r.2

blank_good : IsOpeningFile blank_file
blank_good = record {
  day = lit≤ tt;
  opening = record {
    points = refl;
    prices = All-replicate (λ price. price ≤ 9999999) 8 0 (lit≤ tt);
    counters = record {
      many = refl;
      bounded = All-replicate (λ (c : ℕ × ℕ). c.0 ≤ c.1) 32 (0, 0) (lit≤ tt);
      small = All-replicate (λ (c : ℕ × ℕ). c.1 < 2 ^ 64) 32 (0, 0) (lit≤ tt);
    };
    last = λ k d lt. absurd (omega arith);
    cleared = lit≤ tt;
    clears = lit≤ tt;
    versions = lit≤ tt;
    slots = refl;
    rules = All-replicate (IsRule 0) 16 None tt;
    distinct = own_none;
  };
  points = λ k d lt. absurd (omega arith);
  products = refl;
}

pub all_good : (ps : List (List ℕ)) (read : OpeningFile) → Reads blank_file ps read → IsOpeningFile read
all_good ps read r = pieces_good ps blank_file read blank_good r
