-- What versions decided, with one decision more.
use Rattle.std.proofs.Common.{◌≡◌, ◌<◌, ◌≤◌, ◌^◌, ℕ, ◌+◌, ◌-◌, Bool, true, false, zero, suc, List, [], ◌∷◌, ◌++◌, length, append_assoc, refl, sym, ap, ◌∙◌, subst, arith}
use Rattle.std.specs.Prelude.{Err, IfOk, Ok, Result, ◌==◌, ◌&&◌, not, map, max, min, nat_le, nat_lt, if◌then◌else◌, fold, replicate, slice_index_or, slice_set}
use Rattle.std.proofs.Math.Nat.{min-eq_left}
use Rattle.std.proofs.lemmas.Bool.Decides.{nat_tests}
use Rattle.std.proofs.lemmas.List.{append-nil, get_or-map, get_or-replicate, get_or-set_other, get_or-set_same, length-append, length-map, length-replicate, length-set}
use Rattle.std.proofs.lemmas.List.Sums.{count_by-le-length, sum_by-append}
use Rattle.day_report.specs.Totals.{AllDecided, HasDecided, denied_by, granted_by, no_outcome, no_verdicts, of_till, on_preset, on_price, on_release, outcome_of, plus_outcome}
use Rattle.day_report.specs.Totals.{places_for, table_with, tills_with, verdicts_with}
use Rattle.day_report.specs.declared.counting.Outcome.{Outcome}
use Rattle.day_report.specs.declared.counting.Verdicts.{Verdicts}
use Rattle.day_report.specs.declared.rulings.Decision.{Decision}

-- ---- One outcome.

counts_none : (wanted granted same : Bool) → (wanted && same) ≡ false → ◌≡◌ {A = ℕ} (if (wanted && granted) && same then 1 else 0) 0
counts_none false granted same other = refl
counts_none true false same other = refl
counts_none true true same other = ap (λ b. if b then 1 else 0) other

counts_one : (wanted granted same : Bool) → wanted ≡ true → same ≡ true
    → ◌≡◌ {A = ℕ} (if (wanted && granted) && same then 1 else 0) (if granted then 1 else 0)
counts_one false granted same is is' = absurd (cc)
counts_one true granted false is is' = absurd (cc)
counts_one true true true is is' = refl
counts_one true false true is is' = refl

module _ (version : ℕ) (ds : List Decision) (d : Decision) (short : length ds + 1 < 2 ^ 64) where
  granted_more : (w : Decision → Bool) → granted_by w version (ds ++ d ∷ [])
      ≡ granted_by w version ds + (if (w d && d.is_granted) && d.version == version then 1 else 0)
  granted_more w = sum_by-append _ ds (d ∷ []) ∙ omega arith

  denied_more : (w : Decision → Bool) → denied_by w version (ds ++ d ∷ [])
      ≡ denied_by w version ds + (if (w d && not d.is_granted) && d.version == version then 1 else 0)
  denied_more w = sum_by-append _ ds (d ∷ []) ∙ omega arith

  -- Another decision leaves the outcome as it is.
  stays : (w : Decision → Bool) → (w d && d.version == version) ≡ false → outcome_of w version ds ≡ outcome_of w version (ds ++ d ∷ [])
  stays w other =
      let granted : granted_by w version (ds ++ d ∷ []) ≡ granted_by w version ds =
      omega (arith, granted_more w, counts_none (w d) d.is_granted (d.version == version) other) in
      let denied : denied_by w version (ds ++ d ∷ []) ≡ denied_by w version ds =
      omega (arith, denied_more w, counts_none (w d) (not d.is_granted) (d.version == version) other) in
      λ i. record { granted = sym granted i; denied = sym denied i }

  -- A decision of this version that is wanted goes to its outcome.
  goes : (w : Decision → Bool) (o : Outcome) → o ≡ outcome_of w version ds → w d ≡ true → (d.version == version) ≡ true
      → plus_outcome o d.is_granted ≡ outcome_of w version (ds ++ d ∷ [])
  goes w o is wanted same = by d.is_granted refl
    where
      more : granted_by w version (ds ++ d ∷ []) ≡ o.granted + (if d.is_granted then 1 else 0)
      more = omega (arith, granted_more w, counts_one (w d) d.is_granted (d.version == version) wanted same, ap (λ (x : Outcome). x.granted) is)

      less : denied_by w version (ds ++ d ∷ []) ≡ o.denied + (if not d.is_granted then 1 else 0)
      less = omega (arith, denied_more w, counts_one (w d) (not d.is_granted) (d.version == version) wanted same, ap (λ (x : Outcome). x.denied) is)

      few : o.granted ≤ length ds
      few = omega (arith, ap (λ (x : Outcome). x.granted) is, count_by-le-length (λ (x : Decision). (w x && x.is_granted) && x.version == version) ds)

      fewer : o.denied ≤ length ds
      fewer = omega (arith, ap (λ (x : Outcome). x.denied) is, count_by-le-length (λ (x : Decision). (w x && not x.is_granted) && x.version == version) ds)

      by : (granted : Bool) → d.is_granted ≡ granted → plus_outcome o granted ≡ outcome_of w version (ds ++ d ∷ [])
      by true g =
          let one : ◌≡◌ {A = ℕ} (if d.is_granted then 1 else 0) 1 = ap (λ b. if b then 1 else 0) g in
          let none : ◌≡◌ {A = ℕ} (if not d.is_granted then 1 else 0) 0 = ap (λ b. if not b then 1 else 0) g in
          let a : min (o.granted + 1) (2 ^ 64 - 1) ≡ granted_by w version (ds ++ d ∷ []) = min-eq_left (omega (arith, few, short)) ∙ omega (arith, more, one) in
          let b : o.denied ≡ denied_by w version (ds ++ d ∷ []) = omega (arith, less, none) in
          λ i. record { granted = a i; denied = b i }
      by false g =
          let none : ◌≡◌ {A = ℕ} (if d.is_granted then 1 else 0) 0 = ap (λ b. if b then 1 else 0) g in
          let one : ◌≡◌ {A = ℕ} (if not d.is_granted then 1 else 0) 1 = ap (λ b. if not b then 1 else 0) g in
          let a : o.granted ≡ granted_by w version (ds ++ d ∷ []) = omega (arith, more, none) in
          let b : min (o.denied + 1) (2 ^ 64 - 1) ≡ denied_by w version (ds ++ d ∷ []) = min-eq_left (omega (arith, fewer, short)) ∙ omega (arith, less, one) in
          λ i. record { granted = a i; denied = b i }

  -- The outcome of a kind of request, or of a till, with a decision of this version.
  kind_more : (w : Decision → Bool) (o : Outcome) → o ≡ outcome_of w version ds → (d.version == version) ≡ true → (b : Bool) → w d ≡ b
      → (if b then plus_outcome o d.is_granted else o) ≡ outcome_of w version (ds ++ d ∷ [])
  kind_more w o is same true wanted = goes w o is wanted same
  kind_more w o is same false other = is ∙ stays w (ap (λ b. b && d.version == version) other)

  -- ---- The outcomes by till: the decision goes to that of its till.

  module _ (outcomes : List Outcome) (same : (d.version == version) ≡ true)
      (each : (k : ℕ) (e : Outcome) → k < length outcomes → slice_index_or outcomes k e ≡ outcome_of (of_till (k + 1)) version ds) where
    abbrev new : ℕ → Outcome
    new m = plus_outcome (slice_index_or outcomes m no_outcome) d.is_granted

    other_till : (k : ℕ) (e : Outcome) → k < length outcomes → (d.till == k + 1) ≡ false
        → slice_index_or outcomes k e ≡ outcome_of (of_till (k + 1)) version (ds ++ d ∷ [])
    other_till k e below other = kind_more (of_till (k + 1)) (slice_index_or outcomes k e) (each k e below) same false other

    one_till : (k : ℕ) (e : Outcome) → k < length outcomes → 1 ≤ d.till → (b : Bool) → (d.till == k + 1) ≡ b
        → slice_index_or (slice_set outcomes (d.till - 1) (new (d.till - 1))) k e ≡ outcome_of (of_till (k + 1)) version (ds ++ d ∷ [])
    one_till k e below low true is =
        let at : d.till - 1 ≡ k = grind (arith, nat_tests, is) in
        (λ i. slice_index_or (slice_set outcomes (at i) (new (at i))) k e)
        ∙ get_or-set_same outcomes k (new k) e below
        ∙ kind_more (of_till (k + 1)) (slice_index_or outcomes k no_outcome) (each k no_outcome below) same true is
    one_till k e below low false is =
        let other : (k ≡ d.till - 1) → ⊥ = λ h. grind (arith, nat_tests, is, h, low) in
        get_or-set_other outcomes (d.till - 1) k (new (d.till - 1)) e other ∙ other_till k e below is

    by_place : (b : Bool) → (nat_le 1 d.till && nat_le d.till (length outcomes)) ≡ b → (k : ℕ) (e : Outcome) → k < length outcomes
        → slice_index_or (if b then slice_set outcomes (d.till - 1) (new (d.till - 1)) else outcomes) k e
        ≡ outcome_of (of_till (k + 1)) version (ds ++ d ∷ [])
    by_place false none k e below = other_till k e below (grind (arith, nat_tests, none, below))
    by_place true some k e below = one_till k e below (grind (arith, nat_tests, some)) (d.till == k + 1) refl

    length_by : (b : Bool) → length (if b then slice_set outcomes (d.till - 1) (new (d.till - 1)) else outcomes) ≡ length outcomes
    length_by true = length-set outcomes (d.till - 1) _
    length_by false = refl

    long : length (tills_with outcomes d.till d.is_granted) ≡ length outcomes
    long = length_by (nat_le 1 d.till && nat_le d.till (length outcomes))

    tills_more : (k : ℕ) (e : Outcome) → k < length (tills_with outcomes d.till d.is_granted)
        → slice_index_or (tills_with outcomes d.till d.is_granted) k e ≡ outcome_of (of_till (k + 1)) version (ds ++ d ∷ [])
    tills_more k e below = by_place (nat_le 1 d.till && nat_le d.till (length outcomes)) refl k e (omega (arith, below, long))

  -- ---- A version's verdicts.

  decided_more : (found : Verdicts) → (d.version == version) ≡ true → HasDecided version ds found → HasDecided version (ds ++ d ∷ []) (verdicts_with found d)
  decided_more found same h = record {
    releases = kind_more on_release found.releases h.releases same (on_release d) refl;
    presets = kind_more on_preset found.presets h.presets same (on_preset d) refl;
    prices = kind_more on_price found.prices h.prices same (on_price d) refl;
    long = long found.tills same h.tills ∙ h.long;
    tills = tills_more found.tills same h.tills;
  }

  stays_other : (w : Decision → Bool) → (d.version == version) ≡ false → outcome_of w version ds ≡ outcome_of w version (ds ++ d ∷ [])
  stays_other w other = stays w (ap (λ b. w d && b) other ∙ none (w d))
    where
      none : (b : Bool) → (b && false) ≡ false
      none true = refl
      none false = refl

  decided_other : (found : Verdicts) → (d.version == version) ≡ false → HasDecided version ds found → HasDecided version (ds ++ d ∷ []) found
  decided_other found other h = record {
    releases = h.releases ∙ stays_other on_release other;
    presets = h.presets ∙ stays_other on_preset other;
    prices = h.prices ∙ stays_other on_price other;
    long = h.long;
    tills = λ k e below. h.tills k e below ∙ stays_other (of_till (k + 1)) other;
  }

-- ---- The table of all versions.

-- The table has at place v what version v decided.
abbrev IsTable : List Decision → List Verdicts → Type 0
IsTable ds table = (v : ℕ) (x : Verdicts) → v < length table → HasDecided v ds (slice_index_or table v x)

module _ (ds : List Decision) (d : Decision) (short : length ds + 1 < 2 ^ 64) (table : List Verdicts) (is : IsTable ds table) where
  abbrev with_d : ℕ → Verdicts
  with_d v = verdicts_with (slice_index_or table v no_verdicts) d

  one_version : (v : ℕ) (x : Verdicts) → v < length table → (b : Bool) → (d.version == v) ≡ b
      → HasDecided v (ds ++ d ∷ []) (slice_index_or (slice_set table d.version (with_d d.version)) v x)
  one_version v x below true same =
      let at : d.version ≡ v = grind (arith, nat_tests, same) in
      let get = (λ i. slice_index_or (slice_set table (at i) (with_d (at i))) v x) ∙ get_or-set_same table v (with_d v) x below in
      subst (HasDecided v (ds ++ d ∷ [])) (sym get) (decided_more v ds d short (slice_index_or table v no_verdicts) same (is v no_verdicts below))
  one_version v x below false same =
      let other : (v ≡ d.version) → ⊥ = λ h. grind (arith, nat_tests, same, h) in
      subst (HasDecided v (ds ++ d ∷ [])) (sym (get_or-set_other table d.version v (with_d d.version) x other))
      (decided_other v ds d short (slice_index_or table v x) same (is v x below))

  by_length : (b : Bool) → nat_lt d.version (length table) ≡ b → IsTable (ds ++ d ∷ []) (if b then slice_set table d.version (with_d d.version) else table)
  by_length false none v x below =
      decided_other v ds d short (slice_index_or table v x) (grind (arith, nat_tests, none, below)) (is v x below)
  by_length true some v x below = one_version v x (omega (arith, below, length-set table d.version (with_d d.version))) (d.version == v) refl

  table_more : IsTable (ds ++ d ∷ []) (table_with table d)
  table_more = by_length (nat_lt d.version (length table)) refl

table_all : (ds done : List Decision) (table : List Verdicts) → length done + length ds < 2 ^ 64 → IsTable done table → IsTable (done ++ ds) (fold table_with table ds)
table_all [] done table short is = subst (λ all. IsTable all table) (sym (append-nil done)) is
table_all (d ∷ ds) done table short is =
    subst (λ all. IsTable all (fold table_with table (d ∷ ds))) (append_assoc done (d ∷ []) ds)
    (table_all ds (done ++ d ∷ []) (table_with table d) (omega (arith, short, length-append done (d ∷ [])))
    (table_more done d (omega (arith, short)) table is))

table_none : (places : ℕ) → IsTable [] (replicate places no_verdicts)
table_none places v x below =
    let get : slice_index_or (replicate places no_verdicts) v x ≡ no_verdicts = get_or-replicate places v no_verdicts x (omega (arith, below, length-replicate places no_verdicts)) in
    subst (HasDecided v []) (sym get) (record {
      releases = refl;
      presets = refl;
      prices = refl;
      long = refl;
      tills = λ k e low. get_or-replicate 64 k no_outcome e low;
    })

-- ---- What each version decided.

grows : (versions : List ℕ) (places : ℕ) → places ≤ fold (λ (p v : ℕ). max p (v + 1)) places versions
grows [] places = omega arith
grows (v ∷ versions) places = omega (arith, grows versions (max places (v + 1)))

has_place : (versions : List ℕ) (places k d : ℕ) → k < length versions → slice_index_or versions k d < fold (λ (p v : ℕ). max p (v + 1)) places versions
has_place [] places k d low = absurd (omega (arith, low))
has_place (v ∷ versions) places zero d low = omega (arith, grows versions (max places (v + 1)))
has_place (v ∷ versions) places (suc k) d low = has_place versions (max places (v + 1)) k d (omega (arith, low))

length_with : (table : List Verdicts) (d : Decision) → length (table_with table d) ≡ length table
length_with table d = by (nat_lt d.version (length table))
  where
    by : (b : Bool) → length (if b then slice_set table d.version (verdicts_with (slice_index_or table d.version no_verdicts) d) else table) ≡ length table
    by true = length-set table d.version _
    by false = refl

length_all : (ds : List Decision) (table : List Verdicts) → length (fold table_with table ds) ≡ length table
length_all [] table = refl
length_all (d ∷ ds) table = length_all ds (table_with table d) ∙ length_with table d

-- The table that was made of all decisions has what each version decided.
pub all_decided : (versions : List ℕ) (ds : List Decision) (table : List Verdicts) → length ds < 2 ^ 64
    → table ≡ fold table_with (replicate (places_for versions) no_verdicts) ds
    → AllDecided versions ds (map (λ v. slice_index_or table v no_verdicts) versions)
all_decided versions ds table short made = record {
  long = length-map versions (λ v. slice_index_or table v no_verdicts);
  each = λ k n d below.
      let low : k < length versions = omega (arith, below, length-map versions (λ v. slice_index_or table v no_verdicts)) in
      let version : ℕ = slice_index_or versions k n in
      let start : List Verdicts = replicate (places_for versions) no_verdicts in
      let place : version < length (fold table_with start ds) =
      omega (arith, has_place versions 0 k n low, length_all ds start, length-replicate (places_for versions) no_verdicts) in
      let is : HasDecided version ds (slice_index_or (fold table_with start ds) version no_verdicts) =
      table_all ds [] start (omega (arith, short)) (table_none (places_for versions)) version no_verdicts place in
      subst (HasDecided version ds) (sym (get_or-map (λ v. slice_index_or table v no_verdicts) versions k n d low))
      (subst (λ t. HasDecided version ds (slice_index_or t version no_verdicts)) (sym made) is);
}

pub if_ok_more : {T E : Type 0} (P Q : T → Type 0) (r : Result T E) → ((x : T) → P x → Q x) → IfOk r P → IfOk r Q
if_ok_more P Q (Ok x) more h = more x h
if_ok_more P Q (Err e) more h = tt
