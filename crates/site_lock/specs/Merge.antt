-- Definitions: a history as the merge of the passes' receipts.
use Rattle.std.specs.Prelude.{◌≡◌, ℕ, ◌+◌, ◌-◌, ◌==◌, ◌<◌, ◌≤◌, ◌⊎◌, List, [], ◌∷◌, length, IsSomeAnd, count_by, All, Any, slice_get, drop}
use Rattle.decision_journal.specs.declared.entries.Entry.{Entry}
use Rattle.site_lock.specs.declared.pass.Receipt.{Receipt}
use Rattle.site_lock.specs.Passes.{PassView}

-- the entry has this pass, and the number, moment, act and reply of the receipt
abbrev pub Matches : ℕ → Receipt → Entry → Type 0
Matches id r e = (e.number ≡ r.number) × (e.pass ≡ id) × (e.moment ≡ r.moment) × (e.act ≡ r.act) × (e.reply ≡ r.reply)

-- let n be the receipt's number: the history has an n-th entry, counted from 1, and this entry has the number n, the
-- pass `id`, and the receipt's moment, act and reply
abbrev pub IsEntryOf : List Entry → ℕ → Receipt → Type 0
IsEntryOf history id r = (0 < r.number) × IsSomeAnd (slice_get history (r.number - 1)) (λ e. Matches id r e)

-- Let k be a receipt's number. Each receipt agrees with the k-th entry of the history, counted from 1 (`IsEntryOf`),
-- and k is above the number of the receipt before it (for the first receipt, above `last`).
abbrev pub AgreesFrom : List Entry → ℕ → ℕ → List Receipt → Type 0
AgreesFrom history id last [] = Unit {0}
AgreesFrom history id last (r ∷ rs) = (last < r.number) × IsEntryOf history id r × AgreesFrom history id r.number rs

-- Some receipt is wrong, and the first wrong one has the number n. Let k be a receipt's number. The receipt is wrong if
-- the history has no k-th entry, counted from 1, if it disagrees with this entry (`IsEntryOf`), or if k isn't above the
-- number of the receipt before it (for the first receipt, above `last`).
abbrev pub FailsFrom : List Entry → ℕ → ℕ → List Receipt → ℕ → Type 0
FailsFrom history id last [] n = ⊥
FailsFrom history id last (r ∷ rs) n =
    ((r.number ≡ n) × ((r.number ≤ last) ⊎ ¬ IsEntryOf history id r))
    ⊎ ((last < r.number) × IsEntryOf history id r × FailsFrom history id r.number rs n)

-- some receipt has the number
abbrev pub HasNumber : List Receipt → ℕ → Type 0
HasNumber receipts n = Any (λ r. r.number ≡ n) receipts

-- the pass is that of the entry, and has a receipt of the entry's number
abbrev pub Covers : Entry → PassView → Type 0
Covers e p = (p.id ≡ e.pass) × HasNumber p.receipts e.number

-- the entry's pass is one of these passes, and has a receipt of the entry's number
abbrev pub Covered : List PassView → Entry → Type 0
Covered passes e = Any (Covers e) passes

-- The history agrees with the passes' receipts: each receipt agrees with the k-th entry, counted from 1, where k is the
-- receipt's number; the numbers of each pass's receipts rise; and each entry's pass has a receipt of the entry's
-- number.
abbrev pub IsMerge : List Entry → List PassView → Type 0
IsMerge history passes = All (λ p. AgreesFrom history p.id 0 p.receipts) passes × All (Covered passes) history

-- Either the first wrong receipt of this pass has this number. Or an entry of this number is one of this pass, and the
-- pass has no receipt of this number.
abbrev pub IsFault : List Entry → List PassView → ℕ → ℕ → Type 0
IsFault history passes id n =
    Any (λ p. (p.id ≡ id) × FailsFrom history p.id 0 p.receipts n) passes
    ⊎ Any (λ e. (e.pass ≡ id) × (e.number ≡ n) × ¬ Covered passes e) history

-- The history after its first `base` entries, which are older than the passes, agrees with the passes' receipts: each
-- receipt agrees with the k-th entry of the history, counted from 1, where k is the receipt's number; the numbers of
-- each pass's receipts rise and are above `base`; and each later entry's pass has a receipt of the entry's number.
abbrev pub IsMergeSince : ℕ → List Entry → List PassView → Type 0
IsMergeSince base history passes = All (λ p. AgreesFrom history p.id base p.receipts) passes × All (Covered passes) (drop base history)

-- `IsFault` for a history whose first `base` entries are older than the passes. Either the first wrong receipt of this
-- pass has this number, where the pass's first receipt is also wrong if its number isn't above `base`. Or an entry
-- after the first `base` ones has this number and is one of this pass, and the pass has no receipt of this number.
abbrev pub IsFaultSince : ℕ → List Entry → List PassView → ℕ → ℕ → Type 0
IsFaultSince base history passes id n =
    Any (λ p. (p.id ≡ id) × FailsFrom history p.id base p.receipts n) passes
    ⊎ Any (λ e. (e.pass ≡ id) × (e.number ≡ n) × ¬ Covered passes e) (drop base history)

-- the passes are 1 to n, each once
abbrev pub AreAll : ℕ → List PassView → Type 0
AreAll n passes = (length passes ≡ n) × ((k : ℕ) → k < n → count_by (λ p. p.id == k + 1) passes ≡ 1)
