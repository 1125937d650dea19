-- Definitions: which values a point can have, and the point that a snapshot (these values as plain data) describes.
use Rattle.std.specs.Prelude.{ℕ, ◌≤◌, ◌<◌, ◌≡◌, true, List, ◌∷◌, ◌++◌, length, All, Option, Some, None, option_to_list, slice_index_or}
use Rattle.fuelling_point.specs.declared.kinds.Transaction.{Transaction}
use Rattle.fuelling_point.specs.declared.snapshot.Snapshot.{Snapshot}
use Rattle.fuelling_point.specs.States.{is_busy}
use Rattle.fuelling_point.specs.Table.{PointState}

-- A point whose newest transaction has the number `last` can have the unpaid transaction `t`: the number of `t` is from
-- 1 to `last`, its product is at most 8, and its amount in cents and its volume in centilitres are at most 999,999,999.
pub record IsUnpaid (last : ℕ) (t : Transaction) : Type 0 where
  pub some : 1 ≤ t.number
  pub number : t.number ≤ last
  pub product : t.product ≤ 8
  pub amount : t.amount ≤ 999999999
  pub volume : t.volume ≤ 999999999

-- Each transaction in the list has a greater number than the one before it.
abbrev pub HaveRisingNumbers : List Transaction → Type 0
HaveRisingNumbers (older ∷ newer ∷ rest) = (older.number < newer.number) × HaveRisingNumbers (newer ∷ rest)
HaveRisingNumbers _ = Unit {0}

-- The point's values are in their ranges. At most two transactions are unpaid, and at most one while a delivery is
-- authorised or under way. The older one comes first, and has the smaller number.
pub record IsPointState (p : PointState) : Type 0 where
  pub nozzle : p.nozzle ≤ 8
  pub amount : p.amount ≤ 999999999
  pub volume : p.volume ≤ 999999999
  pub most : length p.unpaid ≤ 2
  pub room : is_busy p.state ≡ true → length p.unpaid ≤ 1
  pub unpaid : All (IsUnpaid p.last) p.unpaid
  pub rise : HaveRisingNumbers p.unpaid

-- The state of the point that a snapshot describes.
abbrev pub snapshot_state : Snapshot → PointState
snapshot_state s = record {
  state = s.state;
  nozzle = s.nozzle;
  preset = s.preset;
  limit = s.limit;
  amount = s.amount;
  volume = s.volume;
  order = s.order;
  taken = s.taken;
  last = s.last;
  unpaid = option_to_list (slice_index_or s.unpaid 0 None) ++ option_to_list (slice_index_or s.unpaid 1 None);
}

-- Of two places for unpaid transactions, the second is used only if the first is.
abbrev pub IsFilledInOrder : Option Transaction → Option Transaction → Type 0
IsFilledInOrder None (Some t) = ⊥
IsFilledInOrder _ _ = Unit {0}

-- A point can have the values of the snapshot.
pub record IsSnapshot (s : Snapshot) : Type 0 where
  pub places : IsFilledInOrder (slice_index_or s.unpaid 0 None) (slice_index_or s.unpaid 1 None)
  pub state : IsPointState (snapshot_state s)
