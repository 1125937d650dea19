-- Definitions: the ranges that the numbers of an opening's file have by their types in the code.
use Rattle.std.specs.Prelude.{◌≡◌, ◌<◌, ◌^◌, length, Option, Some, None, All}
use Rattle.hex.specs.Hex.{IsBytes}
use Rattle.fuelling_point.specs.declared.kinds.Order.{Order}
use Rattle.fuelling_point.specs.declared.kinds.Order.TheVariants as orders
use Rattle.fuelling_point.specs.declared.kinds.Transaction.{Transaction}
use Rattle.fuelling_point.specs.Table.{PointState}
use Rattle.site_core.specs.SlotsValue.{Version}
use Rattle.days.specs.declared.file.OpeningFile.{OpeningFile}

-- If the pending order has an amount, this amount is below 2^64.
abbrev pub OrderFits : Option Order → Type 0
OrderFits (Some (orders.Authorise amount)) = amount < 2 ^ 64
OrderFits order = Unit {0}

-- The number of the till that holds the transaction, and the price, are below 2^32.
abbrev pub UnpaidFits : Transaction → Type 0
UnpaidFits t = (t.holder < 2 ^ 32) × (t.price < 2 ^ 32)

-- The preset, the limit, and the amount in a pending order are below 2^64. The holders and prices of unpaid transactions
-- are in range (`UnpaidFits`).
pub record PointFits (p : PointState) : Type 0 where
  pub preset : p.preset < 2 ^ 64
  pub limit : p.limit < 2 ^ 64
  pub order : OrderFits p.order
  pub unpaid : All UnpaidFits p.unpaid

-- If there is a version, the mask of its program is below 2^32, and each byte of the program is below 256.
abbrev pub VersionFits : Option Version → Type 0
VersionFits None = Unit {0}
VersionFits (Some v) = (v.program.declared < 2 ^ 32) × IsBytes v.program.bytes

-- The numbers that `IsOpeningFile` doesn't bound are in the ranges of their types:
-- - The day and the number of entries are below 2^32.
-- - The digest is 32 bytes.
-- - There are fewer than 2^64 points.
-- - Each point's preset, limit, pending amount and unpaid transactions are in range (`PointFits`).
-- - The mask and the bytes of each slot's program are in range (`VersionFits`).
pub record FileFits (f : OpeningFile) : Type 0 where
  pub day : f.day < 2 ^ 32
  pub entries : f.entries < 2 ^ 32
  pub digest : IsBytes f.digest
  pub digest_length : length f.digest ≡ 32
  pub few : length f.opening.points < 2 ^ 64
  pub points : All PointFits f.opening.points
  pub rules : All VersionFits f.opening.rules
