-- Representation: what the functions that show a site need to know of the room for rows, and the rows of its slots.
use Rattle.std.specs.Prelude.{ℕ, List, [], ◌∷◌, Option, option_map}
use Rattle.till_request.specs.declared.look.LookAt.{LookAt}
use Rattle.till_request.specs.declared.look.LookAt.TheVariants as look
use Rattle.site_core.specs.SlotsValue.{SlotsValue, Version}
use Rattle.site_core.specs.Slots.{version_in, since_in}

-- How many unpaid transactions a look shows at most.
abbrev pub most_unpaid : LookAt → ℕ
most_unpaid (look.Unpaid n) = 2
most_unpaid look.AllUnpaid = 64
most_unpaid _ = 0

-- How many slots or counters a look shows at most.
abbrev pub most_rows : LookAt → ℕ
most_rows look.Rules = 16
most_rows look.Counters = 32
most_rows _ = 0

-- The row of a slot with a version, as the slots tell it.
abbrev pub slot_row : SlotsValue → ℕ → Option (List ℕ)
slot_row v slot = option_map (λ (w : Version). slot ∷ w.number ∷ since_in v slot ∷ []) (version_in v slot)
