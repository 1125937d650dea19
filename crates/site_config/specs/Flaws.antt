-- Definitions: the fault number of each flaw of a configuration, and the position in the text that a flaw reports
-- (source: this project).
use Rattle.std.specs.Prelude.{◌≡◌, ℕ, List, true, false, Option, Some, None, Result, Ok, Err, string_bytes}
use Rattle.site_config.specs.declared.fault.ConfigFault.{ConfigFault}
use Rattle.site_config.specs.declared.fault.ConfigFault.TheVariants as fault
use Rattle.site_config.specs.declared.flaw.ConfigFlaw.{ConfigFlaw}
use Rattle.site_config.specs.declared.flaw.ConfigFlaw.TheVariants.{NotUtf8, NotToml, UnknownKey, Missing, WrongType, OutOfRange, WrongCount, OverBound}
use Rattle.site_config.specs.declared.flaw.ConfigFlaw.TheVariants.{BothThere, Needless, Empty, SamePort, SameSocket, SameTill, PointTwice}
use Rattle.site_config.specs.declared.flaw.ConfigFlaw.TheVariants.{TooManyWorkers, WithoutDoor, NotTimeOfDay, NotZoneName, OutOfMemory}
use Rattle.std.specs.Str.{is_utf8}
use Rattle.std.specs.Str.Lossy.{utf8_valid_len}
use Rattle.toml.specs.Errors.{IsMemory, IsWithin, span_start}
use Rattle.toml.specs.declared.de.error.Error.{Error}
use Rattle.site_config.specs.Positions.{position_at}

abbrev pub fault_of : ConfigFlaw → ConfigFault
fault_of (NotUtf8 line column) = fault.K1
fault_of (NotToml line column message) = fault.K1
fault_of (UnknownKey section name) = fault.K2
fault_of (Missing place) = fault.K2
fault_of (WrongType place kind) = fault.K2
fault_of (OutOfRange place value low high) = fault.K3
fault_of (WrongCount place count low high) = fault.K3
fault_of (OverBound counter value bound) = fault.K3
fault_of (BothThere first second) = fault.K2
fault_of (Needless place port socket) = fault.K2
fault_of (Empty place) = fault.K3
fault_of (SamePort first second port) = fault.K3
fault_of (SameSocket first second) = fault.K3
fault_of (SameTill first second till) = fault.K3
fault_of (PointTwice place point) = fault.K3
fault_of (TooManyWorkers side count most) = fault.K3
fault_of (WithoutDoor side number) = fault.K3
fault_of (NotTimeOfDay place) = fault.K3
fault_of (NotZoneName place) = fault.K3
fault_of OutOfMemory = fault.OutOfMemory

-- The line and the column of a flaw with the fault K1, which is that the text isn't UTF-8 or isn't TOML. Other flaws
-- have no position.
abbrev pub position_of : ConfigFlaw → Option (ℕ × ℕ)
position_of (NotUtf8 line column) = Some (line, column)
position_of (NotToml line column message) = Some (line, column)
position_of flaw = None

-- The flaw's position is right for this text. For `NotUtf8` it is where the text stops being UTF-8. For `NotToml` the
-- text is UTF-8, and the position is that of the start of an error that the TOML reader can give for this text. For
-- `OutOfMemory` the text is UTF-8. Of other flaws nothing is claimed.
abbrev pub HasRightPosition : List ℕ → ConfigFlaw → Type 0
HasRightPosition bytes (NotUtf8 line column) = (is_utf8 bytes ≡ false) × ((line, column) ≡ position_at bytes (utf8_valid_len bytes))
HasRightPosition bytes (NotToml line column message) = (is_utf8 bytes ≡ true) × ((error : Error)
    × IsWithin bytes error × (IsMemory error → ⊥) × ((line, column) ≡ position_at bytes (span_start error)))
HasRightPosition bytes OutOfMemory = is_utf8 bytes ≡ true
HasRightPosition bytes flaw = Unit {0}

-- The flaw is `NotToml` with this position and a message for which `says` holds, or `OutOfMemory`.
abbrev pub IsNotToml : ℕ × ℕ → (List ℕ → Type 0) → ConfigFlaw → Type 0
IsNotToml at says (NotToml line column message) = ((line, column) ≡ at) × says (string_bytes message)
IsNotToml at says OutOfMemory = Unit {0}
IsNotToml at says flaw = ⊥

-- Replaces a flaw by its fault number.
abbrev pub numbered : {A : Type 0} → Result A ConfigFlaw → Result A ConfigFault
numbered (Ok x) = Ok x
numbered (Err flaw) = Err (fault_of flaw)

-- The flaw has the fault number K1: the text isn't UTF-8 or isn't TOML.
abbrev pub IsOfText : ConfigFlaw → Type 0
IsOfText flaw = fault_of flaw ≡ fault.K1
