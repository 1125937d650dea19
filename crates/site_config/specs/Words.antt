-- Definitions: the text that describes a flaw of a configuration (source: this project).
use Rattle.std.specs.Prelude.{◌≡◌, ◌≢◌, ◌⊎◌, ℕ, ℤ, nat_lt, ◌==◌, List, [], ◌∷◌, ◌++◌, Option, Some, None, codes, string_bytes, if◌then◌else◌}
use Rattle.std.specs.List.{before_first}
use Rattle.std.specs.Str.{IsTrimAscii}
use Rattle.std.specs.Fmt.{decimal, signed_decimal}
use Rattle.site_config.specs.declared.flaw.«Type».{«Type» as ValueType}
use Rattle.site_config.specs.declared.flaw.«Type».TheVariants as types
use Rattle.site_config.specs.declared.flaw.Side.{Side}
use Rattle.site_config.specs.declared.flaw.Side.TheVariants as sides
use Rattle.site_config.specs.declared.flaw.ConfigFlaw.{ConfigFlaw}
use Rattle.site_config.specs.declared.flaw.ConfigFlaw.TheVariants.{NotUtf8, NotToml, UnknownKey, Missing, WrongType, OutOfRange, WrongCount, OverBound}
use Rattle.site_config.specs.declared.flaw.ConfigFlaw.TheVariants.{BothThere, Needless, Empty, SamePort, SameSocket, SameTill, PointTwice}
use Rattle.site_config.specs.declared.flaw.ConfigFlaw.TheVariants.{TooManyWorkers, WithoutDoor, NotTimeOfDay, NotZoneName, OutOfMemory}
use Rattle.site_config.specs.Keys.{section_text, place_text}

abbrev pub type_text : ValueType → List ℕ
type_text types.Integer = codes "a whole number"
type_text types.IntegerOrUnlimited = codes "a whole number or \"unlimited\""
type_text types.L2OrL5 = codes "\"L2\" or \"L5\""
type_text types.Text = codes "a string"
type_text types.Array = codes "an array"
type_text types.Table = codes "a table"

abbrev pub plural_of : Side → List ℕ
plural_of sides.Tills = codes "tills"
plural_of sides.Dispensers = codes "dispensers"

abbrev pub singular_of : Side → List ℕ
singular_of sides.Tills = codes "till"
singular_of sides.Dispensers = codes "point"

abbrev pub range_text : ℕ → ℕ → List ℕ
range_text low high = if nat_lt low high then decimal low ++ codes " to " ++ decimal high else decimal low

abbrev pub miscounted_text : ℕ → ℕ → ℕ → List ℕ
miscounted_text count low high = decimal count ++ (codes " items, and not " ++ range_text low high)

abbrev pub outside_text : ℤ → ℕ → ℕ → List ℕ
outside_text value low high = signed_decimal value ++ (codes " is not " ++ (decimal low ++ (codes " to " ++ decimal high)))

abbrev pub over_text : ℕ → ℕ → List ℕ
over_text value bound = decimal value ++ (codes " is over its bound, " ++ decimal bound)

-- The text for a flaw of the doors of `[serve]`. It is empty for other flaws.
abbrev pub doors_text : ConfigFlaw → List ℕ
doors_text (BothThere first second) =
    codes "'" ++ (place_text first ++ (codes "' and '" ++ (place_text second ++ codes "' are both there")))
doors_text (Needless place port socket) =
    codes "'" ++ (place_text place ++ (codes "' is there without '" ++ (place_text port ++ (codes "' or '" ++ (place_text socket ++ codes "'")))))
doors_text (Empty place) = place_text place ++ codes " is empty"
doors_text (SamePort first second port) =
    place_text first ++ (codes " and " ++ (place_text second ++ (codes " are both " ++ signed_decimal port)))
doors_text (SameSocket first second) = place_text first ++ (codes " and " ++ (place_text second ++ codes " are the same path"))
doors_text (SameTill first second till) =
    place_text first ++ (codes " and " ++ (place_text second ++ (codes " are both for till " ++ signed_decimal till)))
doors_text (PointTwice place point) = place_text place ++ (codes " has point " ++ (decimal point ++ codes " twice"))
doors_text (TooManyWorkers side count most) =
    plural_of side ++ (codes " have " ++ (decimal count ++ (codes " workers, and not 1 to " ++ decimal most)))
doors_text (WithoutDoor side number) = singular_of side ++ (codes " " ++ (decimal number ++ codes " has no door"))
doors_text (NotTimeOfDay place) = place_text place ++ codes " is not \"00:00\" to \"23:59\""
doors_text (NotZoneName place) = place_text place ++ codes " is not a zone's name, such as \"Europe/Berlin\""
doors_text flaw = []

-- a text without the `[` at its front, if it has one
abbrev pub behind_bracket : List ℕ → List ℕ
behind_bracket [] = []
behind_bracket (byte ∷ text) = if byte == 91 then text else byte ∷ text

-- The key, as it is written, of a pair such as `tills = 2` or of a header such as `[serve]` or `[[serve.till]]`: what is
-- behind the brackets, and before the first `]` and the first `=`. It may have blanks around it.
abbrev pub key_part : List ℕ → List ℕ
key_part piece = before_first (λ byte. byte == 61) (before_first (λ byte. byte == 93) (behind_bracket (behind_bracket piece)))

-- These words name the key of this pair or header, without blanks around it.
abbrev pub SaysTwice : List ℕ → List ℕ → Type 0
SaysTwice piece words =
    (key : List ℕ) × IsTrimAscii (key_part piece) key × (words ≡ codes "the key '" ++ (key ++ codes "' stands twice"))

-- What is said of an error of the TOML reader, whose message this is; `piece` is the part of the text that the error
-- names, if that is a text. TOML forbids that a key is defined twice: of this error the key is said, of any other the
-- message.
abbrev pub SaysFault : List ℕ → Option (List ℕ) → List ℕ → Type 0
SaysFault message None words = words ≡ message
SaysFault message (Some piece) words =
    ((message ≢ codes "duplicate key") × (words ≡ message)) ⊎ ((message ≡ codes "duplicate key") × SaysTwice piece words)

-- The text for a flaw. If a configuration isn't TOML, the text is what is said of the TOML reader's error.
abbrev pub flaw_text : ConfigFlaw → List ℕ
flaw_text (NotUtf8 line column) = codes "the text isn't UTF-8"
flaw_text (NotToml line column message) = string_bytes message
flaw_text (UnknownKey section name) = codes "unknown key '" ++ (section_text section ++ (name ++ codes "'"))
flaw_text (Missing place) = codes "'" ++ (place_text place ++ codes "' is missing")
flaw_text (WrongType place kind) = codes "'" ++ (place_text place ++ (codes "' is not " ++ type_text kind))
flaw_text (OutOfRange place value low high) = place_text place ++ (codes " = " ++ outside_text value low high)
flaw_text (WrongCount place count low high) = codes "'" ++ (place_text place ++ (codes "' has " ++ miscounted_text count low high))
flaw_text (OverBound counter value bound) = codes "counter[" ++ (decimal counter ++ (codes "].value = " ++ over_text value bound))
flaw_text OutOfMemory = codes "out of memory"
flaw_text flaw = doors_text flaw
