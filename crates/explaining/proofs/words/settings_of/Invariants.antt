use Rattle.std.proofs.Common.{◌≡◌, ◌++◌, Some, length, map, string_bytes}
use Rattle.explaining.specs.Named.{setting_of}
use Rattle.explaining.proofs.words.settings_of.Given as goal

-- The settings so far, with what the rest of the words say, are what all words say.
abbrev pub invariant-loop-rest : goal.invariant-loop-rest
invariant-loop-rest l =
    map (λ s. Some s) l.settings.items ++ map setting_of (map string_bytes l.rest) ≡ map setting_of (map string_bytes l.words)

abbrev pub decreases-loop-rest : goal.decreases-loop-rest
decreases-loop-rest l = length l.rest
