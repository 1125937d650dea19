-- Promises: what is told of a connection by its first bytes.
use Rattle.std.specs.Prelude.{◌≡◌, ℕ, ◌<◌, nat_le, ◌==◌, ◌&&◌, Bool, true, false, not, if◌then◌else◌, List, [], ◌∷◌, ◌++◌, length, Option, Some, option_map}
use Rattle.std.specs.List.{list_all}
use Rattle.std.specs.Io.KnownBytes.{prepend_known}
use Rattle.site_server.specs.Guard.{admitted, is_control, speaks_another_protocol}
use Rattle.site_server.specs.declared.judging.Verdict.{Verdict}
use Rattle.site_server.specs.declared.judging.Verdict.TheVariants.{Client, Stranger, Unclear}

-- a capital letter, A to Z
abbrev pub is_capital : ℕ → Bool
is_capital b = nat_le 65 b && nat_le b 90

abbrev pub begins_with_control : List ℕ → Bool
begins_with_control [] = false
begins_with_control (b ∷ bytes) = is_control b

-- no byte is an LF, so that no line has come to its end
abbrev pub has_no_line : List ℕ → Bool
has_no_line bytes = list_all (λ b. not (b == 10)) bytes

abbrev pub verdict_on : Bool → Verdict
verdict_on true = Stranger
verdict_on false = Client

-- the verdict on whether a path is asked for, by what has come behind the first word
abbrev pub path_verdict : List ℕ → Verdict
path_verdict [] = Unclear
path_verdict (a ∷ []) = if a == 32 then Unclear else Client
path_verdict (a ∷ b ∷ bytes) = verdict_on (a == 32 && b == 47)

-- the verdict on whether one of two things is so, by a verdict on each
abbrev pub either_verdict : Verdict → Verdict → Verdict
either_verdict Stranger on_second = Stranger
either_verdict Client on_second = on_second
either_verdict Unclear Stranger = Stranger
either_verdict Unclear Client = Unclear
either_verdict Unclear Unclear = Unclear

-- What a verdict on the first bytes of a connection says of a test of all that it sends:
-- - `Stranger`: whatever comes behind them, it is so.
-- - `Client`: whatever comes behind them, it isn't.
-- - `Unclear`: they have no end of a line, and are at most as many as the longest line, of 8,400 bytes, and one more.
abbrev pub Tells : (List ℕ → Bool) → List ℕ → Verdict → Type 0
Tells is_so bytes Stranger = (more : List ℕ) → is_so (bytes ++ more) ≡ true
Tells is_so bytes Client = (more : List ℕ) → is_so (bytes ++ more) ≡ false
Tells is_so bytes Unclear = (length bytes < 8402) × (has_no_line bytes ≡ true)

-- what a verdict says of the connection's protocol
abbrev pub IsVerdict : List ℕ → Verdict → Type 0
IsVerdict bytes verdict = Tells speaks_another_protocol bytes verdict

-- the first bytes of a connection that were read and not passed on, and the verdict on the peer
pub record BeginningValue : Type 0 where
  pub kept : List ℕ
  pub verdict : Verdict

-- What a session will read of a connection. `rest` is what its own reader will give, if that is known. Of a stranger's
-- connection it's nothing.
abbrev pub ahead_by : Verdict → List ℕ → Option (List ℕ) → Option (List ℕ)
ahead_by Unclear kept rest = option_map (λ more. admitted (kept ++ more)) rest
ahead_by Client kept rest = prepend_known kept rest
ahead_by Stranger kept rest = Some []

abbrev pub ahead_of : BeginningValue → Option (List ℕ) → Option (List ℕ)
ahead_of b rest = ahead_by b.verdict b.kept rest
