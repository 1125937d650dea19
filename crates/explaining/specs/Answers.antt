-- Definitions: what an answer of a rule does to what is asked (source: this project).
use Rattle.std.specs.Prelude.{◌==◌, ℕ, nat_lt, if◌then◌else◌}
use Rattle.explaining.specs.declared.single.Verdict.{Verdict}
use Rattle.explaining.specs.declared.single.Verdict.TheVariants.{Denied, Allowed, Granted}

-- 0 denies. Of a price (kind 3) any other number allows what is asked; of an amount the lesser of both is granted.
abbrev pub verdict_on : ℕ → ℕ → ℕ → Verdict
verdict_on kind asked answer =
    if answer == 0 then Denied else if kind == 3 then Allowed else if nat_lt answer asked then Granted answer else Granted asked
