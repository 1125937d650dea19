-- The format `{day:06}` writes a day's number as `six_digits` spells it: in at least six digits, with zeros in front.
use Rattle.std.proofs.Common.{◌≡◌, ℕ, ◌-◌, ◌^◌, [], ◌++◌, length, false, decimal, replicate, ap, ◌∙◌, arith, append-nil}
use Rattle.std.specs.Fmt.{padded_integral, format_spec, char_count}
use Rattle.file_jobs.specs.Days.{six_digits}

pub padded-six : (day : ℕ) → padded_integral (format_spec 32 0 4 6 (2 ^ 64 - 1)) false [] (decimal day) ≡ six_digits day
unfolding padded_integral char_count
padded-six day =
    let n = length (decimal day) in
    let few : 6 - n - 0 - 0 ≡ 6 - n = omega arith in
    ap (λ k. replicate k 48 ++ (decimal day ++ [])) few ∙ ap (λ ds. replicate (6 - n) 48 ++ ds) (append-nil (decimal day))
