-- The minute that a text of a time has is one of a day.
use Rattle.std.proofs.Common.{ℕ, zero, suc, ◌+◌, ◌<◌, List, Bool, true, false, cond, Option, Some, None, IfSome, arith}
use Rattle.std.specs.List.{find, range_with_len}
use Rattle.std.specs.Str.{bytes_eq}
use Rattle.std.proofs.lemmas.Option.{IfSome_then}
use Rattle.site_config.specs.DayEnds.{time_text, minute_of}

-- what is found among the `n` numbers from `a` on is below a + n
found_below : (test : ℕ → Bool) (n a : ℕ) → IfSome (find test (range_with_len a n)) (λ m. m < a + n)
found_below test zero a = tt
found_below test (suc n) a =
    elim (test a) as (λ b. IfSome (cond b (Some a) (find test (range_with_len (a + 1) n))) (λ m. m < a + suc n)) [
      | true ↦ omega arith
      | false ↦ IfSome_then (find test (range_with_len (a + 1) n)) (found_below test n (a + 1)) (λ m l. omega (arith, l))
    ]

pub in_day : (text : List ℕ) → IfSome (minute_of text) (λ minute. minute < 1440)
unfolding minute_of
in_day text = found_below (λ minute. bytes_eq (time_text minute) text) 1440 0
