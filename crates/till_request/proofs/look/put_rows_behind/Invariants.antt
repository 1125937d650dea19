use Rattle.std.proofs.Common.{◌≡◌, ◌++◌, codes, take}
use Rattle.std.specs.List.{flat_map}
use Rattle.till_request.specs.Looks.{numbers_text}
use Rattle.till_request.proofs.look.put_rows_behind.Given as goal

-- the rows so far stand behind the text, each behind a semicolon and a space
abbrev pub invariant-loop-row : goal.invariant-loop-row
invariant-loop-row g l = l.text.items ≡ l.initial.text.items ++ flat_map (λ next. codes "; " ++ numbers_text next) (take l.row-index l.rows)
