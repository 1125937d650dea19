use Rattle.std.proofs.Common.{◌≡◌, ◌++◌, codes, take}
use Rattle.std.specs.List.{flat_map}
use Rattle.till_request.proofs.look.put_numbers_behind.Given as goal

-- the numbers so far stand behind the text, each behind a space
abbrev pub invariant-loop-number : goal.invariant-loop-number
invariant-loop-number g l = l.text.items ≡ l.initial.text.items ++ flat_map (λ next. codes " " ++ g.N.Integer.text next) (take l.number-index l.numbers)
