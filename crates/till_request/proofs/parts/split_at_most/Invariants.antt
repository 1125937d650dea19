use Rattle.std.proofs.Common.{◌≡◌, ◌≤◌, ◌++◌, map, drop, eqb}
use Rattle.std.specs.List.{slice_split}
use Rattle.till_request.proofs.Parted.{NoneFrom}
use Rattle.till_request.proofs.parts.split_at_most.Given as goal

-- the parts so far, followed by those of the text from `start` on, are all parts of the text
abbrev pub invariant-bytes : goal.invariant-bytes
invariant-bytes g l = record {
  within : l.start ≤ l.at;
  parts : map (λ w. w.now) l.parts.items ++ slice_split (λ b. eqb b l.separator) (drop l.start l.text) ≡ slice_split (λ b. eqb b l.separator) l.text;
  none : NoneFrom l.separator l.text l.start l.at;
}
