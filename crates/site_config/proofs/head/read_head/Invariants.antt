use Rattle.std.proofs.Common.{◌≡◌, ℕ, ◌<◌, ◌≤◌, ◌+◌, ◌-◌, length, take, false}
use Rattle.std.specs.Io.KnownBytes.{Consumes}
use Rattle.till_request.specs.Count.{RoseBy}
use Rattle.site_config.specs.Head.{ends_head}
use Rattle.site_config.proofs.head.read_head.Given as goal

-- None of the bytes that were read, except perhaps the last one, ends a line `---`.
abbrev pub invariant-loop-bytes : goal.invariant-loop-bytes
invariant-loop-bytes g l = record {
  taken : Consumes (g.I.LineIn.remaining l.initial.input) (g.I.LineIn.remaining l.input) l.bytes.items;
  first : (k : ℕ) → k < length l.bytes.items → ends_head (take k l.bytes.items) ≡ false;
  few : length l.bytes.items ≤ 65541;
  fewer : l.left ≤ l.initial.left;
  each : length l.bytes.items + l.left ≡ l.initial.left;
  counted : RoseBy (l.initial.left - l.left) (g.I.LineIn.reads l.initial.input) (g.I.LineIn.reads l.input);
  asked : RoseBy (l.initial.left - l.left) (g.I.LineIn.asked l.initial.input) (g.I.LineIn.asked l.input);
  failed : RoseBy 0 (g.I.LineIn.failures l.initial.input) (g.I.LineIn.failures l.input);
}

abbrev pub decreases-loop-bytes : goal.decreases-loop-bytes
decreases-loop-bytes g l = l.left
