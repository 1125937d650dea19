use Rattle.std.proofs.Common.{◌≡◌, ◌≤◌, ◌+◌, take}
use Rattle.site_config.specs.Positions.{position_behind}
use Rattle.site_config.proofs.document.position_behind.Given as goal

-- `at` is the position after the bytes that were counted so far
abbrev pub invariant-loop-byte : goal.invariant-loop-byte
invariant-loop-byte l = record {
  at : l.at ≡ position_behind (take l.byte-index l.text);
  fits : (l.at.0 ≤ l.byte-index + 1) × (l.at.1 ≤ l.byte-index + 1);
}
