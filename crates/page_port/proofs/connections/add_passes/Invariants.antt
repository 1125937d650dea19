use Rattle.std.proofs.Common.{◌≡◌, ◌+◌, length}
use Rattle.page_port.proofs.connections.add_passes.Given as goal

abbrev pub invariant-loop : goal.invariant-loop
invariant-loop l = length l.passes.items ≡ length l.fn.passes.items + l.counter
