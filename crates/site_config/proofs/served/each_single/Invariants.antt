use Rattle.std.proofs.Common.{◌≡◌, ◌≤◌, drop}
use Rattle.toml.specs.View.{items_view}
use Rattle.site_config.specs.Document.{with_front}
use Rattle.site_config.specs.Typed.{each_in, single_in}
use Rattle.site_config.specs.Memory.{KeepsFirst, TakesSingle}
use Rattle.site_config.proofs.served.each_single.Given as goal

-- Reading the rest of `values` and appending it to the doors so far gives the same as reading all of `values` and
-- appending it to the doors at the start.
abbrev pub invariant-loop-value : goal.invariant-loop-value
invariant-loop-value l = record {
  read : with_front l.doors.items (each_in (single_in l.side) l.place (items_view (drop l.value-index l.values)))
      ≡ with_front l.initial.doors.items (each_in (single_in l.side) 0 (items_view l.values));
  counted : l.place ≡ l.value-index;
  begun : 1 ≤ l.value-index → KeepsFirst (single_in l.side) (TakesSingle l.side) (items_view l.values);
}
