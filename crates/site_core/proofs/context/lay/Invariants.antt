use Rattle.std.proofs.Common.{◌≡◌, length, take}
use Rattle.site_core.specs.Context.{laid}
use Rattle.site_core.proofs.context.lay.Given as goal

abbrev pub invariant-loop-field : goal.invariant-loop-field
invariant-loop-field l =
    record {
      at_is : l.at ≡ length (laid (take l.field-index l.fields));
      many : length l.bytes ≡ length (laid l.fields);
      front : take l.at l.bytes ≡ laid (take l.field-index l.fields);
    }
