use Rattle.std.proofs.Common.{◌-◌, ◌++◌, ◌∙◌, ap}
use Rattle.std.specs.Prelude.{drop}
use borrow.Rule.Slice.PartMut.{mid_of}
use Rattle.byteorder.specs.Endian.{little_bytes}
use Rattle.verifier.proofs.StoredParts.{stored_part, low_four}
use Rattle.verifier.proofs.memory.put_word.Goals as goal

pub returns : goal.returns
returns c =
    stored_part c.args.memory.now c.args.at (little_bytes 4 c.args.n) c.write_u32.new.buf c.told-memory c.requires (c.write_u32.ensures ∙ ap
    (λ bytes. bytes ++ drop 4 (mid_of c.args.at (512 - c.args.at) c.args.memory.now)) (low_four c.args.n))
