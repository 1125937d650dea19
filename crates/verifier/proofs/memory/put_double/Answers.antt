use Rattle.byteorder.specs.Endian.{little_bytes}
use Rattle.verifier.proofs.StoredParts.{stored_part}
use Rattle.verifier.proofs.memory.put_double.Goals as goal

pub returns : goal.returns
returns c =
    stored_part c.args.memory.now c.args.at (little_bytes 8 c.args.n) c.write_u64.new.buf c.told-memory c.requires c.write_u64.ensures
