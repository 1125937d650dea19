use Rattle.std.proofs.Common.{arith, refl}
use Rattle.verifier.specs.Effects.{effect_of}
use Rattle.verifier.proofs.Keeping.{unwritten}
use Rattle.verifier.proofs.types.Fact.apply.Goals as goal

-- If `at` and `len` of a write to the stack are 0, `apply` leaves the fact as it is. What `apply` promises is true of
-- the unchanged fact: it is the fact after an instruction with this write (`IsAfter`).
pub returns-else-mark-gt0-2 : goal.returns-else-mark-gt0-2
returns-else-mark-gt0-2 c =
    unwritten c.args.self.now c.args.self.now (effect_of c.args.self.now.types c.args.mark) (omega arith) (omega arith) refl refl refl
