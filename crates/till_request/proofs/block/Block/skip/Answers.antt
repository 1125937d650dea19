use Rattle.std.proofs.Common.{◌≤◌, length, ◌∙◌, ap, sym, drop, subst}
use Rattle.till_request.proofs.Pieces.{moved_on}
use Rattle.till_request.proofs.block.Block.skip.Goals as goal

pub returns : goal.returns
returns g c =
    moved_on c.self.inside.bytes c.self.inside.at c.self.inside.end c.args.count (subst (λ l. c.args.count ≤ length l) (sym c.self.view_is) c.requires)
    ∙ ap (λ l. drop c.args.count l) c.self.view_is
