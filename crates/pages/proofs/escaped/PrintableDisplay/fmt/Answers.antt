use Rattle.std.proofs.Common.{rules, refl}
use Rattle.pages.proofs.Pieces.{shown}
use Rattle.pages.proofs.escaped.PrintableDisplay.fmt.Goals as goal

-- What the value writes reaches the formatter, escaped.
pub returns-clause-writes : goal.returns-clause-writes
returns-clause-writes g c =
    shown g.W.Write.write_str_gives (g.D.Display.output c.args.self.now.0.now) c.write.result _ c.write.new.self _ _ refl (λ name. search rules) c.write.ensures.writes
