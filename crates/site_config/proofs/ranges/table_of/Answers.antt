use Rattle.std.proofs.Common.{ℕ, ◌-◌, ◌++◌, length, replicate, ap, arith}
use Rattle.std.proofs.lemmas.List.{drop-replicate}
use Rattle.std.proofs.lemmas.List.Elements.{All-append, All-replicate}
use Rattle.site_core.specs.Limits.{IsCounter}
use Rattle.site_config.proofs.ranges.table_of.Goals as goal

pub returns-clause-after : goal.returns-clause-after
returns-clause-after c = rw c.copy_from_slice.ensures.after (ap (λ t. c.args.list.now ++ t) (drop-replicate {X = ℕ × ℕ} (length c.args.list.now) 32 (0, 0)))

pub returns-clause-range : goal.returns-clause-range
returns-clause-range c =
    rw (c.copy_from_slice.ensures.after, drop-replicate {X = ℕ × ℕ} (length c.args.list.now) 32 (0, 0))
    (All-append IsCounter c.args.list.now (replicate (32 - length c.args.list.now) (0, 0)) c.requires.range
    (All-replicate IsCounter (32 - length c.args.list.now) (0, 0) (omega arith, omega arith)))
