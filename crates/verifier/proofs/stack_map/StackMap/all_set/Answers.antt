use Rattle.std.proofs.Common.{◌<◌, ◌^◌, arith, rules, refl, subst, sym}
use Rattle.verifier.specs.Places.{Has}
use Rattle.verifier.proofs.Marking.{marked_is, held_more, not_held}
use Rattle.verifier.proofs.stack_map.StackMap.all_set.Goals as goal

pub loop-k-preserved : goal.loop-k-preserved
loop-k-preserved c =
    held_more c.self.inside.words c.args.at c.args.len c.loop-k.k c.mask_of-mask.result c.mask_of-mask.ensures c.if-self-k.false c.loop-k.invariant

pub returns-then-self-k : goal.returns-then-self-k
returns-then-self-k c =
    let small : c.mask_of-mask.result < 2 ^ 64 = search rules in (
      λ t. absurd (cc),
      λ all. absurd
          (c.if-self-k.true (not_held c.self.inside.words c.args.at c.args.len c.loop-k.k c.mask_of-mask.result (omega arith) small c.mask_of-mask.ensures
          (λ p w. subst (λ set. Has set p) (sym c.self.view_is) (all p w)))),
    )

pub returns : goal.returns
returns c = (
  λ t p w. subst (λ set. Has set p) c.self.view_is ((marked_is c.self.inside.words p).1 (c.loop-k.invariant p w (let last = w.1 in omega (arith, last)))),
  λ all. refl,
)
