use Rattle.std.proofs.Common.{eqb, sym, ◌∙◌, drop, arith, refl}
use Rattle.till_request.proofs.Parted.{parts_and_more, part_more, part_last, none_further, rest_behind}
use Rattle.till_request.proofs.parts.split_at_most.Goals.{then-text-at+else-is_full, else-text-at}
use Rattle.till_request.proofs.parts.split_at_most.Goals as goal

pub returns-then-is_full : goal.returns-then-is_full
returns-then-is_full g c =
    parts_and_more (λ b. eqb b c.args.separator) c.args.text.now (drop c.bytes.start c.args.text.now) c.bytes.parts.items g.row.N c.bytes.invariant.parts
    (sym c.is_full.ensures.value ∙ c.if-is_full.true)

pub bytes-preserved : goal.bytes-preserved
bytes-preserved g c = elim c.if-text-at.branch [
  | then-text-at+else-is_full w ↦ record {
    within = rw w.start-is (omega arith);
    parts = rw (w.start-is, w.parts-is) (part_more c.args.separator _ c.args.text.now c.bytes.start c.bytes.at c.bytes.parts.items w.push.new.self.items _
        c.bytes.invariant.parts w.push.ensures.items refl c.bytes.invariant.within c.bytes-test.true c.bytes.invariant.none w.if-text-at.true);
    none = rw w.start-is (λ k low high _. omega (arith, low, high));
  }
  | else-text-at w ↦ record {
    within = rw w.start-is (omega (arith, c.bytes.invariant.within));
    parts = rw (w.start-is, w.parts-is) c.bytes.invariant.parts;
    none = rw w.start-is (none_further c.args.separator c.args.text.now c.bytes.start c.bytes.at c.bytes.invariant.none w.if-text-at.false);
  }
]

pub returns : goal.returns
returns g c =
    part_last c.args.separator _ c.args.text.now c.bytes.start c.bytes.at c.bytes.parts.items c.push-2.new.self.items _ c.bytes.invariant.parts
    c.push-2.ensures.items (rest_behind c.args.text.now c.bytes.start) c.bytes.invariant.within (omega (arith, c.bytes-test.false, c.bytes.auto.at-end))
    c.bytes.invariant.none
