use Rattle.what_if.proofs.Finding.{is-taken_over}
use Rattle.what_if.proofs.comparison.taken_over.Goals as goal

pub returns : goal.returns
returns c = is-taken_over c.args.declared c.args.own.now c.args.site.now _ c.get-first.ensures.right.many c.adopt.ensures
