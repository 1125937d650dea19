use Rattle.std.proofs.Common.{rules, map, ◌∙◌, ap}
use Rattle.std.specs.Iterator.Adapters.{zip_first, zip_second}
use Rattle.std.proofs.lemmas.Iterator.{YieldsList-from_zip}
use Rattle.std.proofs.lemmas.Iterator.Adapters.{YieldsList-from_vec}
use Rattle.std.proofs.lemmas.Iterator.Consumers.{YieldsList-end}
use Rattle.site_server.proofs.Collecting.{here, seen_again}
use Rattle.site_server.proofs.tasks.tasks_of.Goals as goal

pub returns : goal.returns
returns g c =
    let pairs = c.into_iter-pair-iterator.result in
    let firsts = YieldsList-from_vec {s = zip_first pairs} c.args.passes.items (search rules) (search rules) in
    let seconds = YieldsList-from_vec {s = zip_second pairs} c.args.workers.items (search rules) (search rules) in
    let end = YieldsList-end (YieldsList-from_zip {s = pairs} firsts seconds) c.loop-pair.yielded c.loop-pair.pair-iterator c.loop-pair.yielded_by
    c.next.result c.next.new.self c.in-None.is c.next.ensures.steps in
    c.loop-pair.invariant ∙ seen_again c.loop-pair.yielded ∙ ap (map here) end.0
