use Rattle.file_jobs.proofs.Admitting.{counted_all}
use Rattle.file_jobs.proofs.follow.admitted_of.Goals as goal

pub returns : goal.returns
returns c = counted_all c.args.site.now.config c.args.site.now.history c.args.seen.now.count c.requires
