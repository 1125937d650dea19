use Rattle.file_jobs.proofs.Alike.{plays_alike}
use Rattle.file_jobs.proofs.playing.law_of_read_sizes.Goals as goal

pub returns : goal.returns
returns c = plays_alike
