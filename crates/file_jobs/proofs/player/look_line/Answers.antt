use Rattle.std.proofs.Common.{rules, length}
use Rattle.file_jobs.proofs.player.look_line.Goals as goal

pub returns : goal.returns
returns c = record {
  sight = record { entries = length c.history.result.now; seen = c.see.result };
  entries = search rules;
  seen = search rules;
  text_is = search rules;
}
