use Rattle.std.proofs.Common.{[], None}
use Rattle.acceptance.proofs.gates.both_of.Given as goal

abbrev pub ghosts-both-L-Ledger : goal.ghosts-both-L-Ledger
ghosts-both-L-Ledger g a = record { name = a.blank.name; parts = a.blank.parts }

abbrev pub ghosts-both-L-SiteLedger : goal.ghosts-both-L-SiteLedger
ghosts-both-L-SiteLedger g a = record { config = a.config; base = []; taken = None }
