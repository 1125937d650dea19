use Rattle.std.proofs.Common.{[], None}
use Rattle.acceptance.proofs.looks.run_with_brand.Given as goal

abbrev pub ghosts-run_both-L-Ledger : goal.ghosts-run_both-L-Ledger
ghosts-run_both-L-Ledger g a = record { name = a.blank.name; parts = a.blank.parts }

abbrev pub ghosts-run_both-L-SiteLedger : goal.ghosts-run_both-L-SiteLedger
ghosts-run_both-L-SiteLedger g a = record { config = a.config; base = []; taken = None }
