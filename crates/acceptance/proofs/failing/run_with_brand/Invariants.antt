use Rattle.std.proofs.Common.{[], None}
use Rattle.acceptance.proofs.failing.run_with_brand.Given as goal

abbrev pub ghosts-run_on_new_site-L-Ledger : goal.ghosts-run_on_new_site-L-Ledger
ghosts-run_on_new_site-L-Ledger g a = record { name = a.blank.name; parts = a.blank.parts }

abbrev pub ghosts-run_on_new_site-L-SiteLedger : goal.ghosts-run_on_new_site-L-SiteLedger
ghosts-run_on_new_site-L-SiteLedger g a = record { config = a.config; base = []; taken = None }
