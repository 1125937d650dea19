use Rattle.site_server.proofs.serving.Serving.run.Given as goal

abbrev pub ghosts-run_on-L-Ledger : goal.ghosts-run_on-L-Ledger
ghosts-run_on-L-Ledger g a = record { name = a.blank.name; parts = a.blank.parts }

abbrev pub ghosts-run_on-L-SiteLedger : goal.ghosts-run_on-L-SiteLedger
ghosts-run_on-L-SiteLedger g a = record { config = a.self.watched.site.config; base = a.self.watched.site.history; taken = g.J.Journal.written a.self.journal }
