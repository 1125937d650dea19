use Rattle.std.proofs.Common.{◌≡◌, true}
use Rattle.site_server.specs.Tasks.{opened_by}
use Rattle.site_server.proofs.Rounds.{Going}
use Rattle.site_server.proofs.workers.Workers.serve.Given as goal

-- the rounds that were served led to this pass, and the day that the desk tells is still the same
abbrev pub invariant-loop-round : goal.invariant-loop-round
invariant-loop-round g l = record {
  going : Going (opened_by g.L.SiteLedger.config g.L.Ledger.parts g.L.SiteLedger.base g.L.SiteLedger.taken) g.J.Journal.may_fail l.self.day l.role l.self.shift l.clean
      (0, l.fn.pass) (l.clock.last, l.desk.pass);
  on : l.desk.day ≡ l.self.day;
  closes : g.S.Doors.may_close l.doors.doors → l.self.shift.may_stop ≡ true;
  next : (goal.iterator-loop-round g).can_next l._round-iterator;
  finite : (goal.iterator-loop-round g).is_finite l._round-iterator;
}
