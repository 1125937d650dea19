-- Definitions: the plan by which a site is served (source: this project). It says what the site starts with, and who
-- serves it.
use Rattle.std.specs.Prelude.{ℕ, List, Option, length}
use Rattle.till_request.specs.declared.act.Role.{Role}
use Rattle.site_lock.specs.Passes.{Opened}
use Rattle.site_server.specs.Crews.{roles_of}
use Rattle.site_server.specs.declared.serving.Serving.{Serving}
use Rattle.site_server.specs.declared.shift.Shift.{Shift}

-- How a site is served: what its forecourt starts with (`from`), whether its journal can fail (`may_fail`), and the
-- number of the day (`day`), which looks tell. `roles` are the workers' roles, in the order of their passes. Each worker
-- serves the connections of a `shift`.
pub record Plan : Type 1 where
  pub from : Opened
  pub may_fail : Type 0
  pub day : ℕ
  pub roles : List Role
  pub shift : Shift

-- The plan by which a site is served. The forecourt starts with the site's history, with the bytes that the journal has
-- taken, and with one pass for each worker of the crew.
abbrev pub plan_of : {J : Type 0} → (J → Option (List ℕ)) → Type 0 → Serving J → Plan
plan_of written may_fail s = record {
  from = record { config = s.watched.site.config; passes = length s.crew.workers.items; base = s.watched.site.history; taken = written s.journal };
  may_fail = may_fail;
  day = s.day;
  roles = roles_of s.crew.workers.items;
  shift = record { connections = s.connections; may_stop = s.crew.may_stop };
}
