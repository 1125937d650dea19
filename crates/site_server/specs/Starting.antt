-- Definitions: how many of a site's workers have a thread when the site begins to be served (source: this project).
use Rattle.std.specs.Prelude.{◌+◌, ◌==◌, ◌&&◌, nat_lt, not, min, if◌then◌else◌, Bool}
use Rattle.till_request.specs.declared.act.Role.{Role}
use Rattle.till_request.specs.declared.act.Role.TheVariants.{Till, Dispenser, Owner, DaysOwner, All, OneTill, SomePoints}
use Rattle.site_server.specs.declared.starting.RoleThreads.{RoleThreads}
use Rattle.site_server.specs.declared.starting.ThreadCounts.{ThreadCounts}

-- no worker yet
abbrev pub no_workers : RoleThreads
no_workers = record { workers = 0; threads = 0 }

-- the counts of a role with one worker more, which has a thread or none
abbrev pub one_more : RoleThreads → Bool → RoleThreads
one_more role has_thread = record {
  workers = min (role.workers + 1) 4294967295;
  threads = if has_thread then min (role.threads + 1) 4294967295 else role.threads;
}

-- the counts with one worker more of this role; one with `All` counts for the owner
abbrev pub counted : ThreadCounts → Role → Bool → ThreadCounts
counted counts Till has_thread = record { tills = one_more counts.tills has_thread; dispensers = counts.dispensers; owner = counts.owner }
counted counts (OneTill till stray) has_thread = record { tills = one_more counts.tills has_thread; dispensers = counts.dispensers; owner = counts.owner }
counted counts Dispenser has_thread = record { tills = counts.tills; dispensers = one_more counts.dispensers has_thread; owner = counts.owner }
counted counts (SomePoints points stray) has_thread = record { tills = counts.tills; dispensers = one_more counts.dispensers has_thread; owner = counts.owner }
counted counts Owner has_thread = record { tills = counts.tills; dispensers = counts.dispensers; owner = one_more counts.owner has_thread }
counted counts DaysOwner has_thread = record { tills = counts.tills; dispensers = counts.dispensers; owner = one_more counts.owner has_thread }
counted counts All has_thread = record { tills = counts.tills; dispensers = counts.dispensers; owner = one_more counts.owner has_thread }

abbrev pub plus : RoleThreads → RoleThreads → RoleThreads
plus role other = record { workers = min (role.workers + other.workers) 4294967295; threads = min (role.threads + other.threads) 4294967295 }

abbrev pub all_roles : ThreadCounts → RoleThreads
all_roles counts = plus (plus counts.tills counts.dispensers) counts.owner

-- the role has workers, and none of them has a thread
abbrev pub is_unserved : RoleThreads → Bool
is_unserved role = nat_lt 0 role.workers && (role.threads == 0)

-- each role that has workers has one with a thread
abbrev pub serves_each_role : ThreadCounts → Bool
serves_each_role counts = not (is_unserved counts.tills) && (not (is_unserved counts.dispensers) && not (is_unserved counts.owner))
