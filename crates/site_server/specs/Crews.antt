-- Definitions: the workers of a site, their roles, listeners and bounds, and whether they can be asked to stop (source: this project). The worker
-- at place k, counted from 0, has the pass with the number k + 1.
use Rattle.std.specs.Prelude.{ℕ, Bool, ◌<◌, ◌≤◌, ◌++◌, List, [], ◌∷◌, is_some, map, replicate}
use Rattle.std.specs.Arc.{arc_value}
use Rattle.till_request.specs.declared.act.Role.{Role}
use Rattle.site_server.specs.declared.crew.OpenDoor.{OpenDoor}
use Rattle.site_server.specs.declared.crew.Worker.{Worker}
use Rattle.site_server.specs.declared.listener.Listener.{Listener}
use Rattle.site_server.specs.declared.shared_door.SharedDoor.{SharedDoor}

-- a crew can have this number of workers: 1 to 96
abbrev pub IsCrew : ℕ → Type 0
IsCrew workers = (0 < workers) × (workers ≤ 96)

-- the role of each worker: whose lines it takes
abbrev pub roles_of : List Worker → List Role
roles_of workers = map (λ (w : Worker). w.role) workers

-- a worker's post: its role, the listener where its connections come in, how many lines a second are read there, and
-- whether the worker can be asked to stop
abbrev pub Post : Type 0
Post = Role × Listener × ℕ × Bool

-- the post of a worker with this role at this door
abbrev pub post_at : Role → SharedDoor → Post
post_at role door = (role, door.listener, door.lines_per_second, is_some door.stop)

-- the post of each worker
abbrev pub posts_of : List Worker → List Post
posts_of workers = map (λ (w : Worker). post_at w.role (arc_value w.door)) workers

-- one post for each worker of the door: the door's role, listener and bound, and whether there is a stop
abbrev pub posts_at : Bool → OpenDoor → List Post
posts_at may_stop door = replicate door.workers (door.role, door.listener, door.lines_per_second, may_stop)

-- one post for each worker of these doors, in the order of the doors
abbrev pub all_posts : Bool → List OpenDoor → List Post
all_posts may_stop [] = []
all_posts may_stop (door ∷ doors) = posts_at may_stop door ++ all_posts may_stop doors
