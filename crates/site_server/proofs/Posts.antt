-- If a door is appended to a list of doors, its posts come after the
-- posts at the other doors.
use Rattle.std.proofs.Common.{◌≡◌, ◌++◌, Bool, List, [], ◌∷◌, sym, ◌∙◌, ap}
use Rattle.std.proofs.lemmas.List.{append_assoc, append-nil}
use Rattle.site_server.specs.declared.crew.OpenDoor.{OpenDoor}
use Rattle.site_server.specs.Crews.{Post, all_posts, posts_at}

pub door_more : (may_stop : Bool) (doors : List OpenDoor) (door : OpenDoor)
    → all_posts may_stop (doors ++ door ∷ []) ≡ all_posts may_stop doors ++ posts_at may_stop door
door_more may_stop [] door = append-nil (posts_at may_stop door)
door_more may_stop (first ∷ doors) door =
    ap (λ (l : List Post). posts_at may_stop first ++ l) (door_more may_stop doors door)
    ∙ sym (append_assoc (posts_at may_stop first) (all_posts may_stop doors) (posts_at may_stop door))
