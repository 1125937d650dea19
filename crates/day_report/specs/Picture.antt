-- Definitions: how the picture of a day divides its history into steps, and what each step shows (source: this
-- project). The picture is made from a mark of each entry. Its axis is time or the entries, divided into equal steps.
-- For each point, a step shows the state with the greatest `state_number` among the states that the point has before
-- the step's entries and after each of these entries.
use Rattle.std.specs.Prelude.{◌≡◌, ◌<◌, ◌++◌, replicate, slice_index, ℕ, ◌+◌, ◌-◌, ◌*◌, ◌/◌, ◌==◌, ◌&&◌, nat_le, nat_lt, min, if◌then◌else◌, List, [], ◌∷◌, length, Option, Some, None, Bool, true, false}
use Rattle.std.specs.Prelude.{fold, map, option_map, take, drop, slice_index_or, slice_set}
use Rattle.fuelling_point.specs.declared.kinds.State.{State}
use Rattle.fuelling_point.specs.States.{state_number}
use Rattle.fuelling_point.specs.Table.{PointState}
use Rattle.site_core.specs.Limits.{ConfigValue}
use Rattle.site_core.specs.State.{opening_state}
use Rattle.site_core.specs.Steps.{StepValue}
use Rattle.day_report.specs.declared.steps.Axis.{Axis}
use Rattle.day_report.specs.declared.steps.Axis.TheVariants as axis
use Rattle.day_report.specs.declared.steps.Mark.{Mark}

-- The mark of an entry: its moment, and the number of the point that its act names with the point's state after the
-- entry. `touched` is None if there is no such point.
abbrev pub mark_of : StepValue → Mark
mark_of step = record {
  moment = step.entry.moment;
  touched = option_map (λ (p : PointState). (step.change.point, p.state)) step.change.after;
}

-- The step, counted from 0, that `at` belongs to if the numbers below `most` are divided into `steps` equal steps:
-- - It is step 0 if `most` is 0.
-- - Otherwise it is `steps`, which is after the last step, if `at` isn't below `most`.
-- - Otherwise it is step `at * steps / most`, rounded down.
abbrev pub step_of : ℕ → ℕ → ℕ → ℕ
step_of at most steps = if most == 0 then 0 else min (at * steps / most) steps

-- How many steps a picture has along this axis: one for each entry, or one for each second that passes from the first
-- moment to the last, but at most 2,000.
abbrev pub steps_along : Axis → ℕ
steps_along (axis.Entries count) = min count 2000
steps_along (axis.Time first last) = min (last - first) 2000

-- The step of an entry with this place and this moment, if the axis has this many steps. Steps and places are counted
-- from 0.
-- - If the axis is the entries, the place decides.
-- - If the axis is time, the moment decides: the seconds from the axis's first moment to its last, both included, are
--   divided into the steps. The step is None if the entry has no moment.
abbrev pub step_at : Axis → ℕ → ℕ → ℕ → Option ℕ
step_at (axis.Entries count) place moment steps = Some (step_of place count steps)
step_at (axis.Time first last) place moment steps =
    if moment == 0 then None else Some (step_of (moment - first) (last - first + 1) steps)

-- The moments that the entries have, in their order. An entry whose moment is 0 has none.
abbrev pub moments_in : List Mark → List ℕ
moments_in [] = []
moments_in (m ∷ marks) = if m.moment == 0 then moments_in marks else m.moment ∷ moments_in marks

-- Whether the numbers never decrease, and the first of them is at least n.
abbrev pub never_fall : ℕ → List ℕ → Bool
never_fall n [] = true
never_fall n (m ∷ numbers) = nat_le n m && never_fall m numbers

-- the first of the numbers; 0 if there is none
abbrev pub first_in : List ℕ → ℕ
first_in [] = 0
first_in (m ∷ numbers) = m

-- the last of the numbers; n if there is none
abbrev pub last_in : ℕ → List ℕ → ℕ
last_in n [] = n
last_in n (m ∷ numbers) = last_in m numbers

-- The axis of a history of `count` entries: time, if its moments never decrease (`steady` is true) and its last moment
-- is at least ten minutes after its first; else the entries.
abbrev pub axis_by : ℕ → Bool → ℕ → ℕ → Axis
axis_by count steady first last =
    if steady && nat_le 600 (last - first) then axis.Time first last else axis.Entries count

unfoldable pub axis_of : List Mark → Axis
axis_of marks = axis_by (length marks) (never_fall 0 (moments_in marks)) (first_in (moments_in marks)) (last_in 0 (moments_in marks))

-- Whether the step of an entry is after step k; false if the entry has no step.
abbrev pub is_behind : ℕ → Option ℕ → Bool
is_behind k None = false
is_behind k (Some step) = nat_lt k step

-- Where step k ends: the place of the first entry that belongs to a later step, or the place after the last entry if
-- there is none. `place` is the place of the entry with the list's first mark.
abbrev pub cut_from : Axis → ℕ → ℕ → ℕ → List Mark → ℕ
cut_from axis steps k place [] = place
cut_from axis steps k place (m ∷ marks) =
    if is_behind k (step_at axis place m.moment steps) then place else cut_from axis steps k (place + 1) marks

-- `step_ends` has the end of each step: the place of the first entry that belongs to a later step, or the number of
-- entries if there is none.
pub record AreStepEnds (axis : Axis) (steps : ℕ) (marks : List Mark) (step_ends : List ℕ) : Type 0 where
  pub long : length step_ends ≡ steps
  pub each : (k : ℕ) → k < steps → slice_index step_ends k ≡ cut_from axis steps k 0 marks

-- The states of the points after an entry that touched this point and left it in this state. None touches no point.
abbrev pub put_state : List State → Option (ℕ × State) → List State
put_state states None = states
put_state states (Some (n, state)) = if nat_le 1 n then slice_set states (n - 1) state else states

-- The list `states` with the state of point n replaced by `state`, if `state` has the greater `state_number` of the
-- two. If there is no point n, the list stays the same.
abbrev pub raised : List State → ℕ → State → List State
raised states n state =
    if nat_le 1 n && nat_le n (length states) && nat_lt (state_number (slice_index_or states (n - 1) state)) (state_number state)
    then slice_set states (n - 1) state else states

-- The states that a step shows after an entry that touched this point and left it in this state, if it showed `states`
-- before the entry.
abbrev pub with_touched : List State → Option (ℕ × State) → List State
with_touched states None = states
with_touched states (Some (n, state)) = raised states n state

-- The state that a step shows for each point: the one with the greatest `state_number` among the states that the point
-- has before the step's entries and after each of these entries. `states` are the states before the entries.
abbrev pub step_shows : List State → List Mark → List State
step_shows states marks = fold (λ shown (m : Mark). with_touched shown m.touched) states marks

-- The states of the points after some entries. `states` are their states before.
abbrev pub states_after : List State → List Mark → List State
states_after states marks = fold (λ now (m : Mark). put_state now m.touched) states marks

-- The marks from place `from` to before place `to`.
abbrev pub marks_between : List Mark → ℕ → ℕ → List Mark
marks_between marks from to = take (to - from) (drop from marks)

-- The states that some steps show, step after step. The last argument has the places in `marks` where these steps end.
-- The first step begins at place `from`. `states` are the states of the points before all entries.
abbrev pub steps_show : List State → List Mark → ℕ → List ℕ → List State
steps_show states marks from [] = []
steps_show states marks from (cut ∷ step_ends) =
    step_shows (states_after states (take from marks)) (marks_between marks from cut) ++ steps_show states marks cut step_ends

-- `shown` is what a picture of entries with these marks shows along the axis: first the states of all points in step 0,
-- then those in step 1, and so on. `states` are the states of the points before the entries.
pub record Shows (axis : Axis) (states : List State) (marks : List Mark) (shown : List State) : Type 0 where
  pub step_ends : List ℕ
  pub divided : AreStepEnds axis (steps_along axis) marks step_ends
  pub shown_is : shown ≡ steps_show states marks 0 step_ends

-- The states of the points of a site of this configuration before its first entry.
abbrev pub opening_states : ConfigValue → List State
opening_states config = map (λ (p : PointState). p.state) (opening_state config).points

-- ---- The contracts of private functions use these definitions.

-- `first`, or `moment` if `first` is 0; a `first` of 0 means that there is no first moment yet
abbrev pub first_or : ℕ → ℕ → ℕ
first_or first moment = if first == 0 then moment else first

-- The list `step_ends`, with `place` appended until the list has an end for each step before `step`. Without a step it
-- stays the same.
abbrev pub with_cut : List ℕ → Option ℕ → ℕ → List ℕ
with_cut step_ends None place = step_ends
with_cut step_ends (Some step) place = step_ends ++ replicate (step - length step_ends) place
