-- If the part of a file's name after its first `.` is the ending of a journal or an opening, then the name names the
-- day that the part before this `.` spells, if it spells one. Any other name names no day.
use Rattle.std.proofs.Common.{◌≡◌, ℕ, ◌+◌, List, [], length, true, false, None, ap, ◌∙◌, sym, arith, if◌then◌else◌}
use Rattle.std.proofs.lemmas.List.{drop_all}
use Rattle.std.specs.List.{before_first, after_first, position_or_len}
use Rattle.file_jobs.specs.Days.{day_named, day_of, shows_day, is_dot}

-- a name without `.` names no day
pub named-without : (name : List ℕ) → position_or_len is_dot name ≡ length name → day_named name ≡ None
unfolding day_named
named-without name is =
    let none : after_first is_dot name ≡ [] = drop_all (position_or_len is_dot name + 1) name (omega (arith, is)) in
    ap (λ ending. if shows_day ending then day_of (before_first is_dot name) else None) none

pub named-other : (name ending : List ℕ) → ending ≡ after_first is_dot name → shows_day ending ≡ false → day_named name ≡ None
unfolding day_named
named-other name ending is other =
    ap (λ e. if shows_day e then day_of (before_first is_dot name) else None) (sym is)
    ∙ ap (λ b. if b then day_of (before_first is_dot name) else None) other

pub named-by : (name digits ending : List ℕ) → digits ≡ before_first is_dot name → ending ≡ after_first is_dot name → shows_day ending ≡ true
    → day_named name ≡ day_of digits
unfolding day_named
named-by name digits ending before is shows =
    ap (λ e. if shows_day e then day_of (before_first is_dot name) else None) (sym is)
    ∙ ap (λ b. if b then day_of (before_first is_dot name) else None) shows
    ∙ ap day_of (sym before)
