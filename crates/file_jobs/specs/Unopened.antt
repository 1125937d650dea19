-- Definitions: whether an opening explains the first difference between a journal, which was read without one, and the
-- site's own entries, and what is then said (source: this project).
use Rattle.std.specs.Prelude.{◌≡◌, ℕ, nat_lt, nat_le, ◌==◌, not, ◌&&◌, ◌||◌, Bool, true, false, IsTrue, if◌then◌else◌, List, ◌++◌, codes, Option, Some, None}
use Rattle.till_request.specs.declared.act.Reply.{Reply}
use Rattle.till_request.specs.declared.act.Reply.TheVariants as reply
use Rattle.site_core.specs.declared.differing.Difference.{Difference}
use Rattle.site_core.specs.declared.differing.Difference.TheVariants as part
use Rattle.site_core.specs.declared.flaw.EntryFlaw.{EntryFlaw}
use Rattle.site_core.specs.declared.flaw.EntryFlaw.TheVariants as entry
use Rattle.site_core.specs.Words.{difference_text}
use Rattle.file_jobs.specs.declared.job_error.JobError.{JobError}
use Rattle.file_jobs.specs.JobErrors.{Says, after_colon, numbered_words}
use Rattle.file_jobs.specs.StandardInput.{name_of}
use Rattle.file_jobs.specs.Told.{SaysEntry}

-- The refusals that depend on what a day begins with: a point's state (S22), a slot's program (S23), transactions (S26
-- to S28), a pending order (S33), and what the point does (S34).
abbrev pub depends_on_opening : ℕ → Bool
depends_on_opening number =
    (number == 22 || number == 23) || ((nat_le 26 number && nat_le number 28) || (number == 33 || number == 34))

abbrev pub is_refused_by_opening : Reply → Bool
is_refused_by_opening (reply.Refused number part) = depends_on_opening number
is_refused_by_opening answer = false

-- The refusals that depend on the configuration and the request alone: no such point, till or slot (S20, S21, S32), or a
-- number out of range (S25).
abbrev pub is_refused_for_all_days : Reply → Bool
is_refused_for_all_days (reply.Refused number part) = (number == 20 || number == 21) || (number == 25 || number == 32)
is_refused_for_all_days answer = false

-- the version that a reply names: the one that was loaded, that granted, or that denied (S24)
abbrev pub version_named : Reply → Option ℕ
version_named (reply.Version n) = Some n
version_named (reply.Granted value n) = Some n
version_named (reply.Refused number part) = if number == 24 then part else None
version_named answer = None

abbrev pub is_later : Option ℕ → Option ℕ → Bool
is_later (Some m) (Some n) = nat_lt n m
is_later m n = false

abbrev pub shows_point : Reply → Bool
shows_point (reply.Point state nozzle unpaid amount volume limit preset) = true
shows_point answer = false

-- One of the replies is a refusal that depends on what a day begins with, or both name a version and the journal's has
-- the greater number, or both show a point.
abbrev pub are_of_another_day : Reply → Reply → Bool
are_of_another_day journal site =
    (is_refused_by_opening journal || is_refused_by_opening site)
    || (is_later (version_named journal) (version_named site) || (shows_point journal && shows_point site))

-- An opening may explain that the journal and the site reply so.
abbrev pub are_explained : Reply → Reply → Bool
are_explained journal site =
    not (is_refused_for_all_days journal || is_refused_for_all_days site) && are_of_another_day journal site

-- An opening may explain a difference of such replies. Where the replies are the same, it explains no other difference.
abbrev pub opening_explains : Difference → Bool
opening_explains (part.Reply journal site) = are_explained journal site
opening_explains difference = false

-- the text for such a difference
abbrev pub unopened_text : Difference → List ℕ
unopened_text difference = difference_text difference ++ codes "; a later day is read with --opening"

-- the words of a message about a line of the file that an argument names
abbrev pub words_at_line : List ℕ → ℕ → List ℕ → List ℕ
words_at_line word line words = (name_of word ++ (after_colon (Some line) ++ after_colon None)) ++ (codes ": " ++ words)

-- A journal was read without an opening, and has this flaw. If an opening explains it, the message says so, else it says
-- what it says of any journal.
abbrev pub SaysUnopened : List ℕ → EntryFlaw → JobError → Type 0
SaysUnopened word (entry.Entry place difference) error =
    (IsTrue (opening_explains difference) → Says (words_at_line word place (numbered_words (unopened_text difference) (codes "F3"))) error)
    × (opening_explains difference ≡ false → SaysEntry word (entry.Entry place difference) error)
SaysUnopened word flaw error = SaysEntry word flaw error
