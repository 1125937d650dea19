-- A day whose own configuration is refused is in no chain of days: no opening has the text that `day_with` takes it to
-- have.
use Rattle.std.proofs.Common.{◌≡◌, ℕ, ◌+◌, ◌-◌, ◌≤◌, zero, suc, nat_lt, [], Some, Err, unwrap_or, arith, ap, subst, sym, ◌∙◌, ⊎_elim, rules}
use Rattle.std.proofs.lemmas.Bool.{cases_Bool, ltb-true, ltb-false}
use Rattle.site_core.specs.Limits.{ConfigValue}
use Rattle.site_core.specs.Site.{SiteValue}
use Rattle.site_config.specs.declared.fault.ConfigFault.{ConfigFault}
use Rattle.days.specs.Chain.{BeginsBy, DayText, IsChain, IsDay}
use Rattle.days.specs.Text.{opening_text}
use Rattle.days.specs.declared.day.Chained.{Chained}
use Rattle.days.specs.declared.file.OpeningFile.{OpeningFile}
use Rattle.file_jobs.specs.declared.folder.Part.TheVariants as part
use Rattle.file_jobs.specs.declared.folder.Span.{Span}
use Rattle.file_jobs.specs.Chained.{AreLegal, NoConfigIsRefused, day_in, day_with, days_from, days_left}
use Rattle.file_jobs.specs.Days.{FolderText, file_of, own_config}

not_empty : (file : OpeningFile) → opening_text file ≡ [] → ⊥
not_empty file is = search rules

begins_not : (number : ℕ) (config begun : ConfigValue) → BeginsBy number config (Some []) begun → ⊥
begins_not number config begun b = not_empty b.0 b.3

is_no_day : (number : ℕ) (day : DayText) (site : SiteValue) → day.opening ≡ Some [] → IsDay number day site → ⊥
is_no_day number day site is it =
    begins_not number day.config site.config (subst (λ opening. BeginsBy number day.config opening site.config) is it.begins)

no_opening : (texts : FolderText) (given : ConfigValue) (day : ℕ) (fault : ConfigFault) → own_config (file_of texts day part.Config) ≡ Some (Err fault)
    → (day_in texts given day).opening ≡ Some []
no_opening texts given day fault is =
    ap (λ own. (day_with given own (file_of texts day part.Opening) (file_of texts day part.Journal)).opening) is

first_is_fit : (texts : FolderText) (given : ConfigValue) (first day : ℕ) (site : SiteValue) (fault : ConfigFault) → first ≡ day
    → IsDay first (day_in texts given first) site → own_config (file_of texts day part.Config) ≡ Some (Err fault) → ⊥
first_is_fit texts given first day site fault same it refused =
    is_no_day first (day_in texts given first) site
    (no_opening texts given first fault (subst (λ d. own_config (file_of texts d part.Config) ≡ Some (Err fault)) (sym same) refused)) it

none_refused : (texts : FolderText) (given : ConfigValue) (fault : ConfigFault) (count first day entries : ℕ)
    → IsChain first (days_from texts given first (suc count)) entries → first ≤ day → day ≤ first + count
    → own_config (file_of texts day part.Config) ≡ Some (Err fault) → ⊥
none_refused texts given fault zero first day entries chain from to refused =
    first_is_fit texts given first day chain.0 fault (omega (arith, from, to)) chain.1 refused
none_refused texts given fault (suc count) first day entries chain from to refused = ⊎_elim
    (λ lt. none_refused texts given fault count (first + 1) day chain.3.0 chain.3.1 (omega (arith, ltb-true first day lt)) (omega (arith, to)) refused)
    (λ le. first_is_fit texts given first day chain.0 fault (omega (arith, from, ltb-false first day le)) chain.1 refused)
    (cases_Bool (nat_lt first day))

pub legal_configs : (texts : FolderText) (given : ConfigValue) (chained : Chained) → AreLegal texts given chained → NoConfigIsRefused texts
legal_configs texts given chained legal = λ span day fault is from to refused.
    let same : legal.0 ≡ span = ap (λ found. unwrap_or found span) (sym legal.1 ∙ is) in
    let chain = subst (λ (s : Span). IsChain s.oldest (days_left texts given (Some s.oldest) s.newest) chained.entries) same legal.2 in
    none_refused texts given fault (span.newest - span.oldest) span.oldest day chained.entries chain from (omega (arith, from, to)) refused
