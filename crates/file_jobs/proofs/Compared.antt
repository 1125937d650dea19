-- Whether the opening that a folder has for a day fits a configuration follows from the opening that was read of the
-- file, since no other opening has this text.
use Rattle.std.proofs.Common.{◌≡◌, ◌≢◌, ℕ, List, [], Option, Some, None, Ok, MatchOption, option_map, unwrap_or, ap, sym, subst}
use Rattle.site_core.specs.Limits.{ConfigValue}
use Rattle.days.specs.Breaks.{IsUnbegun}
use Rattle.days.specs.File.{IsOpeningFile}
use Rattle.days.specs.Fitting.{Fits}
use Rattle.days.specs.Flaws.{IsOnly}
use Rattle.days.specs.Misfits.{Misfits}
use Rattle.days.specs.Ranges.{FileFits}
use Rattle.days.specs.Text.{opening_text}
use Rattle.days.specs.declared.beginning.Unfit.TheVariants as unfit
use Rattle.days.specs.declared.chain_fault.Unbegun.TheVariants as unbegun
use Rattle.days.specs.declared.file.OpeningFile.{OpeningFile}
use Rattle.days.specs.declared.fitting.Misfit.{Misfit}
use Rattle.days.proofs.Unfitting.{misfit_none}
use Rattle.file_jobs.specs.declared.folder.Part.TheVariants as part
use Rattle.file_jobs.specs.declared.newest.Taken.{Taken}
use Rattle.file_jobs.specs.Days.{FolderText, IsConfigOf, IsUnfitting, Takes, file_of, kept_config, own_config}

-- the file is an opening of this day, not of day 1, that doesn't fit `config`
abbrev pub Unfits : ConfigValue → ℕ → Option (List ℕ) → Type 0
Unfits config day file = (day ≢ 1) × ((misfit : Misfit) × IsUnbegun day config file (unbegun.Unfit (unfit.Misfit misfit)))

of_file : (config : ConfigValue) (day : ℕ) (text : List ℕ) (file : OpeningFile) (misfit : Misfit) → IsOnly text file
    → IsUnbegun day config (Some text) (unbegun.Unfit (unfit.Misfit misfit)) → Misfits config file.opening misfit
of_file config day text file misfit only is =
    subst (λ (f : OpeningFile). Misfits config f.opening misfit)
    (only is.0 is.1.good is.1.fits (sym (ap (λ t. unwrap_or t []) is.1.text_is))) is.3

pub compared : (config : ConfigValue) (day : ℕ) (text : List ℕ) (file : OpeningFile) (found : Option Misfit) → day ≢ 1
    → IsOpeningFile file → FileFits file → opening_text file ≡ text → IsOnly text file → file.day ≡ day
    → MatchOption found (Fits config file.opening) (Misfits config file.opening)
    → MatchOption found (¬ Unfits config day (Some text)) (λ _. Unfits config day (Some text))
compared config day text file None later good ranges is only same fits =
    λ un. misfit_none config file.opening un.1.0 (of_file config day text file un.1.0 only un.1.1) fits
compared config day text file (Some why) later good ranges is only same misfit = (
  later,
  (why, (file, record { good = good; fits = ranges; text_is = ap (λ t. Some t) (sym is) }, same, misfit)),
)

-- a day takes `given`, since the folder's configuration for the day fits no better
pub takes_given : (texts : FolderText) (given : ConfigValue) (day : ℕ) (taken : Taken) → kept_config texts day ≡ None → taken.config ≡ given
    → taken.own ≡ None
    → (IsUnfitting texts given day → (other : ConfigValue) → own_config (file_of texts day part.Config) ≡ Some (Ok other) → IsUnfitting texts other day)
    → Takes texts given day (option_map (λ v. v.items) taken.own) taken.config
takes_given texts given day taken none is own why =
    subst (λ (o : Option (List ℕ)). Takes texts given day o taken.config) (sym (ap (option_map (λ v. v.items)) own))
    (subst (λ k. IsConfigOf given k taken.config) (sym none) is, λ kept. why)
