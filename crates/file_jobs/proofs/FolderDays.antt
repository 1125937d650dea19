-- The days of a folder that are left once the next one was given.
use Rattle.std.proofs.Common.{◌≡◌, ℕ, ◌+◌, ◌-◌, suc, nat_lt, true, false, if◌then◌else◌, List, ◌∷◌, Option, Some, None, Result, Ok, Err, option_map, arith, refl, sym, ◌∙◌, ap, subst, ⊎_elim, rules}
use Rattle.std.proofs.lemmas.Bool.{cases_Bool, ltb-true, ltb-false}
use Rattle.site_core.specs.Limits.{ConfigValue}
use Rattle.site_config.specs.declared.fault.ConfigFault.{ConfigFault}
use Rattle.days.specs.Chain.{DayText}
use Rattle.days.specs.Given.{IsGiven}
use Rattle.days.specs.declared.day.DayIn.{DayIn}
use Rattle.file_jobs.specs.Days.{FolderText, IsConfigOf, day_after}
use Rattle.file_jobs.specs.Chained.{day_in, day_with, days_from, days_left}

pub given_day : {J S : Type 0} (remaining : J → Option (List ℕ)) (given : ConfigValue) (own : Option (Result ConfigValue ConfigFault)) (opening journal : Option (List ℕ))
    (day : DayIn J S) → IsConfigOf given own day.config → option_map (λ bytes. bytes.items) day.opening ≡ opening
    → option_map remaining day.journal ≡ option_map (λ text. Some text) journal → IsGiven remaining (day_with given own opening journal) day
given_day remaining given None opening journal day config opens journals = record { config = config; opening = opens; journal = journals }
given_day remaining given (Some (Ok own)) opening journal day config opens journals = record { config = search rules; opening = opens; journal = journals }
given_day remaining given (Some (Err fault)) opening journal day config opens journals = search rules

one_less : (day newest : ℕ) → nat_lt day newest ≡ true → suc (newest - (day + 1)) ≡ newest - day
one_less day newest lt = omega (arith, ltb-true day newest lt)

none_left : (day newest : ℕ) → nat_lt day newest ≡ false → 0 ≡ newest - day
none_left day newest le = omega (arith, ltb-false day newest le)

rest_is : (texts : FolderText) (given : ConfigValue) (day newest : ℕ) → days_left texts given (day_after day newest) newest ≡ days_from texts given (day + 1) (newest - day)
rest_is texts given day newest = ⊎_elim
    (λ lt. ap (λ b. days_left texts given (if b then Some (day + 1) else None) newest) lt ∙ ap (days_from texts given (day + 1)) (one_less day newest lt))
    (λ le. ap (λ b. days_left texts given (if b then Some (day + 1) else None) newest) le ∙ ap (days_from texts given (day + 1)) (none_left day newest le))
    (cases_Bool (nat_lt day newest))

first_of : {J S : Type 0} (remaining : J → Option (List ℕ)) (files : Option FolderText) (given : ConfigValue) (number newest : ℕ) (day : DayIn J S) (days : List DayText)
    → option_map (λ texts. days_left texts given (Some number) newest) files ≡ Some days
    → ((texts : FolderText) → files ≡ Some texts → IsGiven remaining (day_in texts given number) day)
    → (first : DayText) × (rest : List DayText) × (days ≡ first ∷ rest)
    × (option_map (λ texts. days_left texts given (day_after number newest) newest) files ≡ Some rest) × IsGiven remaining first day
first_of remaining None given number newest day days known gave = search rules
first_of remaining (Some texts) given number newest day days known gave = (
  day_in texts given number,
  days_from texts given (number + 1) (newest - number),
  search rules,
  ap (λ ds. Some ds) (rest_is texts given number newest),
  gave texts refl,
)

pub gives_first : {J S : Type 0} (remaining : J → Option (List ℕ)) (files : Option FolderText) (given : ConfigValue) (number newest : ℕ) (now next : Option ℕ)
    (day : DayIn J S) (days : List DayText) → now ≡ Some number → next ≡ day_after number newest
    → option_map (λ texts. days_left texts given now newest) files ≡ Some days
    → ((texts : FolderText) → files ≡ Some texts → IsGiven remaining (day_in texts given number) day)
    → (first : DayText) × (rest : List DayText) × (days ≡ first ∷ rest) × (option_map (λ texts. days_left texts given next newest) files ≡ Some rest)
    × IsGiven remaining first day
gives_first {J} {S} remaining files given number newest now next day days is next_is known gave =
    subst (λ n. (first : DayText) × (rest : List DayText) × (days ≡ first ∷ rest) × (option_map (λ texts. days_left texts given n newest) files ≡ Some rest)
    × IsGiven remaining first day) (sym next_is)
    (first_of remaining files given number newest day days (subst (λ n. option_map (λ texts. days_left texts given n newest) files ≡ Some days) is known) gave)
