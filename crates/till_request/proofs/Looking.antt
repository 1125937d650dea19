-- A line that looks is no act's line, and words that are too few or too many ask for nothing.
use Rattle.std.proofs.Common.{◌≡◌, ◌<◌, ℕ, List, [], ◌∷◌, Bool, true, false, Bor, None, Result, Ok, Err, length, drop, map, find, codes, refl, sym, ◌∙◌, ◌&&◌, ap, subst, arith, nat_lt}
use Rattle.std.specs.Prelude.{◌↔◌, if◌then◌else◌, is_some}
use Rattle.std.proofs.lemmas.Bool.{and_parts}
use Rattle.std.proofs.lemmas.Slice.Eq.{bytes_eq-Decides}
use Rattle.bpf_model.specs.declared.context.Layout.TheVariants as layouts
use Rattle.till_request.specs.declared.act.Act.{Act}
use Rattle.till_request.specs.declared.act.Role.{Role}
use Rattle.till_request.specs.declared.act.Role.TheVariants as roles
use Rattle.till_request.specs.declared.act.LineFault.{LineFault}
use Rattle.till_request.specs.declared.act.LineFault.TheVariants.{TooLong, BadLine, OtherDoor}
use Rattle.till_request.specs.declared.form.Form.{Form}
use Rattle.till_request.specs.declared.form.Form.TheVariants as forms
use Rattle.till_request.specs.declared.look.LookAt.{LookAt}
use Rattle.till_request.specs.declared.look.Asked.{Asked}
use Rattle.till_request.specs.declared.look.Asked.TheVariants as asks
use Rattle.till_request.specs.Grammar.{◌>>=◌, act_by, act_of_words, act_within_role, all_forms, allows, fits, sender, suits, template, words}
use Rattle.till_request.specs.Looks.{AsksForActs, asked_or_told, ends_day, fault_told, has_some_form, is_look, is_some_look, look_asked, look_of_words, look_within}
use Rattle.till_request.specs.Looks.{tells_stray, words_answered, words_asked}
use Rattle.till_request.proofs.Fitting.{between, find_none, fits_count, not_true}

-- `look` alone, or no word, asks for nothing
pub too_few : (ws : List (Bor (List ℕ))) → length ws < 2 → Err BadLine ≡ look_asked (drop 1 (map (λ w. w.now) ws))
too_few [] l = refl
too_few (a ∷ []) l = refl
too_few (a ∷ b ∷ ws) l = absurd (omega (arith, l))

within_fault : (role : Role) → act_within_role role (Err BadLine) ≡ Err BadLine
within_fault roles.Till = refl
within_fault roles.Dispenser = refl
within_fault roles.Owner = refl
within_fault roles.DaysOwner = refl
within_fault roles.All = refl
within_fault (roles.OneTill number stray) = refl
within_fault (roles.SomePoints points stray) = refl

-- words that have no form are a bad line
no_form : (role : Role) (ws : List (List ℕ)) → ((form : Form) → fits (template form) ws ≡ true → ⊥) → act_of_words role ws ≡ Err BadLine
no_form role ws h =
    let none : find (suits role ws) all_forms ≡ None =
    find_none (suits role ws) all_forms
    (λ form. not_true (suits role ws form) (λ suited. h form (and_parts (allows role (sender form)) (fits (template form) ws) suited).1)) in
    ap (λ found. act_within_role role (act_by found ws)) none ∙ within_fault role

act_too_long : (role : Role) (ws : List (List ℕ)) → 5 < length ws → act_of_words role ws ≡ Err BadLine
act_too_long role ws l =
    no_form role ws (λ form fit. omega (arith, l, fits_count (template form) ws fit, between form))

look_too_long : (role : Role) (ws : List (List ℕ)) → 5 < length ws → look_of_words role ws ≡ Err BadLine
look_too_long role (a ∷ b ∷ c ∷ d ∷ ws) l = refl
look_too_long role ws l = absurd (omega (arith, l))

no_end : (role : Role) (ws : List (List ℕ)) → 5 < length ws → ends_day role ws ≡ false
no_end roles.DaysOwner (a ∷ b ∷ ws) l = refl
no_end roles.DaysOwner (a ∷ []) l = absurd (omega (arith, l))
no_end roles.DaysOwner [] l = refl
no_end roles.Till ws l = refl
no_end roles.Dispenser ws l = refl
no_end roles.Owner ws l = refl
no_end roles.All ws l = refl
no_end (roles.OneTill number stray) ws l = refl
no_end (roles.SomePoints points stray) ws l = refl

asks_nothing : (role : Role) (ws : List (List ℕ)) → 5 < length ws → words_asked role ws ≡ Err BadLine
asks_nothing role ws l = by_first (is_look ws) (ends_day role ws) _ (look_too_long role ws l) (no_end role ws l) (act_too_long role ws l)
  where
    by_first : (first ends : Bool) (look : Result Asked LineFault) → look ≡ Err BadLine → ends ≡ false → act_of_words role ws ≡ Err BadLine
        → (if first then look else if ends then Ok asks.NextDay else (act_of_words role ws >>= (λ act. Ok (asks.Act act)))) ≡ Err BadLine
    by_first true ends look h e k = h
    by_first false true look h e k = absurd (cc)
    by_first false false look h e k = rw k refl

long_look : (ws : List (List ℕ)) → 5 < length ws → look_asked (drop 1 ws) ≡ Err BadLine
long_look (a ∷ b ∷ c ∷ d ∷ ws) l = refl
long_look ws l = absurd (omega (arith, l))

-- more than five words have no form, whoever may send them
long_form : (ws : List (List ℕ)) → 5 < length ws → has_some_form ws ≡ false
long_form ws l = by_first (is_look ws)
  where
    none : find (suits roles.All ws) all_forms ≡ None
    none = find_none (suits roles.All ws) all_forms (λ form. not_true (suits roles.All ws form) (λ suited.
        let fit : fits (template form) ws ≡ true = (and_parts (allows roles.All (sender form)) (fits (template form) ws) suited).1 in
        omega (arith, l, fits_count (template form) ws fit, between form)))

    by_first : (first : Bool) → (if first then is_some_look (look_asked (drop 1 ws)) else is_some (find (suits roles.All ws) all_forms)) ≡ false
    by_first true = ap is_some_look (long_look ws l)
    by_first false = ap is_some none

no_stray : (tells form : Bool) → form ≡ false → (if tells && form then OtherDoor else BadLine) ≡ BadLine
no_stray true form h = rw h refl
no_stray false form h = refl

-- more than five words ask for nothing, and aren't of another door
pub too_many : (role : Role) (ws : List (List ℕ)) → 5 < length ws → words_answered role ws ≡ Err BadLine
too_many role ws l = rw (asks_nothing role ws l) (ap Err (no_stray (tells_stray role) (has_some_form ws) (long_form ws l)))

-- no form has the first word `look`
starts_otherwise : (form : Form) (ws : List (List ℕ)) → fits (template form) (codes "look" ∷ ws) ≡ false
starts_otherwise (forms.Amount verb) ws = refl
starts_otherwise (forms.Point verb) ws = refl
starts_otherwise (forms.Transaction verb) ws = refl
starts_otherwise (forms.Report verb) ws = refl
starts_otherwise forms.Up ws = refl
starts_otherwise forms.Flow ws = refl
starts_otherwise (forms.Load layouts.One) ws = refl
starts_otherwise (forms.Load layouts.Two) ws = refl

look_is_no_form : (form : Form) (ws : List (List ℕ)) → is_look ws ≡ true → fits (template form) ws ≡ true → ⊥
look_is_no_form form [] h fit = absurd (cc)
look_is_no_form form (w ∷ ws) h fit =
    let first : w ≡ codes "look" = (bytes_eq-Decides w (codes "look")).0 h in
    let other : fits (template form) (w ∷ ws) ≡ false = subst (λ v. fits (template form) (v ∷ ws) ≡ false) (sym first) (starts_otherwise form ws) in
    let both : true ≡ false = sym fit ∙ other in absurd (cc)

-- no form is the word `day`
is_no_day : (form : Form) → fits (template form) (codes "day" ∷ []) ≡ false
is_no_day (forms.Amount verb) = refl
is_no_day (forms.Point verb) = refl
is_no_day (forms.Transaction verb) = refl
is_no_day (forms.Report verb) = refl
is_no_day forms.Up = refl
is_no_day forms.Flow = refl
is_no_day (forms.Load layouts.One) = refl
is_no_day (forms.Load layouts.Two) = refl

day_is_no_form : (role : Role) (ws : List (List ℕ)) → ends_day role ws ≡ true → act_of_words role ws ≡ Err BadLine
day_is_no_form roles.DaysOwner (w ∷ []) h = no_form roles.DaysOwner (w ∷ []) (λ form fit.
    let word : w ≡ codes "day" = (bytes_eq-Decides w (codes "day")).0 h in
    let other : fits (template form) (w ∷ []) ≡ false = subst (λ v. fits (template form) (v ∷ []) ≡ false) (sym word) (is_no_day form) in
    let both : true ≡ false = sym fit ∙ other in absurd (cc))
day_is_no_form roles.DaysOwner [] h = absurd (cc)
day_is_no_form roles.DaysOwner (a ∷ b ∷ ws) h = absurd (cc)
day_is_no_form roles.Till ws h = absurd (cc)
day_is_no_form roles.Dispenser ws h = absurd (cc)
day_is_no_form roles.Owner ws h = absurd (cc)
day_is_no_form roles.All ws h = absurd (cc)
day_is_no_form (roles.OneTill number stray) ws h = absurd (cc)
day_is_no_form (roles.SomePoints points stray) ws h = absurd (cc)

-- a look asks for no act
sees_no_act : (look : Result LookAt LineFault) (may : LookAt → Bool) (act : Act) → (look >>= (λ at. if may at then Ok (asks.Look at) else Err BadLine)) ≡ Ok (asks.Act act)
    → ⊥
sees_no_act (Err fault) may act h = absurd (cc)
sees_no_act (Ok at) may act h = by_test (may at) h
  where
    by_test : (b : Bool) → (if b then Ok (asks.Look at) else Err BadLine) ≡ Ok (asks.Act act) → ⊥
    by_test true e = absurd (cc)
    by_test false e = absurd (cc)

asks_for : (look ends : Bool) (seen : Result Asked LineFault) (read : Result Act LineFault) (act : Act) → (seen ≡ Ok (asks.Act act) → ⊥) → (look ≡ true → read ≡ Err BadLine)
    → (ends ≡ true → read ≡ Err BadLine)
    → (if look then seen else if ends then Ok asks.NextDay else (read >>= (λ a. Ok (asks.Act a)))) ≡ Ok (asks.Act act) ↔ read ≡ Ok act
asks_for true ends seen read act never bad none = (λ h. absurd (never h), λ h. let both : Err BadLine ≡ Ok act = sym (bad refl) ∙ h in absurd (cc))
asks_for false true seen read act never bad none = (λ h. absurd (cc), λ h. let both : Err BadLine ≡ Ok act = sym (none refl) ∙ h in absurd (cc))
asks_for false false seen (Ok a) act never bad none = (λ h. cc, λ h. cc)
asks_for false false seen (Err fault) act never bad none = (λ h. absurd (cc), λ h. absurd (cc))

told_acts : (told : LineFault → LineFault) (asked : Result Asked LineFault) (act : Act)
    → asked_or_told told asked ≡ Ok (asks.Act act) ↔ asked ≡ Ok (asks.Act act)
told_acts told (Ok asked) act = (λ h. h, λ h. h)
told_acts told (Err fault) act = (λ h. absurd (cc), λ h. absurd (cc))

pub asks_for_acts : AsksForActs
asks_for_acts role line act = by_length (nat_lt 8400 (length line))
  where
    asked : words_asked role (words line) ≡ Ok (asks.Act act) ↔ act_of_words role (words line) ≡ Ok act
    asked =
        asks_for (is_look (words line)) (ends_day role (words line)) (look_of_words role (words line)) (act_of_words role (words line)) act (sees_no_act (look_asked (drop 1 (words line))) (look_within role) act)
        (λ first. no_form role (words line) (λ form. look_is_no_form form (words line) first))
        (day_is_no_form role (words line))

    short : words_answered role (words line) ≡ Ok (asks.Act act) ↔ act_of_words role (words line) ≡ Ok act
    short =
        let told = told_acts (fault_told role (words line)) (words_asked role (words line)) act in
        (λ h. asked.0 (told.0 h), λ h. told.1 (asked.1 h))

    by_length : (long : Bool) → (if long then Err TooLong else words_answered role (words line)) ≡ Ok (asks.Act act) ↔ (if long then Err TooLong else act_of_words role (words line)) ≡ Ok act
    by_length true = (λ h. absurd (cc), λ h. absurd (cc))
    by_length false = short
