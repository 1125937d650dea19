-- Words that are read as an act, unless it is a load, are the words of that act's spelling.
use Rattle.std.proofs.Common.{◌≡◌, ◌≤◌, ◌<◌, ◌^◌, ℕ, List, [], ◌∷◌, length, get_or, Bool, true, false, ◌&&◌, cond, nat_lt, Some, Result, Ok, Err}
use Rattle.std.proofs.Common.{refl, subst, arith, lit≤, find, codes}
use Rattle.std.specs.Fmt.{decimal}
use Rattle.std.specs.Str.{bytes_eq}
use Rattle.std.specs.Char.{is_ascii_digit}
use Rattle.std.specs.List.{list_all}
use Rattle.std.specs.Str.Parse.{digits_value}
use Rattle.std.proofs.lemmas.Fmt.{decimal-digits_value}
use Rattle.std.proofs.lemmas.Grind.{common_steps}
use Rattle.std.proofs.lemmas.Bool.{and_parts}
use Rattle.std.proofs.lemmas.Bool.Decides.{nat_tests}
use Rattle.std.proofs.lemmas.Slice.Eq.{bytes_eq-Decides}
use Rattle.hex.specs.Hex.{decode_of}
use Rattle.till_request.specs.declared.act.Act.{Act}
use Rattle.till_request.specs.declared.act.LineFault.{LineFault}
use Rattle.till_request.specs.declared.act.LineFault.TheVariants.{BadNumber}
use Rattle.till_request.specs.declared.act.Role.TheVariants as roles
use Rattle.till_request.specs.declared.form.Form.{Form}
use Rattle.till_request.specs.declared.form.Form.TheVariants as forms
use Rattle.till_request.specs.declared.form.AmountVerb.{AmountVerb}
use Rattle.till_request.specs.declared.form.AmountVerb.TheVariants as amounts
use Rattle.till_request.specs.declared.form.PointVerb.{PointVerb}
use Rattle.till_request.specs.declared.form.PointVerb.TheVariants as points
use Rattle.till_request.specs.declared.form.TransactionVerb.{TransactionVerb}
use Rattle.till_request.specs.declared.form.TransactionVerb.TheVariants as transactions
use Rattle.till_request.specs.declared.form.ReportVerb.{ReportVerb}
use Rattle.till_request.specs.declared.form.ReportVerb.TheVariants as reports
use Rattle.till_request.specs.declared.form.RequestByForm.TheVariants as request_forms
use Rattle.till_request.specs.Grammar.{number, is_decimal, has_no_leading_zero, text, template, fits, suits, is_some_word, act_in, act_by, all_forms, ◌>>=◌, bytes_from}
use Rattle.till_request.specs.Grammar.{amount_of, point_of, transaction_of, report_of, up_of, flow_of, load_of, by_form, amount_request}
use Rattle.till_request.specs.Grammar.{point_request, transaction_request, report_event}
use Rattle.till_request.specs.Spelling.{IsOneSpelling, IsNoLoad, spelled_words, event_words}
use Rattle.till_request.proofs.Numerals.{own}

leads : (w : List ℕ) → has_no_leading_zero w ≡ true → (0 < length w) × (get_or w 0 0 ≡ 48 → length w ≡ 1)
leads [] h = absurd (cc)
leads (x ∷ w) h = (omega arith, grind (arith, nat_tests, common_steps))

-- if a word is read as a number below 2^64, it is that number's decimal text
pub one_numeral : (k n : ℕ) (w : List ℕ) → 2 ^ k ≤ 2 ^ 64 → number k w ≡ Ok n → decimal n ≡ w
one_numeral k n w wide h = by_test (is_decimal w && nat_lt (digits_value 10 w) (2 ^ k)) refl h
  where
    by_test : (b : Bool) → (is_decimal w && nat_lt (digits_value 10 w) (2 ^ k)) ≡ b
        → cond b (Ok (digits_value 10 w)) (Err BadNumber) ≡ Ok n → decimal n ≡ w
    by_test false e h = absurd (cc)
    by_test true e h =
        let plain = and_parts (is_decimal w) (nat_lt (digits_value 10 w) (2 ^ k)) e in
        let digits = and_parts (list_all is_ascii_digit w) (has_no_leading_zero w) plain.0 in
        let lead = leads w digits.1 in
        let value : digits_value 10 w ≡ n = cc in
        subst (λ v. decimal v ≡ w) value
        (decimal-digits_value own w digits.0 lead.0 lead.1 (grind (arith, nat_tests, plain.1, wide)))

-- if an act other than a load was read, its words are these
abbrev pub Spells : Result Act LineFault → List (List ℕ) → Type 0
Spells (Ok act) ws = IsNoLoad act → spelled_words act ≡ ws
Spells (Err fault) ws = Unit {0}

-- what is made of a number that was read is shown for the number whose decimal text the word is
abbrev pub Numbered : ℕ → Type 0
Numbered k = (w : List ℕ) (f : ℕ → Result Act LineFault) (ws : List (List ℕ))
    → ((n : ℕ) → decimal n ≡ w → Spells (f n) ws) → Spells (number k w >>= f) ws

numbered : (k : ℕ) → 2 ^ k ≤ 2 ^ 64 → Numbered k
numbered k wide w f ws h = by_result (number k w) refl
  where
    by_result : (r : Result ℕ LineFault) → number k w ≡ r → Spells (r >>= f) ws
    by_result (Ok n) e = h n (one_numeral k n w wide e)
    by_result (Err fault) e = tt

small : Numbered 32
small = numbered 32 (lit≤ tt)

large : Numbered 64
large = numbered 64 (lit≤ tt)

no_load : (hex : Result (List ℕ) LineFault) (f : List ℕ → Result Act LineFault) (ws : List (List ℕ))
    → ((bytes : List ℕ) → Spells (f bytes) ws) → Spells (hex >>= f) ws
no_load (Ok bytes) f ws h = h bytes
no_load (Err fault) f ws h = tt

amount_form : (verb : AmountVerb) (p a : ℕ) → by_form (amount_request verb p a) ≡ request_forms.Amount verb p a
amount_form amounts.Release p a = refl
amount_form amounts.Preset p a = refl
amount_form amounts.Price p a = refl

point_form : (verb : PointVerb) (p : ℕ) → by_form (point_request verb p) ≡ request_forms.Point verb p
point_form points.Open p = refl
point_form points.Close p = refl
point_form points.Show p = refl
point_form points.Suspend p = refl
point_form points.Resume p = refl
point_form points.Stop p = refl

transaction_form : (verb : TransactionVerb) (p x : ℕ)
    → by_form (transaction_request verb p x) ≡ request_forms.Transaction verb p x
transaction_form transactions.Lock p x = refl
transaction_form transactions.Unlock p x = refl
transaction_form transactions.Clear p x = refl

report_form : (verb : ReportVerb) → event_words (report_event verb) ≡ text (forms.Report verb) ∷ []
report_form reports.Down = refl
report_form reports.Started = refl
report_form reports.Fault = refl
report_form reports.Repaired = refl
report_form reports.Order = refl

-- words that suit a form have its first and its third word
texts_are : (who : List ℕ) (form : Form) (k w v : List ℕ) (more : Bool)
    → (bytes_eq k who && (is_some_word w && (bytes_eq v (text form) && more))) ≡ true → (k ≡ who) × (v ≡ text form)
texts_are who form k w v more h =
    let first = and_parts (bytes_eq k who) _ h in
    let third = and_parts (bytes_eq v (text form)) more (and_parts (is_some_word w) _ first.1).1 in
    ((bytes_eq-Decides k who).0 first.0, (bytes_eq-Decides v (text form)).0 third.0)

in_form : (form : Form) (ws : List (List ℕ)) → fits (template form) ws ≡ true → Spells (act_in form ws) ws
unfolding amount_of point_of transaction_of report_of up_of flow_of load_of
in_form (forms.Amount verb) (k ∷ w ∷ v ∷ u ∷ x ∷ []) h =
    small w _ _ (λ t et. small u _ _ (λ p ep. large x _ _ (λ a ea other.
    let e = texts_are (codes "till") (forms.Amount verb) k w v _ h in
    rw (e.0, e.1, amount_form verb p a, et, ep, ea))))
in_form (forms.Point verb) (k ∷ w ∷ v ∷ u ∷ []) h =
    small w _ _ (λ t et. small u _ _ (λ p ep other.
    let e = texts_are (codes "till") (forms.Point verb) k w v _ h in rw (e.0, e.1, point_form verb p, et, ep)))
in_form (forms.Transaction verb) (k ∷ w ∷ v ∷ u ∷ x ∷ []) h =
    small w _ _ (λ t et. small u _ _ (λ p ep. small x _ _ (λ n en other.
    let e = texts_are (codes "till") (forms.Transaction verb) k w v _ h in
    rw (e.0, e.1, transaction_form verb p n, et, ep, en))))
in_form (forms.Report verb) (k ∷ w ∷ v ∷ []) h =
    small w _ _ (λ p ep other.
    let e = texts_are (codes "disp") (forms.Report verb) k w v _ h in rw (e.0, e.1, report_form verb, ep))
in_form forms.Up (k ∷ w ∷ v ∷ u ∷ []) h =
    small w _ _ (λ p ep. small u _ _ (λ n en other.
    let e = texts_are (codes "disp") forms.Up k w v _ h in rw (e.0, e.1, ep, en)))
in_form forms.Flow (k ∷ w ∷ v ∷ u ∷ x ∷ []) h =
    small w _ _ (λ p ep. large u _ _ (λ a ea. large x _ _ (λ l el other.
    let e = texts_are (codes "disp") forms.Flow k w v _ h in rw (e.0, e.1, ep, ea, el))))
in_form (forms.Load layout) (k ∷ w ∷ v ∷ u ∷ []) h =
    small w _ _ (λ s es. small v _ _ (λ m em. no_load (bytes_from (decode_of u)) _ _ (λ bytes load. absurd load)))
in_form form ws h = tt

by_first : (ws : List (List ℕ)) (tried : List Form) → Spells (act_by (find (suits roles.All ws) tried) ws) ws
by_first ws [] = tt
by_first ws (form ∷ tried) = by_test (suits roles.All ws form) refl (by_first ws tried)
  where
    by_test : (b : Bool) → suits roles.All ws form ≡ b → Spells (act_by (find (suits roles.All ws) tried) ws) ws
        → Spells (act_by (cond b (Some form) (find (suits roles.All ws) tried)) ws) ws
    by_test true e more = in_form form ws e
    by_test false e more = more

pub one_spelling : IsOneSpelling
one_spelling ws act other read = subst (λ r. Spells r ws) read (by_first ws all_forms) other
