-- A line of at most 8,400 bytes that can't be read as an act is a bad line or has a bad number.
use Rattle.std.proofs.Common.{◌≡◌, ℕ, List, [], ◌∷◌, ◌++◌, Bool, true, false, cond, Option, Some, None, Result, Ok, Err, subst, sym, ap, ◌∙◌, ◌≤◌, length, find}
use Rattle.std.proofs.Common.{nat_lt, ◌&&◌, ◌^◌, inr, refl}
use Rattle.std.proofs.lemmas.Bool.{le-ltb}
use Rattle.std.specs.Io.KnownBytes.{Consumes}
use Rattle.std.specs.Str.Parse.{digits_value}
use Rattle.hex.specs.Hex.{decode_of}
use Rattle.hex.specs.declared.error.FromHexError.{FromHexError}
use Rattle.bpf_model.specs.declared.context.Layout.{Layout}
use Rattle.till_request.specs.declared.act.Act.{Act}
use Rattle.till_request.specs.declared.act.Role.{Role}
use Rattle.till_request.specs.declared.act.Role.TheVariants as roles
use Rattle.till_request.specs.declared.act.LineFault.{LineFault}
use Rattle.till_request.specs.declared.act.LineFault.TheVariants.{TooLong, BadLine, BadNumber, CutLine, OtherDoor, OutOfMemory}
use Rattle.till_request.specs.declared.form.Form.{Form}
use Rattle.till_request.specs.declared.form.Form.TheVariants as forms
use Rattle.till_request.specs.declared.form.AmountVerb.{AmountVerb}
use Rattle.till_request.specs.declared.form.PointVerb.{PointVerb}
use Rattle.till_request.specs.declared.form.TransactionVerb.{TransactionVerb}
use Rattle.till_request.specs.declared.form.ReportVerb.{ReportVerb}
use Rattle.till_request.specs.declared.line.LineReadFault.TheVariants as reading
use Rattle.till_request.specs.Gives.{Fails}
use Rattle.till_request.specs.Line.{IsLine, TakesFault}
use Rattle.till_request.specs.Grammar.{number, is_decimal, bytes_from, ◌>>=◌, amount_of, point_of, transaction_of, report_of, up_of, flow_of, load_of, act_in}
use Rattle.till_request.specs.Grammar.{act_by, act_of_line, act_by_first_form, act_within_role, names_point, names_till, line_read, suits, all_forms, words, IsLoad}

-- the result is Ok, or its fault is BadLine or BadNumber
abbrev pub IsBad : {A : Type 0} → Result A LineFault → Type 0
IsBad (Ok x) = Unit {0}
IsBad (Err TooLong) = ⊥
IsBad (Err BadLine) = Unit {0}
IsBad (Err BadNumber) = Unit {0}
IsBad (Err CutLine) = ⊥
IsBad (Err OtherDoor) = ⊥
IsBad (Err OutOfMemory) = ⊥

IsBad-bind : {A B : Type 0} (r : Result A LineFault) (f : A → Result B LineFault) → IsBad r → ((x : A) → IsBad (f x)) → IsBad (r >>= f)
IsBad-bind (Ok x) f h k = k x
IsBad-bind (Err TooLong) f h k = absurd h
IsBad-bind (Err BadLine) f h k = tt
IsBad-bind (Err BadNumber) f h k = tt
IsBad-bind (Err CutLine) f h k = absurd h
IsBad-bind (Err OtherDoor) f h k = absurd h
IsBad-bind (Err OutOfMemory) f h k = absurd h

IsBad-cond : {A : Type 0} (b : Bool) (x : A) → IsBad (cond b (Ok x) (Err BadNumber))
IsBad-cond true x = tt
IsBad-cond false x = tt

IsBad-number : (k : ℕ) (w : List ℕ) → IsBad (number k w)
IsBad-number k w = IsBad-cond (is_decimal w && nat_lt (digits_value 10 w) (2 ^ k)) (digits_value 10 w)

IsBad-bytes_from : (r : Result (List ℕ) FromHexError) → IsBad (bytes_from r)
IsBad-bytes_from (Ok x) = tt
IsBad-bytes_from (Err e) = tt

IsBad-amount_of : (verb : AmountVerb) (w v u : List ℕ) → IsBad (amount_of verb w v u)
unfolding amount_of
IsBad-amount_of verb w v u = IsBad-bind (number 32 w) _ (IsBad-number 32 w)
    (λ t. IsBad-bind (number 32 v) _ (IsBad-number 32 v) (λ p. IsBad-bind (number 64 u) _ (IsBad-number 64 u) (λ a. tt)))

IsBad-point_of : (verb : PointVerb) (w v : List ℕ) → IsBad (point_of verb w v)
unfolding point_of
IsBad-point_of verb w v = IsBad-bind (number 32 w) _ (IsBad-number 32 w) (λ t. IsBad-bind (number 32 v) _ (IsBad-number 32 v) (λ p. tt))

IsBad-transaction_of : (verb : TransactionVerb) (w v u : List ℕ) → IsBad (transaction_of verb w v u)
unfolding transaction_of
IsBad-transaction_of verb w v u = IsBad-bind (number 32 w) _ (IsBad-number 32 w)
    (λ t. IsBad-bind (number 32 v) _ (IsBad-number 32 v) (λ p. IsBad-bind (number 32 u) _ (IsBad-number 32 u) (λ x. tt)))

IsBad-report_of : (verb : ReportVerb) (w : List ℕ) → IsBad (report_of verb w)
unfolding report_of
IsBad-report_of verb w = IsBad-bind (number 32 w) _ (IsBad-number 32 w) (λ p. tt)

IsBad-up_of : (w v : List ℕ) → IsBad (up_of w v)
unfolding up_of
IsBad-up_of w v = IsBad-bind (number 32 w) _ (IsBad-number 32 w) (λ p. IsBad-bind (number 32 v) _ (IsBad-number 32 v) (λ n. tt))

IsBad-flow_of : (w v u : List ℕ) → IsBad (flow_of w v u)
unfolding flow_of
IsBad-flow_of w v u = IsBad-bind (number 32 w) _ (IsBad-number 32 w)
    (λ p. IsBad-bind (number 64 v) _ (IsBad-number 64 v) (λ a. IsBad-bind (number 64 u) _ (IsBad-number 64 u) (λ n. tt)))

IsBad-load_of : (layout : Layout) (w v u : List ℕ) → IsBad (load_of layout w v u)
unfolding load_of
IsBad-load_of layout w v u = IsBad-bind (number 32 w) _ (IsBad-number 32 w)
    (λ s. IsBad-bind (number 32 v) _ (IsBad-number 32 v) (λ m. IsBad-bind (bytes_from (decode_of u)) _ (IsBad-bytes_from (decode_of u)) (λ b. tt)))

IsBad-act_in : (form : Form) (ws : List (List ℕ)) → IsBad (act_in form ws)
IsBad-act_in (forms.Amount verb) (k0 ∷ till ∷ k1 ∷ point ∷ amount ∷ []) = IsBad-amount_of verb till point amount
IsBad-act_in (forms.Point verb) (k0 ∷ till ∷ k1 ∷ point ∷ []) = IsBad-point_of verb till point
IsBad-act_in (forms.Transaction verb) (k0 ∷ till ∷ k1 ∷ point ∷ transaction ∷ []) = IsBad-transaction_of verb till point transaction
IsBad-act_in (forms.Report verb) (k0 ∷ point ∷ k1 ∷ []) = IsBad-report_of verb point
IsBad-act_in forms.Up (k0 ∷ point ∷ k1 ∷ nozzle ∷ []) = IsBad-up_of point nozzle
IsBad-act_in forms.Flow (k0 ∷ point ∷ k1 ∷ amount ∷ volume ∷ []) = IsBad-flow_of point amount volume
IsBad-act_in (forms.Load layout) (k0 ∷ slot ∷ mask ∷ hex ∷ []) = IsBad-load_of layout slot mask hex
IsBad-act_in form ws = tt

IsBad-act_by : (form : Option Form) (ws : List (List ℕ)) → IsBad (act_by form ws)
IsBad-act_by None ws = tt
IsBad-act_by (Some form) ws = IsBad-act_in form ws

IsBad-own : (b : Bool) (act : Act) → IsBad (cond b (Ok act) (Err BadLine))
IsBad-own true act = tt
IsBad-own false act = tt

IsBad-act_within_role : (role : Role) (parsed_act : Result Act LineFault) → IsBad parsed_act → IsBad (act_within_role role parsed_act)
IsBad-act_within_role roles.Till parsed_act h = h
IsBad-act_within_role roles.Dispenser parsed_act h = h
IsBad-act_within_role roles.Owner parsed_act h = h
IsBad-act_within_role roles.DaysOwner parsed_act h = h
IsBad-act_within_role roles.All parsed_act h = h
IsBad-act_within_role (roles.OneTill number stray) parsed_act h = IsBad-bind parsed_act _ h (λ act. IsBad-own (names_till number act) act)
IsBad-act_within_role (roles.SomePoints points stray) parsed_act h = IsBad-bind parsed_act _ h (λ act. IsBad-own (names_point points act) act)

pub IsBad-act_of_line : (role : Role) (line : List ℕ) → IsBad (act_of_line role line)
IsBad-act_of_line role line = IsBad-act_within_role role (act_by_first_form role (words line)) (IsBad-act_by (find (suits role (words line)) all_forms) (words line))

bad_along : {r s : Result Act LineFault} → r ≡ s → IsBad r → IsBad s
bad_along e h = subst IsBad e h

-- for a line of at most 8,400 bytes, `line_read` gives the same as `act_of_line`, which reads lines of any length
pub short_read : (role : Role) (line : List ℕ) → length line ≤ 8400 → line_read role line ≡ act_of_line role line
short_read role line l = ap (λ b. cond b (Err TooLong) (act_of_line role line)) (le-ltb 8400 (length line) l)

-- If `line` and its LF were read, and parsing `line` gave `fault`, then what was read is what `TakesFault` says for
-- this fault. If `fault` is `OutOfMemory`, `line` must also have the form of a load that `role` may send.
pub fault_taken : (fault : LineFault) (old new : Option (List ℕ)) (role : Role) (before after : ℕ) (line : List ℕ)
    → Consumes old new (line ++ 10 ∷ []) → IsLine line → Fails fault (line_read role line)
    → (fault ≡ OutOfMemory → IsLoad role (words line)) → TakesFault old new role before after (reading.Line fault)
fault_taken TooLong old new role before after line t l e load = absurd (bad_along (sym (short_read role line l.1) ∙ e) (IsBad-act_of_line role line))
fault_taken BadLine old new role before after line t l e load = (line, t, l, e)
fault_taken BadNumber old new role before after line t l e load = (line, t, l, e)
fault_taken CutLine old new role before after line t l e load = absurd (bad_along (sym (short_read role line l.1) ∙ e) (IsBad-act_of_line role line))
fault_taken OtherDoor old new role before after line t l e load = absurd (bad_along (sym (short_read role line l.1) ∙ e) (IsBad-act_of_line role line))
fault_taken OutOfMemory old new role before after line t l e load = inr (line, t, l, load refl)
