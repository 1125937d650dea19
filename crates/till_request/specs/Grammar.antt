-- Definitions: which act a line is (source: this project). A line is words with one space between them. A form is a
-- list of fixed words and of places for values. A line that has no form is a bad line. If a line has a form, its values
-- are read from left to right.
use Rattle.std.specs.Prelude.{◌≡◌, ◌==◌, ◌&&◌, not, nat_le, nat_lt, ℕ, ◌^◌, ◌-◌, ◌/◌, ◌%◌, List, [], ◌∷◌, length, slice_index, codes, Bool, true, false, Option, Some, None, Result, Ok}
use Rattle.std.specs.Prelude.{Err, if◌then◌else◌, find}
use Rattle.std.specs.List.{slice_split, list_all}
use Rattle.std.specs.Str.{bytes_eq}
use Rattle.std.specs.Char.{is_ascii_digit}
use Rattle.std.specs.Cmp.Lexicographic.{pointwise}
use Rattle.std.specs.Str.Parse.{digits_value}
use Rattle.hex.specs.Hex.{decode_of}
use Rattle.hex.specs.declared.error.FromHexError.{FromHexError}
use Rattle.bpf_model.specs.declared.context.Layout.{Layout}
use Rattle.bpf_model.specs.declared.context.Layout.TheVariants as layouts
use Rattle.fuelling_point.specs.declared.kinds.DispenserEvent.{DispenserEvent}
use Rattle.fuelling_point.specs.declared.kinds.DispenserEvent.TheVariants as events
use Rattle.till_request.specs.declared.act.Act.{Act}
use Rattle.till_request.specs.declared.act.Act.TheVariants as acts
use Rattle.till_request.specs.declared.act.Request.{Request}
use Rattle.till_request.specs.declared.act.Request.TheVariants as requests
use Rattle.till_request.specs.declared.act.Role.{Role}
use Rattle.till_request.specs.declared.act.Role.TheVariants as roles
use Rattle.till_request.specs.declared.act.LineFault.{LineFault}
use Rattle.till_request.specs.declared.act.LineFault.TheVariants.{TooLong, BadLine, BadNumber}
use Rattle.till_request.specs.declared.form.AmountVerb.{AmountVerb}
use Rattle.till_request.specs.declared.form.AmountVerb.TheVariants as amounts
use Rattle.till_request.specs.declared.form.PointVerb.{PointVerb}
use Rattle.till_request.specs.declared.form.PointVerb.TheVariants as points
use Rattle.till_request.specs.declared.form.TransactionVerb.{TransactionVerb}
use Rattle.till_request.specs.declared.form.TransactionVerb.TheVariants as transactions
use Rattle.till_request.specs.declared.form.ReportVerb.{ReportVerb}
use Rattle.till_request.specs.declared.form.ReportVerb.TheVariants as reports
use Rattle.till_request.specs.declared.form.Form.{Form}
use Rattle.till_request.specs.declared.form.Form.TheVariants as forms
use Rattle.till_request.specs.declared.form.RequestByForm.{RequestByForm}
use Rattle.till_request.specs.declared.form.RequestByForm.TheVariants as request_forms
use Rattle.till_request.specs.declared.form.Part.{Part}
use Rattle.till_request.specs.declared.form.Part.TheVariants.{Till, Disp, Verb, Value}

-- the words of a line, which is split at each space
abbrev pub words : List ℕ → List (List ℕ)
words line = slice_split (λ b. b == 32) line

-- the verb of a form: the fixed word by which the form is known
abbrev pub text : Form → List ℕ
text (forms.Load layouts.One) = codes "load"
text (forms.Load layouts.Two) = codes "load2"
text forms.Up = codes "up"
text forms.Flow = codes "flow"
text (forms.Amount amounts.Release) = codes "release"
text (forms.Amount amounts.Preset) = codes "preset"
text (forms.Amount amounts.Price) = codes "price"
text (forms.Point points.Open) = codes "open"
text (forms.Point points.Close) = codes "close"
text (forms.Point points.Show) = codes "show"
text (forms.Point points.Suspend) = codes "suspend"
text (forms.Point points.Resume) = codes "resume"
text (forms.Point points.Stop) = codes "stop"
text (forms.Transaction transactions.Lock) = codes "lock"
text (forms.Transaction transactions.Unlock) = codes "unlock"
text (forms.Transaction transactions.Clear) = codes "clear"
text (forms.Report reports.Down) = codes "down"
text (forms.Report reports.Started) = codes "started"
text (forms.Report reports.Fault) = codes "fault"
text (forms.Report reports.Repaired) = codes "repaired"
text (forms.Report reports.Order) = codes "order"

-- the words of a form: `till T verb P A`, `till T verb P`, `till T verb P X`, `disp P verb`, `disp P up N`, `disp P
-- flow A V`, `load SLOT MASK HEX` and `load2 SLOT MASK HEX`
abbrev pub template : Form → List Part
template (forms.Amount verb) = Till ∷ Value ∷ Verb (forms.Amount verb) ∷ Value ∷ Value ∷ []
template (forms.Point verb) = Till ∷ Value ∷ Verb (forms.Point verb) ∷ Value ∷ []
template (forms.Transaction verb) = Till ∷ Value ∷ Verb (forms.Transaction verb) ∷ Value ∷ Value ∷ []
template (forms.Report verb) = Disp ∷ Value ∷ Verb (forms.Report verb) ∷ []
template forms.Up = Disp ∷ Value ∷ Verb forms.Up ∷ Value ∷ []
template forms.Flow = Disp ∷ Value ∷ Verb forms.Flow ∷ Value ∷ Value ∷ []
template (forms.Load layout) = Verb (forms.Load layout) ∷ Value ∷ Value ∷ Value ∷ []

-- all forms that a line can have
unfoldable pub all_forms : List Form
all_forms =
    forms.Amount amounts.Release ∷ forms.Amount amounts.Preset ∷ forms.Amount amounts.Price
    ∷ forms.Point points.Open ∷ forms.Point points.Close ∷ forms.Point points.Show
    ∷ forms.Point points.Suspend ∷ forms.Point points.Resume ∷ forms.Point points.Stop
    ∷ forms.Transaction transactions.Lock ∷ forms.Transaction transactions.Unlock ∷ forms.Transaction transactions.Clear
    ∷ forms.Report reports.Down ∷ forms.Report reports.Started ∷ forms.Report reports.Fault ∷ forms.Report reports.Repaired ∷ forms.Report reports.Order
    ∷ forms.Up ∷ forms.Flow ∷ forms.Load layouts.One ∷ forms.Load layouts.Two ∷ []

-- whose lines have this form: a till's, a dispenser's or the owner's
abbrev pub sender : Form → Role
sender (forms.Amount verb) = roles.Till
sender (forms.Point verb) = roles.Till
sender (forms.Transaction verb) = roles.Till
sender (forms.Report verb) = roles.Dispenser
sender forms.Up = roles.Dispenser
sender forms.Flow = roles.Dispenser
sender (forms.Load layout) = roles.Owner

-- A sender of the first role may send the lines of the second role: a till's (Till), a dispenser's (Dispenser) or the
-- owner's (Owner). Here `OneTill` may send the lines of any till, and `SomePoints` those of any dispenser.
-- `act_within_role` checks the till or the point that the parsed line names.
abbrev pub allows : Role → Role → Bool
allows roles.All by = true
allows roles.Till roles.Till = true
allows roles.Dispenser roles.Dispenser = true
allows roles.Owner roles.Owner = true
allows roles.DaysOwner roles.Owner = true
allows (roles.OneTill number stray) roles.Till = true
allows (roles.SomePoints points stray) roles.Dispenser = true
allows role by = false

-- the word isn't empty
abbrev pub is_some_word : List ℕ → Bool
is_some_word [] = false
is_some_word (b ∷ word) = true

-- the word fits this part of a form: it is the fixed word, or for a value any word that isn't empty
abbrev pub part_fits : Part → List ℕ → Bool
part_fits Till word = bytes_eq word (codes "till")
part_fits Disp word = bytes_eq word (codes "disp")
part_fits (Verb form) word = bytes_eq word (text form)
part_fits Value word = is_some_word word

-- there are as many words as parts, and each word fits its part
abbrev pub fits : List Part → List (List ℕ) → Bool
fits parts ws = pointwise part_fits parts ws

-- the role may send lines of this form, and the words have this form
abbrev pub suits : Role → List (List ℕ) → Form → Bool
suits role ws form = allows role (sender form) && fits (template form) ws

-- the words have the form of a load, and the role may send loads; only the reading of such words needs memory
abbrev pub IsLoad : Role → List (List ℕ) → Type 0
IsLoad role ws = (layout : Layout) × (suits role ws (forms.Load layout) ≡ true)

-- the word isn't empty, and begins with a zero only if it is one byte long
abbrev pub has_no_leading_zero : List ℕ → Bool
has_no_leading_zero word = if length word == 1 then true else nat_lt 0 (length word) && not (slice_index word 0 == 48)

-- the word is decimal digits without leading zeros
abbrev pub is_decimal : List ℕ → Bool
is_decimal word = list_all is_ascii_digit word && has_no_leading_zero word

-- the number that a word spells in decimal; a bad number if the word isn't decimal, or the number isn't below 2^k
abbrev pub number : ℕ → List ℕ → Result ℕ LineFault
number k word = if is_decimal word && nat_lt (digits_value 10 word) (2 ^ k) then Ok (digits_value 10 word) else Err BadNumber

-- the bytes that hexadecimal digits were decoded to; a bad number if they couldn't be decoded
abbrev pub bytes_from : Result (List ℕ) FromHexError → Result (List ℕ) LineFault
bytes_from (Ok bytes) = Ok bytes
bytes_from (Err e) = Err BadNumber

-- does the second step with the first step's result; if the first step failed, the result is its fault
infixl 10 ◌>>=◌
abbrev pub ◌>>=◌ : {A B : Type 0} → Result A LineFault → (A → Result B LineFault) → Result B LineFault
(Ok x) >>= f = f x
(Err e) >>= f = Err e

-- The request with this verb and these numbers. `point_request` and `transaction_request` give the requests with the
-- other verbs, and `report_event` gives the event that a dispenser reports by a verb.
abbrev pub amount_request : AmountVerb → ℕ → ℕ → Request
amount_request amounts.Release point amount = requests.Release point amount
amount_request amounts.Preset point amount = requests.Preset point amount
amount_request amounts.Price product price = requests.Price product price

abbrev pub point_request : PointVerb → ℕ → Request
point_request points.Open point = requests.OpenPoint point
point_request points.Close point = requests.ClosePoint point
point_request points.Show point = requests.Show point
point_request points.Suspend point = requests.Suspend point
point_request points.Resume point = requests.Resume point
point_request points.Stop point = requests.Stop point

abbrev pub transaction_request : TransactionVerb → ℕ → ℕ → Request
transaction_request transactions.Lock point transaction = requests.Lock point transaction
transaction_request transactions.Unlock point transaction = requests.Unlock point transaction
transaction_request transactions.Clear point transaction = requests.Clear point transaction

-- a request's verb and its numbers
abbrev pub by_form : Request → RequestByForm
by_form (requests.Release point amount) = request_forms.Amount amounts.Release point amount
by_form (requests.Preset point amount) = request_forms.Amount amounts.Preset point amount
by_form (requests.Price product price) = request_forms.Amount amounts.Price product price
by_form (requests.OpenPoint point) = request_forms.Point points.Open point
by_form (requests.ClosePoint point) = request_forms.Point points.Close point
by_form (requests.Show point) = request_forms.Point points.Show point
by_form (requests.Suspend point) = request_forms.Point points.Suspend point
by_form (requests.Resume point) = request_forms.Point points.Resume point
by_form (requests.Stop point) = request_forms.Point points.Stop point
by_form (requests.Lock point transaction) = request_forms.Transaction transactions.Lock point transaction
by_form (requests.Unlock point transaction) = request_forms.Transaction transactions.Unlock point transaction
by_form (requests.Clear point transaction) = request_forms.Transaction transactions.Clear point transaction

abbrev pub report_event : ReportVerb → DispenserEvent
report_event reports.Down = events.Down
report_event reports.Started = events.Started
report_event reports.Fault = events.Fault
report_event reports.Repaired = events.Repaired
report_event reports.Order = events.TakeOrder

-- Reads the values T, P and A of a line `till T verb P A`, and gives the line's act. The definitions up to `load_of` do
-- the same for lines of the other forms. An amount, price or volume of 2^64 or more is a bad number, and so is any
-- other number of 2^32 or more.
unfoldable pub amount_of : AmountVerb → List ℕ → List ℕ → List ℕ → Result Act LineFault
amount_of verb till point amount = do
  till' ← number 32 till
  point' ← number 32 point
  amount' ← number 64 amount
  Ok (acts.Till till' (amount_request verb point' amount'))

unfoldable pub point_of : PointVerb → List ℕ → List ℕ → Result Act LineFault
point_of verb till point = do
  till' ← number 32 till
  point' ← number 32 point
  Ok (acts.Till till' (point_request verb point'))

unfoldable pub transaction_of : TransactionVerb → List ℕ → List ℕ → List ℕ → Result Act LineFault
transaction_of verb till point transaction = do
  till' ← number 32 till
  point' ← number 32 point
  transaction' ← number 32 transaction
  Ok (acts.Till till' (transaction_request verb point' transaction'))

unfoldable pub report_of : ReportVerb → List ℕ → Result Act LineFault
report_of verb point = do
  point' ← number 32 point
  Ok (acts.Dispenser point' (report_event verb))

unfoldable pub up_of : List ℕ → List ℕ → Result Act LineFault
up_of point nozzle = do
  point' ← number 32 point
  nozzle' ← number 32 nozzle
  Ok (acts.Dispenser point' (events.Up nozzle'))

unfoldable pub flow_of : List ℕ → List ℕ → List ℕ → Result Act LineFault
flow_of point amount volume = do
  point' ← number 32 point
  amount' ← number 64 amount
  volume' ← number 64 volume
  Ok (acts.Dispenser point' (events.Flowed amount' volume'))

unfoldable pub load_of : Layout → List ℕ → List ℕ → List ℕ → Result Act LineFault
load_of layout slot mask hex = do
  slot' ← number 32 slot
  mask' ← number 32 mask
  bytes' ← bytes_from (decode_of hex)
  Ok (acts.Load slot' mask' layout bytes')

-- Reads the words of a line as the act of this form. If they aren't as many as the form has, they are a bad line. The
-- fixed words aren't compared.
abbrev pub act_in : Form → List (List ℕ) → Result Act LineFault
act_in (forms.Amount verb) (k0 ∷ till ∷ k1 ∷ point ∷ amount ∷ []) = amount_of verb till point amount
act_in (forms.Point verb) (k0 ∷ till ∷ k1 ∷ point ∷ []) = point_of verb till point
act_in (forms.Transaction verb) (k0 ∷ till ∷ k1 ∷ point ∷ transaction ∷ []) = transaction_of verb till point transaction
act_in (forms.Report verb) (k0 ∷ point ∷ k1 ∷ []) = report_of verb point
act_in forms.Up (k0 ∷ point ∷ k1 ∷ nozzle ∷ []) = up_of point nozzle
act_in forms.Flow (k0 ∷ point ∷ k1 ∷ amount ∷ volume ∷ []) = flow_of point amount volume
act_in (forms.Load layout) (k0 ∷ slot ∷ mask ∷ hex ∷ []) = load_of layout slot mask hex
act_in form ws = Err BadLine

-- reads words by the form that was found for them; without a form they are a bad line
abbrev pub act_by : Option Form → List (List ℕ) → Result Act LineFault
act_by None ws = Err BadLine
act_by (Some form) ws = act_in form ws

-- reads words by the first form that they have and that the role may send
abbrev pub act_by_first_form : Role → List (List ℕ) → Result Act LineFault
act_by_first_form role ws = act_by (find (suits role ws) all_forms) ws

-- the act is a request of the till with this number
abbrev pub names_till : ℕ → Act → Bool
names_till number (acts.Till till request) = till == number
names_till number act = false

-- the point's number p is from 1 to 32, and bit p - 1 of `points` is set
abbrev pub is_one_of : ℕ → ℕ → Bool
is_one_of points point = nat_le 1 point && (nat_le point 32 && (points / 2 ^ (point - 1) % 2 == 1))

-- the act is a dispenser's event at one of these points
abbrev pub names_point : ℕ → Act → Bool
names_point points (acts.Dispenser point event) = is_one_of points point
names_point points act = false

-- For `OneTill`, the act is a request of the till that the role names. For `SomePoints`, the act is a dispenser's event
-- at one of the fuelling points that the role names. For every other role, true.
abbrev pub is_within_role : Role → Act → Bool
is_within_role (roles.OneTill number stray) act = names_till number act
is_within_role (roles.SomePoints points stray) act = names_point points act
is_within_role role act = true

-- Limits a parsed act to the role. For `OneTill`, an act that isn't a request of the till that the role names is a bad
-- line. For `SomePoints`, an act that isn't a dispenser's event at one of the fuelling points that the role names is a
-- bad line. Any other act, and a fault, stays as it is.
abbrev pub act_within_role : Role → Result Act LineFault → Result Act LineFault
act_within_role (roles.OneTill number stray) parsed_act = parsed_act >>= (λ act. if names_till number act then Ok act else Err BadLine)
act_within_role (roles.SomePoints points stray) parsed_act = parsed_act >>= (λ act. if names_point points act then Ok act else Err BadLine)
act_within_role role parsed_act = parsed_act

-- reads the words of a line that a sender of this role has sent
abbrev pub act_of_words : Role → List (List ℕ) → Result Act LineFault
act_of_words role ws = act_within_role role (act_by_first_form role ws)

-- reads a line that a sender of this role has sent, however long it is
abbrev pub act_of_line : Role → List ℕ → Result Act LineFault
act_of_line role line = act_of_words role (words line)

-- reads a line that a sender of this role has sent; a line of more than 8,400 bytes is too long, whatever its bytes are
abbrev pub line_read : Role → List ℕ → Result Act LineFault
line_read role line = if nat_lt 8400 (length line) then Err TooLong else act_of_line role line
