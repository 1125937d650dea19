-- Promises: how a line of an opening's text is read. The text of each line of an opening is read as that line, and some
-- other texts are read as lines too.
use Rattle.std.specs.Prelude.{ℕ, ◌==◌, nat_lt, if◌then◌else◌, List, [], ◌∷◌, codes, drop, length, Option, Some, None, false, Result, Ok, Err}
use Rattle.std.specs.Str.{bytes_eq}
use Rattle.hex.specs.Hex.{decode_of, decode_sized}
use Rattle.bpf_model.specs.declared.context.Layout.{Layout}
use Rattle.bpf_model.specs.declared.context.Layout.TheVariants as layouts
use Rattle.fuelling_point.specs.declared.kinds.Order.{Order}
use Rattle.fuelling_point.specs.declared.kinds.Order.TheVariants as orders
use Rattle.fuelling_point.specs.declared.kinds.State.{State}
use Rattle.fuelling_point.specs.declared.kinds.State.TheVariants as states
use Rattle.fuelling_point.specs.declared.snapshot.Snapshot.{Snapshot}
use Rattle.till_request.specs.declared.act.LineFault.{LineFault}
use Rattle.till_request.specs.declared.act.LineFault.TheVariants.{BadLine}
use Rattle.till_request.specs.Grammar.{words, number, bytes_from, ◌>>=◌}
use Rattle.days.specs.declared.line.Line.{Line}
use Rattle.days.specs.declared.line.Line.TheVariants as lines

abbrev pub day_of : List (List ℕ) → Result Line LineFault
day_of (n ∷ []) = number 32 n >>= (λ n'. Ok (lines.Day n'))
day_of ws = Err BadLine

abbrev pub cleared_with : List ℕ → List ℕ → Result Line LineFault
cleared_with t c = number 64 t >>= (λ t'. number 64 c >>= (λ c'. Ok (lines.Cleared t' c')))

abbrev pub cleared_of : List (List ℕ) → Result Line LineFault
cleared_of (t ∷ c ∷ []) = cleared_with t c
cleared_of ws = Err BadLine

abbrev pub versions_of : List (List ℕ) → Result Line LineFault
versions_of (n ∷ []) = number 32 n >>= (λ n'. Ok (lines.Versions n'))
versions_of ws = Err BadLine

abbrev pub layout_with : List ℕ → Layout
layout_with w = if bytes_eq w (codes "load2") then layouts.Two else layouts.One

abbrev pub bytes_by : List ℕ → Result (List ℕ) LineFault
bytes_by w = bytes_from (decode_of w)

abbrev pub version_with : List ℕ → List ℕ → List ℕ → List ℕ → List ℕ → Result Line LineFault
version_with s n m l x =
    number 64 s >>= (λ s'. number 32 n >>= (λ n'. number 32 m >>= (λ m'. bytes_by x >>= (λ bytes. Ok (lines.Version s' n' m' (layout_with l) bytes)))))

abbrev pub version_of : List (List ℕ) → Result Line LineFault
version_of (s ∷ n ∷ m ∷ l ∷ x ∷ []) = version_with s n m l x
version_of ws = Err BadLine

abbrev pub price_with : List ℕ → List ℕ → Result Line LineFault
price_with p v = number 32 p >>= (λ p'. number 32 v >>= (λ v'. Ok (lines.Price p' v')))

abbrev pub price_of : List (List ℕ) → Result Line LineFault
price_of (p ∷ v ∷ []) = price_with p v
price_of ws = Err BadLine

abbrev pub counter_with : List ℕ → List ℕ → List ℕ → Result Line LineFault
counter_with c v b = number 32 c >>= (λ c'. number 64 v >>= (λ v'. number 64 b >>= (λ b'. Ok (lines.Counter c' v' b'))))

abbrev pub counter_of : List (List ℕ) → Result Line LineFault
counter_of (c ∷ v ∷ b ∷ []) = counter_with c v b
counter_of ws = Err BadLine

-- The state with this number, of the nine states of a fuelling point. Any number but 1 to 8 is taken for 9.
abbrev pub state_with : ℕ → State
state_with n =
    if n == 1 then states.Inoperative else if n == 2 then states.Closed else if n == 3 then states.Idle else if n == 4 then states.Calling
    else if n == 5 then states.Authorised else if n == 6 then states.Started else if n == 7 then states.SuspendedStarted
    else if n == 8 then states.Fuelling else states.SuspendedFuelling

-- The order to a dispenser that a word of at most ten bytes names, or None for `none`. Any unknown word is taken for
-- `stop`.
abbrev pub short_order : List ℕ → Option Order
short_order w =
    if bytes_eq w (codes "none") then None else if bytes_eq w (codes "suspend") then Some orders.Suspend
    else if bytes_eq w (codes "resume") then Some orders.Resume else Some orders.Stop

-- The order that a word names, or None for `none`. Any word of more than ten bytes is taken for `authorise:` and an
-- amount.
abbrev pub order_read : List ℕ → Result (Option Order) LineFault
order_read w = if nat_lt 10 (length w) then (number 64 (drop 10 w) >>= (λ a. Ok (Some (orders.Authorise a)))) else Ok (short_order w)

-- The values in a point's line are read in two parts. `point_begun` reads the state, the nozzle, the preset and the
-- limit, and `point_ended` adds the others.
abbrev pub point_begun : List ℕ → List ℕ → List ℕ → List ℕ → Result Snapshot LineFault
point_begun s z p l =
    number 32 s >>= (λ state'. number 32 z >>= (λ nozzle'. number 64 p >>= (λ preset'. number 64 l >>= (λ limit'. Ok (record {
      state = state_with state';
      nozzle = nozzle';
      preset = preset';
      limit = limit';
      amount = 0;
      volume = 0;
      order = None;
      taken = false;
      last = 0;
      unpaid = None ∷ None ∷ [];
    })))))

abbrev pub point_ended : Snapshot → List ℕ → List ℕ → List ℕ → List ℕ → List ℕ → Result Snapshot LineFault
point_ended values a v o t l =
    number 64 a >>= (λ amount'. number 64 v >>= (λ volume'. order_read o >>= (λ order'. number 32 l >>= (λ last'.
    Ok (record values { amount = amount'; volume = volume'; order = order'; taken = bytes_eq t (codes "yes"); last = last' })))))

abbrev pub ending_of : Snapshot → List (List ℕ) → Result Snapshot LineFault
ending_of values (a ∷ v ∷ o ∷ t ∷ l ∷ []) = point_ended values a v o t l
ending_of values ws = Err BadLine

abbrev pub point_with : List ℕ → List ℕ → List ℕ → List ℕ → List ℕ → List (List ℕ) → Result Line LineFault
point_with n s z p l ws = number 64 n >>= (λ n'. point_begun s z p l >>= (λ begun. ending_of begun ws >>= (λ values. Ok (lines.Point n' values))))

abbrev pub point_of : List (List ℕ) → Result Line LineFault
point_of (n ∷ s ∷ z ∷ p ∷ l ∷ ws) = point_with n s z p l ws
point_of ws = Err BadLine

-- The product and the price at the end of an unpaid transaction's line. Both are 0 if the words for them are left out.
abbrev pub priced_with : List ℕ → List ℕ → Result (ℕ × ℕ) LineFault
priced_with p v = number 32 p >>= (λ p'. number 32 v >>= (λ v'. Ok (p', v')))

abbrev pub priced_of : List (List ℕ) → Result (ℕ × ℕ) LineFault
priced_of [] = Ok (0, 0)
priced_of (p ∷ v ∷ []) = priced_with p v
priced_of ws = Err BadLine

abbrev pub unpaid_with : List ℕ → List ℕ → List ℕ → List ℕ → List ℕ → List (List ℕ) → Result Line LineFault
unpaid_with p n a v t ws =
    number 64 p >>= (λ p'. number 32 n >>= (λ number'. number 64 a >>= (λ amount'. number 64 v >>= (λ volume'. number 32 t >>= (λ holder'.
    priced_of ws >>= (λ priced. Ok (lines.Unpaid p' (record {
      number = number';
      product = priced.0;
      price = priced.1;
      amount = amount';
      volume = volume';
      holder = holder';
    }))))))))

abbrev pub unpaid_of : List (List ℕ) → Result Line LineFault
unpaid_of (p ∷ n ∷ a ∷ v ∷ t ∷ ws) = unpaid_with p n a v t ws
unpaid_of ws = Err BadLine

abbrev pub digest_by : List ℕ → Result (List ℕ) LineFault
digest_by w = bytes_from (decode_sized w 32)

abbrev pub journal_with : List ℕ → List ℕ → Result Line LineFault
journal_with n d = number 32 n >>= (λ n'. digest_by d >>= (λ digest. Ok (lines.Journal n' digest)))

abbrev pub journal_of : List (List ℕ) → Result Line LineFault
journal_of (n ∷ d ∷ []) = journal_with n d
journal_of ws = Err BadLine

-- Reads a line from its name and the words after its name.
abbrev pub line_named : List ℕ → List (List ℕ) → Result Line LineFault
line_named name ws =
    if bytes_eq name (codes "price") then price_of ws else if bytes_eq name (codes "counter") then counter_of ws
    else if bytes_eq name (codes "version") then version_of ws else if bytes_eq name (codes "point") then point_of ws
    else if bytes_eq name (codes "unpaid") then unpaid_of ws else if bytes_eq name (codes "journal") then journal_of ws
    else if bytes_eq name (codes "day") then day_of ws else if bytes_eq name (codes "cleared") then cleared_of ws
    else if bytes_eq name (codes "versions") then versions_of ws else Err BadLine

abbrev pub line_of_words : List (List ℕ) → Result Line LineFault
line_of_words [] = Err BadLine
line_of_words (name ∷ ws) = line_named name ws

-- Reads a line, given without its LF.
abbrev pub line_read : List ℕ → Result Line LineFault
line_read line = line_of_words (words line)
