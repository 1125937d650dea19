-- Definitions: lines that enter nothing, and the answers to them (source: this project). One ends the day: it is the
-- word `day`. Others look at the site: such a line is the word `look`, what it looks at and, for some of these, a point. Everybody may look; but the dispensers of
-- some points see only those points. A line that has a form, but that isn't one of its door's own, is a bad line, or is
-- told that it is of another door. The answer to a look names the number of the entries that the site has.
use Rattle.std.specs.Prelude.{◌≡◌, ◌↔◌, ◌&&◌, not, nat_lt, ℕ, List, [], ◌∷◌, ◌++◌, length, drop, codes, Bool, true, false, Option, Some, None, Result, Ok, Err, find, is_some, if◌then◌else◌}
use Rattle.std.specs.Fmt.{decimal}
use Rattle.std.specs.List.{flat_map}
use Rattle.std.specs.Str.{bytes_eq}
use Rattle.till_request.specs.declared.act.Act.{Act}
use Rattle.till_request.specs.declared.act.Role.{Role}
use Rattle.till_request.specs.declared.act.Role.TheVariants as roles
use Rattle.till_request.specs.declared.act.Stray.TheVariants as strays
use Rattle.till_request.specs.declared.act.LineFault.{LineFault}
use Rattle.till_request.specs.declared.act.LineFault.TheVariants.{TooLong, BadLine, OtherDoor}
use Rattle.till_request.specs.declared.dates.Date.{Date}
use Rattle.till_request.specs.declared.look.LookAt.{LookAt}
use Rattle.till_request.specs.declared.look.LookAt.TheVariants as looks
use Rattle.till_request.specs.declared.look.Asked.{Asked}
use Rattle.till_request.specs.declared.look.Asked.TheVariants as asks
use Rattle.till_request.specs.declared.look.Seen.{Seen}
use Rattle.till_request.specs.declared.look.Seen.TheVariants as sees
use Rattle.till_request.specs.declared.look.Sight.{Sight}
use Rattle.till_request.specs.Answer.{reply_text}
use Rattle.till_request.specs.Dates.{date_of, date_text}
use Rattle.till_request.specs.Grammar.{◌>>=◌, act_of_words, all_forms, is_one_of, is_some_word, line_read, number, suits, words}

-- the first word is `look`
abbrev pub is_look : List (List ℕ) → Bool
is_look [] = false
is_look (word ∷ words) = bytes_eq word (codes "look")

-- what one word behind `look` asks to see
abbrev pub look_of_word : List ℕ → Result LookAt LineFault
look_of_word word =
    if bytes_eq word (codes "day") then Ok looks.Day
    else if bytes_eq word (codes "prices") then Ok looks.Prices
    else if bytes_eq word (codes "unpaid") then Ok looks.AllUnpaid
    else if bytes_eq word (codes "rules") then Ok looks.Rules
    else if bytes_eq word (codes "counters") then Ok looks.Counters
    else Err BadLine

-- what a word and a point behind `look` ask to see; a point that is an empty word is a bad line, as in other lines
abbrev pub look_of_point : List ℕ → List ℕ → Result LookAt LineFault
look_of_point word point =
    if not (is_some_word point) then Err BadLine
    else if bytes_eq word (codes "point") then number 32 point >>= (λ p. Ok (looks.Point p))
    else if bytes_eq word (codes "unpaid") then number 32 point >>= (λ p. Ok (looks.Unpaid p))
    else Err BadLine

-- what the words behind `look` ask to see
abbrev pub look_asked : List (List ℕ) → Result LookAt LineFault
look_asked (word ∷ []) = look_of_word word
look_asked (word ∷ point ∷ []) = look_of_point word point
look_asked words = Err BadLine

-- whether a sender of this role may see this
abbrev pub look_within : Role → LookAt → Bool
look_within (roles.SomePoints points stray) (looks.Point point) = is_one_of points point
look_within (roles.SomePoints points stray) (looks.Unpaid point) = is_one_of points point
look_within (roles.SomePoints points stray) looks.AllUnpaid = false
look_within role look = true

-- what the words of a line that looks ask for, if a sender of this role may see it
abbrev pub look_of_words : Role → List (List ℕ) → Result Asked LineFault
look_of_words role ws = look_asked (drop 1 ws) >>= (λ look. if look_within role look then Ok (asks.Look look) else Err BadLine)

-- the words end the day, and a sender of this role may send them: the word `day` alone, of the owner of a station whose
-- days follow one another
abbrev pub ends_day : Role → List (List ℕ) → Bool
ends_day roles.DaysOwner (word ∷ []) = bytes_eq word (codes "day")
ends_day role words = false

-- what the words of a line that a sender of this role has sent ask for
abbrev pub words_asked : Role → List (List ℕ) → Result Asked LineFault
words_asked role ws =
    if is_look ws then look_of_words role ws
    else if ends_day role ws then Ok asks.NextDay
    else (act_of_words role ws >>= (λ act. Ok (asks.Act act)))

-- the words behind `look` ask to see something, perhaps by a number that can't be read
abbrev pub is_some_look : Result LookAt LineFault → Bool
is_some_look (Err BadLine) = false
is_some_look look = true

-- the words have a form, whoever may send them, or look at something; their values can be wrong
abbrev pub has_some_form : List (List ℕ) → Bool
has_some_form ws = if is_look ws then is_some_look (look_asked (drop 1 ws)) else is_some (find (suits roles.All ws) all_forms)

-- the role says that a stray line is told `OtherDoor`
abbrev pub tells_stray : Role → Bool
tells_stray (roles.OneTill number strays.OtherDoor) = true
tells_stray (roles.SomePoints points strays.OtherDoor) = true
tells_stray role = false

-- What a sender of this role is told of these words, if they are read with this fault: a bad line that has a form is of
-- another door, where the role says that this is told.
abbrev pub fault_told : Role → List (List ℕ) → LineFault → LineFault
fault_told role ws BadLine = if tells_stray role && has_some_form ws then OtherDoor else BadLine
fault_told role ws fault = fault

abbrev pub asked_or_told : (LineFault → LineFault) → Result Asked LineFault → Result Asked LineFault
asked_or_told told (Ok asked) = Ok asked
asked_or_told told (Err fault) = Err (told fault)

-- what the words of a line ask for, or what a sender of this role is told
abbrev pub words_answered : Role → List (List ℕ) → Result Asked LineFault
words_answered role ws = asked_or_told (fault_told role ws) (words_asked role ws)

-- what a line asks for that a sender of this role has sent; a line of more than 8,400 bytes is too long
abbrev pub line_asked : Role → List ℕ → Result Asked LineFault
line_asked role line = if nat_lt 8400 (length line) then Err TooLong else words_answered role (words line)

-- A promise: no act is lost or made by looks, or by the line that ends a day. A line asks for an act exactly if it is read as that act.
abbrev pub AsksForActs : Type 0
AsksForActs = (role : Role) (line : List ℕ) (act : Act) → line_asked role line ≡ Ok (asks.Act act) ↔ line_read role line ≡ Ok act

-- the texts of the items, with `between` between each two
abbrev pub spread : {X : Type 0} → List ℕ → (X → List ℕ) → List X → List ℕ
spread between text_of [] = []
spread between text_of (item ∷ items) = text_of item ++ flat_map (λ next. between ++ text_of next) items

-- the numbers, with a space between each two
abbrev pub numbers_text : List ℕ → List ℕ
numbers_text numbers = spread (codes " ") decimal numbers

-- the rows, each the numbers in it, with `; ` between each two; `none` where there is no row
abbrev pub rows_text : List (List ℕ) → List ℕ
rows_text [] = codes "none"
rows_text (row ∷ rows) = spread (codes "; ") numbers_text (row ∷ rows)

-- a date behind a space
abbrev pub date_behind : Option Date → List ℕ
date_behind None = []
date_behind (Some date) = codes " " ++ date_text date

-- a day by its number, and by the date of its first moment, where it has one
abbrev pub day_text : ℕ → ℕ → List ℕ
day_text number since = codes "day " ++ (decimal number ++ date_behind (date_of since))

-- the line that answers the line that ended a day: the number of the day that is served then, and an LF
abbrev pub next_day_line : ℕ → List ℕ
next_day_line number = codes "day " ++ (decimal number ++ 10 ∷ [])

-- what was seen, in words
abbrev pub seen_text : Seen → List ℕ
seen_text (sees.Day number since) = day_text number since
seen_text (sees.Reply reply) = reply_text reply
seen_text (sees.Prices prices) = codes "prices " ++ numbers_text prices
seen_text (sees.Unpaid rows) = codes "unpaid " ++ rows_text rows.items
seen_text (sees.Rules rows) = codes "rules " ++ rows_text rows.items
seen_text (sees.Counters rows) = codes "counters " ++ rows_text rows.items

-- the line of the answer to a look: how many entries there are, what was seen, and an LF
abbrev pub sight_line : Sight → List ℕ
sight_line sight = decimal sight.entries ++ (codes " " ++ (seen_text sight.seen ++ 10 ∷ []))
