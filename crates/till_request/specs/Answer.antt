-- Definitions: the texts of answers (source: this project). An entry's number comes before the reply. A refusal or a
-- fault is written as a letter and a number. The letter is S if the site refused the act, if the journal is full, or if
-- memory ran out. It is V if a program was refused, and L for any other fault of a line. The numbers that a refusal
-- names, such as a slot's, come last. `JournalFailed` is written in words instead.
use Rattle.std.specs.Prelude.{ℕ, List, [], ◌∷◌, ◌++◌, codes, Option, Some, None}
use Rattle.std.specs.Fmt.{decimal}
use Rattle.std.specs.List.{join_with_byte}
use Rattle.fuelling_point.specs.declared.kinds.Order.{Order}
use Rattle.fuelling_point.specs.declared.kinds.Order.TheVariants as orders
use Rattle.till_request.specs.declared.act.LineFault.{LineFault}
use Rattle.till_request.specs.declared.act.LineFault.TheVariants as faults
use Rattle.till_request.specs.declared.act.Reply.{Reply}
use Rattle.till_request.specs.declared.act.Reply.TheVariants as replies
use Rattle.till_request.specs.declared.act.Answer.{Answer}
use Rattle.till_request.specs.declared.act.Answer.TheVariants.{Entered, JournalFull, OutOfMemory, Line, Program, JournalFailed}

-- the words of an order; the number of `authorise` is an amount in cents
abbrev pub order_words : Order → List (List ℕ)
order_words (orders.Authorise amount) = codes "authorise" ∷ decimal amount ∷ []
order_words orders.Suspend = codes "suspend" ∷ []
order_words orders.Resume = codes "resume" ∷ []
order_words orders.Stop = codes "stop" ∷ []

-- the words of a reply; `unpaid` is how many transactions of the point are unpaid
abbrev pub reply_words : Reply → List (List ℕ)
reply_words replies.Done = codes "done" ∷ []
reply_words (replies.Granted amount version) = codes "granted" ∷ decimal amount ∷ codes "by" ∷ decimal version ∷ []
reply_words (replies.Version version) = codes "version" ∷ decimal version ∷ []
reply_words (replies.Order order) = codes "order" ∷ order_words order
reply_words (replies.Point state nozzle unpaid amount volume limit preset) =
    codes "point" ∷ decimal state ∷ decimal nozzle ∷ decimal amount ∷ decimal volume ∷ decimal limit ∷ decimal preset ∷ decimal unpaid ∷ []
reply_words (replies.Refused number None) = (codes "S" ++ decimal number) ∷ []
reply_words (replies.Refused number (Some value)) = (codes "S" ++ decimal number) ∷ decimal value ∷ []

-- the text of a reply: its words, with a space between them
abbrev pub reply_text : Reply → List ℕ
reply_text reply = join_with_byte 32 (reply_words reply)

-- the text of a line's fault: `L1` to `L5`, or `S31` if memory ran out
abbrev pub fault_text : LineFault → List ℕ
fault_text faults.TooLong = codes "L1"
fault_text faults.BadLine = codes "L2"
fault_text faults.BadNumber = codes "L3"
fault_text faults.CutLine = codes "L4"
fault_text faults.OtherDoor = codes "L5"
fault_text faults.OutOfMemory = codes "S31"

-- the words of a program's refusal: V with the refusal's number; then the unit that the refusal names, if it names one;
-- then the register or argument that it names, if it names one
abbrev pub program_words : ℕ → Option ℕ → Option ℕ → List (List ℕ)
program_words number None None = (codes "V" ++ decimal number) ∷ []
program_words number None (Some part) = (codes "V" ++ decimal number) ∷ decimal part ∷ []
program_words number (Some unit) None = (codes "V" ++ decimal number) ∷ decimal unit ∷ []
program_words number (Some unit) (Some part) = (codes "V" ++ decimal number) ∷ decimal unit ∷ decimal part ∷ []

-- the text of an answer, without its LF
abbrev pub answer_text : Answer → List ℕ
answer_text (Entered number reply) = join_with_byte 32 (decimal number ∷ reply_text reply ∷ [])
answer_text JournalFull = codes "S29"
answer_text OutOfMemory = codes "S31"
answer_text (Line fault) = fault_text fault
answer_text (Program number unit part) = join_with_byte 32 (program_words number unit part)
answer_text JournalFailed = codes "journal failed"

-- the line of an answer: its text, and an LF
abbrev pub answer_line : Answer → List ℕ
answer_line answer = answer_text answer ++ 10 ∷ []
