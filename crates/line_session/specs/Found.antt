-- Promises: how a session ends after its last line.
use Rattle.std.specs.Prelude.{◌≡◌, ℕ, ◌+◌, Option, Some, None}
use Rattle.till_request.specs.declared.act.LineFault.{LineFault}
use Rattle.till_request.specs.declared.act.LineFault.TheVariants.{TooLong, CutLine}
use Rattle.till_request.specs.declared.line.Found.{Found}
use Rattle.till_request.specs.declared.line.Found.TheVariants as found
use Rattle.line_session.specs.declared.answering.Ended.{Ended}
use Rattle.line_session.specs.Answering.{cut_count}

-- The fault with which a line ends a session: the line is too long, or is the last one and has no LF. None for a whole
-- line, and at the end of the input.
abbrev pub cut_by : Found → Option LineFault
cut_by found.Line = None
cut_by found.TooLong = Some TooLong
cut_by found.Cut = Some CutLine
cut_by found.End = None

-- `ended` is the result of a session that answered `lines` whole lines and then ended. If its last line was too long or
-- had no LF, `cut` is the fault of this line, and `ended.lines` includes the answer to this fault. Otherwise `cut` is
-- None.
pub record IsEnd (lines : ℕ) (cut : Option LineFault) (ended : Ended) : Type 0 where
  pub lines_are : ended.lines ≡ lines + cut_count cut
  pub cut_is : ended.cut ≡ cut
