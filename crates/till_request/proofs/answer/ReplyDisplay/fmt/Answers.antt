use Rattle.std.proofs.Common.{◌≡◌, ◌∙◌, ap, arith, []}
use Rattle.std.proofs.lemmas.Str.Pattern.{strip_prefix_char}
use Rattle.till_request.specs.Answer.{reply_words}
use Rattle.till_request.specs.Short.{with_words}
use Rattle.till_request.proofs.Short.{behind_space}
use Rattle.till_request.proofs.answer.ReplyDisplay.fmt.Goals as goal

pub returns-in-Some-clause-writes : goal.returns-in-Some-clause-writes
returns-in-Some-clause-writes g c =
    let text : c.as_str.result.now ≡ with_words [] (reply_words c.args.self.now) =
    c.as_str.ensures.value ∙ c.put_reply.ensures.text ∙ ap (λ l. with_words l (reply_words c.args.self.now)) c.new-text.ensures in
    let same = rw c.in-Some.is at (behind_space c.args.self.now c.as_str.result.now c.strip_prefix.result text
    (strip_prefix_char 32 c.as_str.result.now c.strip_prefix.result c.strip_prefix.ensures.cases (omega arith))) in
    rw (← same) c.write_str.ensures.writes

pub returns-in-None-clause-writes : goal.returns-in-None-clause-writes
returns-in-None-clause-writes g c =
    let text : c.as_str.result.now ≡ with_words [] (reply_words c.args.self.now) =
    c.as_str.ensures.value ∙ c.put_reply.ensures.text ∙ ap (λ l. with_words l (reply_words c.args.self.now)) c.new-text.ensures in
    let never = rw c.in-None.is at (behind_space c.args.self.now c.as_str.result.now c.strip_prefix.result text
    (strip_prefix_char 32 c.as_str.result.now c.strip_prefix.result c.strip_prefix.ensures.cases (omega arith))) in
    absurd never
