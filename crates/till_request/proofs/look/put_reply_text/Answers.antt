use Rattle.std.proofs.Common.{◌≡◌, ◌∙◌, ap, arith, rules, []}
use Rattle.std.proofs.lemmas.Str.Pattern.{strip_prefix_char}
use Rattle.till_request.specs.Answer.{reply_words}
use Rattle.till_request.specs.Short.{with_words}
use Rattle.till_request.proofs.Short.{behind_space}
use Rattle.till_request.proofs.look.put_reply_text.Goals as goal

pub returns-in-Some : goal.returns-in-Some
returns-in-Some c =
    let text : c.as_str.result.now ≡ with_words [] (reply_words c.args.reply.now) =
    c.as_str.ensures.value ∙ c.put_reply.ensures.text ∙ ap (λ l. with_words l (reply_words c.args.reply.now)) c.new-words.ensures in
    let same = rw c.in-Some.is at (behind_space c.args.reply.now c.as_str.result.now c.strip_prefix.result text
    (strip_prefix_char 32 c.as_str.result.now c.strip_prefix.result c.strip_prefix.ensures.cases (omega arith))) in
    rw (← same, ← c.as_bytes.ensures.value) (search rules)

pub returns-in-None : goal.returns-in-None
returns-in-None c =
    let text : c.as_str.result.now ≡ with_words [] (reply_words c.args.reply.now) =
    c.as_str.ensures.value ∙ c.put_reply.ensures.text ∙ ap (λ l. with_words l (reply_words c.args.reply.now)) c.new-words.ensures in
    let never = rw c.in-None.is at (behind_space c.args.reply.now c.as_str.result.now c.strip_prefix.result text
    (strip_prefix_char 32 c.as_str.result.now c.strip_prefix.result c.strip_prefix.ensures.cases (omega arith))) in
    absurd never
