-- Appending one or more words to a text, with a space before each, appends a space and the words joined by spaces.
use Rattle.std.proofs.Common.{◌≡◌, ◌≢◌, ℕ, List, [], ◌∷◌, ◌++◌, codes, Option, Some, None, MatchOption, Bor, refl, sym, ◌∙◌, append_assoc, map}
use Rattle.std.specs.Fmt.{decimal}
use Rattle.std.specs.List.{join_with_byte}
use Rattle.std.specs.Option.{option_to_list}
use Rattle.till_request.specs.declared.act.Answer.TheVariants.{Entered, Program}
use Rattle.till_request.specs.declared.act.Reply.{Reply}
use Rattle.till_request.specs.declared.act.Reply.TheVariants as replies
use Rattle.till_request.specs.Answer.{answer_text, order_words, reply_text, reply_words}
use Rattle.till_request.specs.Short.{with_words}

words_joined : (text word : List ℕ) (words : List (List ℕ)) → with_words text (word ∷ words) ≡ text ++ 32 ∷ join_with_byte 32 (word ∷ words)
words_joined text word [] = refl
words_joined text word (next ∷ words) =
    words_joined (text ++ 32 ∷ word) next words ∙ append_assoc text (32 ∷ word) (32 ∷ join_with_byte 32 (next ∷ words))

-- a text and then a reply's words, with a space before each, are the text, a space and the reply's text
pub replied : (text : List ℕ) (reply : Reply) → with_words text (reply_words reply) ≡ text ++ 32 ∷ reply_text reply
replied text replies.Done = words_joined text (codes "done") []
replied text (replies.Granted amount version) = words_joined text (codes "granted") (decimal amount ∷ codes "by" ∷ decimal version ∷ [])
replied text (replies.Version version) = words_joined text (codes "version") (decimal version ∷ [])
replied text (replies.Order order) = words_joined text (codes "order") (order_words order)
replied text (replies.Point state nozzle unpaid amount volume limit preset) =
    words_joined text (codes "point")
    (decimal state ∷ decimal nozzle ∷ decimal amount ∷ decimal volume ∷ decimal limit ∷ decimal preset ∷ decimal unpaid ∷ [])
replied text (replies.Refused number None) = words_joined text (codes "S" ++ decimal number) []
replied text (replies.Refused number (Some value)) = words_joined text (codes "S" ++ decimal number) (decimal value ∷ [])

pub entered : (number : ℕ) (reply : Reply) → with_words (decimal number) (reply_words reply) ≡ answer_text (Entered number reply)
entered number reply = replied (decimal number) reply

pub refused : (number : ℕ) (unit part : Option ℕ)
    → with_words (with_words (codes "V" ++ decimal number) (map decimal (option_to_list unit))) (map decimal (option_to_list part))
    ≡ answer_text (Program number unit part)
refused number None None = refl
refused number None (Some part) = words_joined (codes "V" ++ decimal number) (decimal part) []
refused number (Some unit) None = words_joined (codes "V" ++ decimal number) (decimal unit) []
refused number (Some unit) (Some part) = words_joined (codes "V" ++ decimal number) (decimal unit) (decimal part ∷ [])

-- if a text is a reply's words, with a space before each, then what follows its first space is the reply's text
pub behind_space : (reply : Reply) (text : List ℕ) (found : Option (Bor (List ℕ))) → text ≡ with_words [] (reply_words reply)
    → MatchOption found ((rest : List ℕ) → text ≢ 32 ∷ rest) (λ x. text ≡ 32 ∷ x.now) → MatchOption found ⊥ (λ x. x.now ≡ reply_text reply)
behind_space reply text None e h = h (reply_text reply) (e ∙ replied [] reply)
behind_space reply text (Some x) e h = let same : 32 ∷ x.now ≡ 32 ∷ reply_text reply = sym h ∙ e ∙ replied [] reply in cc
