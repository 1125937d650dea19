use Rattle.std.proofs.Common.{◌≡◌, ◌∙◌, ap, ℕ, List, Bool, true, false, option_map, refl}
use Rattle.std.specs.Str.{is_utf8}
use Rattle.std.proofs.lemmas.Str.{is_utf8-from_IsUtf8, IsUtf8-from_is_utf8}
use Rattle.toml.specs.Errors.{IsMemory, IsWithin, span_start}
use Rattle.toml.specs.declared.de.error.Error.{Error}
use Rattle.site_config.specs.declared.flaw.ConfigFlaw.{ConfigFlaw}
use Rattle.site_config.specs.declared.flaw.ConfigFlaw.TheVariants.{NotToml, OutOfMemory}
use Rattle.site_config.specs.Document.{document_of}
use Rattle.site_config.specs.Flaws.{HasRightPosition, IsNotToml, IsOfText}
use Rattle.site_config.specs.Positions.{position_at}
use Rattle.site_config.specs.Words.{SaysFault}
use Rattle.site_config.proofs.document.read_document.Goals as goal

false_unless : (b : Bool) → (b ≡ true → ⊥) → b ≡ false
false_unless true n = absurd (n refl)
false_unless false n = refl

pub returns-in-Ok-table_from_str-clause-read : goal.returns-in-Ok-table_from_str-clause-read
unfolding document_of
returns-in-Ok-table_from_str-clause-read c =
    rw (is_utf8-from_IsUtf8 c.args.bytes.now c.in-Ok.ensures.cases.1) (rw c.in-Ok.ensures.cases.0 at c.in-Ok-table_from_str.ensures.ok)

pub returns-in-Err-clause-position : goal.returns-in-Err-clause-position
returns-in-Err-clause-position c = (
  false_unless (is_utf8 c.args.bytes.now) (λ h. c.in-Err.ensures.cases.0 (IsUtf8-from_is_utf8 c.args.bytes.now h)),
  c.position_at-line.ensures ∙ ap (position_at c.args.bytes.now) (c.valid_up_to.ensures ∙ c.in-Err.ensures.valid_len),
)

right : (bytes : List ℕ) (error : Error) (at : ℕ × ℕ) (says : List ℕ → Type 0) (flaw : ConfigFlaw) → is_utf8 bytes ≡ true → IsWithin bytes error
    → (IsMemory error → ⊥) → at ≡ position_at bytes (span_start error) → IsNotToml at says flaw → HasRightPosition bytes flaw
right bytes error at says (NotToml line column actual) text within gives start is = (text, (error, within, gives, is.0 ∙ start))
right bytes error at says OutOfMemory text within gives start is = text
right bytes error at says flaw text within gives start is = absurd is

of_text : (at : ℕ × ℕ) (says : List ℕ → Type 0) (flaw : ConfigFlaw) → IsNotToml at says flaw → (flaw ≡ OutOfMemory → ⊥) → IsOfText flaw
of_text at says (NotToml line column actual) is other = refl
of_text at says OutOfMemory is other = absurd (other refl)
of_text at says flaw is other = absurd is

pub returns-in-Some-clause-position : goal.returns-in-Some-clause-position
returns-in-Some-clause-position c =
    right c.args.bytes.now c.in-Err-table_from_str.error c.in-Some.at (SaysFault c.message.result.now (option_map (λ text. text.now) c.piece_of.result)) c.not_toml.result
    (is_utf8-from_IsUtf8 c.args.bytes.now c.in-Ok.ensures.cases.1) (rw c.in-Ok.ensures.cases.0 at c.in-Err-table_from_str.ensures.span)
    (λ memory. let none = c.in-Some.ensures.none.1 memory in absurd (cc)) (rw c.in-Ok.ensures.cases.0 at c.in-Some.ensures.start) c.not_toml.ensures

pub returns-in-Some-clause-fault : goal.returns-in-Some-clause-fault
returns-in-Some-clause-fault c = of_text c.in-Some.at (SaysFault c.message.result.now (option_map (λ text. text.now) c.piece_of.result)) c.not_toml.result c.not_toml.ensures

pub returns-in-None-clause-position : goal.returns-in-None-clause-position
returns-in-None-clause-position c = is_utf8-from_IsUtf8 c.args.bytes.now c.in-Ok.ensures.cases.1

pub returns-in-Err-clause-none : goal.returns-in-Err-clause-none
unfolding document_of
returns-in-Err-clause-none c n = rw (false_unless (is_utf8 c.args.bytes.now) (λ h. c.in-Err.ensures.cases.0 (IsUtf8-from_is_utf8 c.args.bytes.now h)))
