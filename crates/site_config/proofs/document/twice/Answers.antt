use Rattle.std.proofs.Common.{◌≡◌, ◌++◌, List, ℕ, Result, Ok, Err, IfOk, string_bytes, codes, subst, rules}
use Rattle.std.specs.Global.{Global}
use Rattle.std.specs.Prelude.{String}
use Rattle.std.specs.Str.{IsTrimAscii}
use Rattle.site_config.specs.Words.{SaysTwice, key_part}
use Rattle.site_config.proofs.document.twice.Goals as goal

named : {E : Type 0} (piece key : List ℕ) (made : Result (String Global) E) → IsTrimAscii (key_part piece) key
    → IfOk made (λ words. string_bytes words ≡ codes "the key '" ++ (key ++ codes "' stands twice")) → IfOk made (λ words. SaysTwice piece (string_bytes words))
named piece key (Ok words) trimmed text = (key, trimmed, text)
named piece key (Err why) trimmed text = search rules

pub returns : goal.returns
returns c =
    named c.args.piece.now c.trim_ascii-key.result.now c.format.result
    (subst (λ part. IsTrimAscii part c.trim_ascii-key.result.now) c.key_part.ensures c.trim_ascii-key.ensures.value) c.format.ensures.ok
