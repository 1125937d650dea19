-- A line of more than five words is none that a script has.
use Rattle.std.proofs.Common.{◌≡◌, ℕ, ◌<◌, List, [], ◌∷◌, length, Option, None, Result, Ok, Err, refl, sym, ap, subst, arith}
use Rattle.till_request.specs.declared.act.LineFault.{LineFault}
use Rattle.till_request.specs.declared.act.LineFault.TheVariants.{TooLong, BadLine, BadNumber, CutLine, OtherDoor, OutOfMemory}
use Rattle.till_request.specs.declared.act.Role.TheVariants.{All}
use Rattle.till_request.specs.declared.look.Asked.{Asked}
use Rattle.till_request.specs.Grammar.{◌>>=◌}
use Rattle.till_request.specs.Looks.{asked_or_told, fault_told, words_asked}
use Rattle.till_request.proofs.Looking as looking
use Rattle.file_jobs.specs.declared.script.ScriptLine.{ScriptLine}
use Rattle.file_jobs.specs.Script.{asking_line, line_for, line_or, own_line, words_line}

not_own : (ws : List (List ℕ)) → 5 < length ws → own_line ws ≡ None
not_own [] many = absurd (omega arith)
not_own (a ∷ []) many = absurd (omega arith)
not_own (a ∷ b ∷ []) many = absurd (omega arith)
not_own (a ∷ b ∷ c ∷ ws) many = refl

-- to all roles together a fault is told as it is
untold : (ws : List (List ℕ)) (asked : Result Asked LineFault) → asked_or_told (fault_told All ws) asked ≡ Err BadLine → asked ≡ Err BadLine
untold ws (Ok a) told = absurd (cc)
untold ws (Err TooLong) told = told
untold ws (Err BadLine) told = refl
untold ws (Err BadNumber) told = told
untold ws (Err CutLine) told = told
untold ws (Err OtherDoor) told = told
untold ws (Err OutOfMemory) told = told

pub too_many : (ws : List (List ℕ)) → 5 < length ws → words_line ws ≡ Err BadLine
too_many ws many =
    let asked : words_asked All ws ≡ Err BadLine = untold ws (words_asked All ws) (looking.too_many All ws many) in
    let asking : asking_line ws ≡ Err BadLine = ap (λ r. r >>= line_for) asked in
    subst (λ (own : Option (Result ScriptLine LineFault)). line_or own (asking_line ws) ≡ Err BadLine) (sym (not_own ws many)) asking
