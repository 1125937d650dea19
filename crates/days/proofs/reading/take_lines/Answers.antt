use Rattle.std.proofs.Common.{◌<◌, List, ℕ, [], Bor, Option, length, subst, suc, sym}
use Rattle.std.specs.Option.{option_map_or}
use Rattle.days.specs.Reading.{Reads, pieces}
use Rattle.days.proofs.Compared.{parted, shrinks}
use Rattle.days.proofs.reading.take_lines.Goals as goal

pub loop-rest-smaller : goal.loop-rest-smaller
loop-rest-smaller c =
    let left : Option (Bor (List ℕ)) → ℕ = λ o. option_map_or (λ (r : Bor (List ℕ)). suc (length r.now)) o 0 in
    subst (λ o. left c.first_part.result.1 < left o) (sym c.in-Some.is)
    (shrinks (λ (r : Bor (List ℕ)). r.now) c.first_part.result.1 c.in-Some.text.now c.first_part.result.0.now c.first_part.ensures)

pub loop-rest-preserved : goal.loop-rest-preserved
loop-rest-preserved c = λ new reads.
    c.loop-rest.invariant new
    (subst (λ o. Reads c.loop-rest.reading (option_map_or (λ (r : Bor (List ℕ)). pieces r.now) o []) new) (sym c.in-Some.is)
    (subst (λ ps. Reads c.loop-rest.reading ps new)
    (sym (parted (λ (r : Bor (List ℕ)). r.now) c.first_part.result.1 c.in-Some.text.now c.first_part.result.0.now c.first_part.ensures))
    (c.take_line.new.reading, c.in_ok-take_line.ensures, reads)))
