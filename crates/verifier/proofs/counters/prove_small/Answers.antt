use Rattle.std.proofs.Common.{◌≡◌, ℕ, ◌≤◌, ◌<◌, ◌^◌, ◌+◌, ◌≢◌, length, arith, subst, sym, inl, inr}
use Rattle.std.specs.Prelude.{slice_index_or}
use Rattle.std.proofs.lemmas.Bool.{cases_eq}
use Rattle.std.proofs.lemmas.List.{get_or_default}
use Rattle.verifier.proofs.counters.prove_small.Goals as goal

pub loop-i-preserved : goal.loop-i-preserved
loop-i-preserved c k d l =
    let cells = c.args.cells.now in
    elim (cases_eq k c.loop-i.i) [
      | inl same ↦ let inside : c.loop-i.i < length cells = omega arith in
          let bound : (slice_index_or cells c.loop-i.i (0, 0)).1 < 2 ^ 64 =
          subst (λ n. n < 2 ^ 64) c.bound_at-small.ensures.bound c.bound_at-small.ensures.small in
          subst (λ q. (slice_index_or cells q d).1 < 2 ^ 64) (sym same)
          (subst (λ cell. cell.1 < 2 ^ 64) (get_or_default cells c.loop-i.i (0, 0) d inside) bound)
      | inr other ↦ c.loop-i.invariant k d (omega arith)
    ]
