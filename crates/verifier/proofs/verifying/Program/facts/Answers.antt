use Rattle.std.proofs.Common.{◌≡◌, sym, subst, arith, length}
use Rattle.verifier.specs.Passing.{IsFactCount, IsBoundedByTargets}
use Rattle.verifier.proofs.Counting.{counts, few, facts_small}
use Rattle.verifier.proofs.verifying.Program.facts.Goals as goal

pub overflow_cast-result : goal.overflow_cast-result
overflow_cast-result c =
    let p = c.self.inside in
    let l = facts_small p.bytes.items c.self.invariant.us p.options p.facts.items c.self.invariant.accepted in
    record { fits = omega (arith, l, c.len.ensures) }

pub returns-clause-number : goal.returns-clause-number
returns-clause-number c =
    let p = c.self.inside in
    let n : c.len.result ≡ length p.facts.items = omega (arith, c.len.ensures) in
    subst (λ n. IsFactCount c.args.self.now n) (sym n)
    (subst (λ t. IsFactCount t (length p.facts.items)) c.self.view_is
    (counts p.bytes.items c.self.invariant.us p.options p.facts.items c.self.invariant.accepted))

pub returns-clause-few : goal.returns-clause-few
returns-clause-few c =
    let p = c.self.inside in
    let n : c.len.result ≡ length p.facts.items = omega (arith, c.len.ensures) in
    subst (λ n. IsBoundedByTargets c.args.self.now.bytes n) (sym n)
    (subst (λ t. IsBoundedByTargets t.bytes (length p.facts.items)) c.self.view_is (few p.bytes.items c.self.invariant.us p.options p.facts.items c.self.invariant.accepted))
