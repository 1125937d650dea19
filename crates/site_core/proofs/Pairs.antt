-- Two pairs of numbers are equal exactly if `==` holds for both of their parts.
use Rattle.std.proofs.Common.{arith, ℕ, ◌≡◌, ap, ◌&&◌, nat_eq}
use Rattle.std.specs.Bool.{Decides}
use Rattle.std.proofs.lemmas.Bool.Decides.{nat_tests}

both-same : (a b c d : ℕ) → Decides (nat_eq a b && nat_eq c d) ((a ≡ b) × (c ≡ d))
both-same a b c d = (λ h. (grind (arith, nat_tests, h), grind (arith, nat_tests, h)), λ h. grind (arith, nat_tests, h.0, h.1))

pub pairs-same : (a b : ℕ × ℕ) → Decides (nat_eq a.0 b.0 && nat_eq a.1 b.1) (a ≡ b)
pairs-same a b =
    let t = both-same a.0 b.0 a.1 b.1 in
    (λ h. λ i. ((t.0 h).0 i, (t.0 h).1 i), λ h. t.1 (ap (λ (p : ℕ × ℕ). p.0) h, ap (λ (p : ℕ × ℕ). p.1) h))
