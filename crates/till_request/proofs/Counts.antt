-- If a counter that wraps at 2^64 rises by j and then by k, it rises by j + k in all.
use Rattle.std.proofs.Common.{◌≡◌, ℕ, ◌+◌, ◌-◌, ◌≤◌, ◌*◌, ◌%◌, arith}
use Rattle.std.proofs.Math.Nat.{add-mul}
use Rattle.till_request.specs.Count.{RoseBy}

mod_more : (a b c j k : ℕ) → b % 18446744073709551616 ≡ (a + j) % 18446744073709551616 → c % 18446744073709551616 ≡ (b + k) % 18446744073709551616
    → c % 18446744073709551616 ≡ (a + (j + k)) % 18446744073709551616
mod_more a b c j k h g = omega arith

pub rose_more : {a b c j k : ℕ} → RoseBy j a b → RoseBy k b c → RoseBy (j + k) a c
rose_more {a} {b} {c} {j} {k} h g = record { same = mod_more a b c j k h.same g.same }

-- if r ≤ q ≤ p, and a counter rises by p - q and then by q - r, it rises by p - r in all
pub rose_left : (p q r : ℕ) {a b c : ℕ} → q ≤ p → r ≤ q → RoseBy (p - q) a b → RoseBy (q - r) b c → RoseBy (p - r) a c
rose_left p q r h k s t = let e : (p - q) + (q - r) ≡ p - r = omega arith in rw (← e) (rose_more s t)

-- if r ≤ q ≤ p, and a counter rises by (p - q) * n and then by (q - r) * n, it rises by (p - r) * n in all
pub rose_left_times : (p q r n : ℕ) {a b c : ℕ} → q ≤ p → r ≤ q → RoseBy ((p - q) * n) a b → RoseBy ((q - r) * n) b c → RoseBy ((p - r) * n) a c
rose_left_times p q r n h k s t = let e : (p - q) + (q - r) ≡ p - r = omega arith in rw (← e, add-mul (p - q) (q - r) n) (rose_more s t)
