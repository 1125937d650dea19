-- Lemmas: the rises of a gate's count of calls over several attempts at a request add up. For a result r, `IfOk r P`
-- holds if P holds for every value, and `IfErr r P` implies `IfErr r Q` if P implies Q for every error.
use Rattle.std.proofs.Common.{ℕ, ◌+◌, Result, Ok, Err, IfOk, IfErr, arith}
use Rattle.till_request.proofs.Counts.{rose_more}
use Rattle.site_lock.specs.Calls.{RoseWithin}

-- if a count rises twice, then the bounds of the two rises add up
pub rose_both : (a b c d x y z : ℕ) → RoseWithin a b x y → RoseWithin c d y z → RoseWithin (a + c) (b + d) x z
rose_both a b c d x y z h k = (h.0 + k.0, omega (arith, h.1, k.1), omega (arith, h.2, k.2), rose_more h.3 k.3)

pub if_ok_always : {T E : Type 0} (P : T → Type 0) (r : Result T E) → ((x : T) → P x) → IfOk r P
if_ok_always P (Ok x) h = h x
if_ok_always P (Err e) h = tt

pub if_err_more : {T E : Type 0} (P Q : E → Type 0) (r : Result T E) → ((e : E) → P e → Q e) → IfErr r P → IfErr r Q
if_err_more P Q (Ok x) more h = h
if_err_more P Q (Err e) more h = more e h

pub rose_none : (x : ℕ) → RoseWithin 0 2 x x
rose_none x = (0, omega arith, omega arith, record { same = omega arith })
