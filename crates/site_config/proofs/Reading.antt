-- If `read_head` has read at most 65,540 bytes, and neither they nor a beginning of them ends with a line `---`, then
-- they are no whole head (a configuration and its line `---`) yet.
use Rattle.std.proofs.Common.{◌≡◌, ℕ, ◌<◌, ◌≤◌, nat_lt, Bool, true, false, List, length, take, refl}
use Rattle.std.proofs.lemmas.Bool.{ltb-true, ltb-false}
use Rattle.std.proofs.lemmas.List.{take_all}
use Rattle.site_config.specs.Head.{ends_head, IsOpen}

none_ends : (bytes : List ℕ) (k : ℕ) (b : Bool) → nat_lt k (length bytes) ≡ b → ((k : ℕ) → k < length bytes → ends_head (take k bytes) ≡ false)
    → ends_head bytes ≡ false → ends_head (take k bytes) ≡ false
none_ends bytes k true t first last = first k (ltb-true k (length bytes) t)
none_ends bytes k false t first last = rw (take_all k bytes (ltb-false k (length bytes) t)) last

pub open_so : (bytes : List ℕ) → ((k : ℕ) → k < length bytes → ends_head (take k bytes) ≡ false) → ends_head bytes ≡ false → length bytes ≤ 65540
    → IsOpen bytes
open_so bytes first last few = (λ k le. none_ends bytes k (nat_lt k (length bytes)) refl first last, few)
