use Rattle.std.proofs.Common.{◌≡◌, Some, drop, fold}
use Rattle.file_jobs.specs.Mask.{with_digit}
use Rattle.file_jobs.proofs.mask.digits_read.Given as goal

abbrev pub invariant-loop-byte : goal.invariant-loop-byte
invariant-loop-byte l =
    fold (with_digit l.is_hexadecimal) l.number (drop l.byte-index l.digits) ≡ fold (with_digit l.is_hexadecimal) (Some 0) l.digits
