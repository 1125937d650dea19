-- Promises: which results of a write mean that the device failed.
use Rattle.std.specs.Prelude.{Result, Ok, Err, Bool, true, false}
use Rattle.till_request.specs.declared.write.WriteFault.{WriteFault}
use Rattle.till_request.specs.declared.write.WriteFault.TheVariants.{Write, OutOfMemory}

-- whether the result is that the device failed
abbrev pub is_write_fault : {T : Type 0} → Result T WriteFault → Bool
is_write_fault (Err Write) = true
is_write_fault (Err OutOfMemory) = false
is_write_fault (Ok x) = false
