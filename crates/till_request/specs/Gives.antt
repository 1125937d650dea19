-- Promises: a function's result is the one that a definition gives, unless memory ran out.
use Rattle.std.specs.Prelude.{◌≡◌, Result, Ok, Err}
use Rattle.till_request.specs.declared.act.LineFault.{LineFault}
use Rattle.till_request.specs.declared.act.LineFault.TheVariants.{OutOfMemory}

-- The first argument is a fault that a function of the code returned. `given` is the result that a definition of the
-- specifications gives. If the fault is `OutOfMemory`, nothing is stated. Otherwise `given` is the same fault.
abbrev pub Fails : {Y : Type 0} → LineFault → Result Y LineFault → Type 0
Fails OutOfMemory given = Unit {0}
Fails fault given = given ≡ Err fault

-- The first argument is the result of a function of the code. `given` is the result that a definition of the
-- specifications gives. If the function returned the fault `OutOfMemory`, nothing is stated. Otherwise `given` is the
-- same result.
abbrev pub Gives : {Y : Type 0} → Result Y LineFault → Result Y LineFault → Type 0
Gives (Ok x) given = given ≡ Ok x
Gives (Err fault) given = Fails fault given
