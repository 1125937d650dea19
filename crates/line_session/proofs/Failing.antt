-- If a session returns the fault of one of its steps, then what holds for this fault holds for the result.
use Rattle.std.proofs.Common.{◌≡◌, Result, Ok, Err, IfErr, sym, subst}
use Rattle.std.specs.Result.{IsErr, IsErrAnd}
use Rattle.line_session.specs.declared.answering.SessionFault.{SessionFault}

-- if the result is the fault `f`, and P holds for `f`, then P holds for the result's fault
pub if_returned : {T : Type 0} (r : Result T SessionFault) (f : SessionFault) → IsErr r × IsErrAnd r (λ e. e ≡ f) → (P : SessionFault → Type 0) → P f → IfErr r P
if_returned (Ok x) f h P p = tt
if_returned (Err fault) f h P p = subst P (sym h.1) p
