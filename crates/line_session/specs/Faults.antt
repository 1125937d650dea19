-- Promises: the fault with which a session ends after a fault of its input, or after an error of its handler.
use Rattle.till_request.specs.declared.line.InputFault.{InputFault}
use Rattle.till_request.specs.declared.line.InputFault.TheVariants as input
use Rattle.line_session.specs.declared.line_handler.HandlerError.{HandlerError}
use Rattle.line_session.specs.declared.line_handler.HandlerError.TheVariants as error
use Rattle.line_session.specs.declared.answering.SessionFault.{SessionFault}
use Rattle.line_session.specs.declared.answering.SessionFault.TheVariants.{Read, Write, ReadsSpent, OutOfMemory, Journal, NextDay}

abbrev pub fault_of_input : InputFault → SessionFault
fault_of_input input.Read = Read
fault_of_input input.ReadsSpent = ReadsSpent
fault_of_input input.OutOfMemory = OutOfMemory

abbrev pub fault_of_handler : HandlerError → SessionFault
fault_of_handler error.Write = Write
fault_of_handler error.OutOfMemory = OutOfMemory
fault_of_handler error.Journal = Journal
fault_of_handler error.NextDay = NextDay
