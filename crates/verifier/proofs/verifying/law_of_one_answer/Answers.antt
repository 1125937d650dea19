use Rattle.verifier.proofs.Answering.{one_answer}
use Rattle.verifier.proofs.verifying.law_of_one_answer.Goals as goal

pub returns : goal.returns
returns c = one_answer
