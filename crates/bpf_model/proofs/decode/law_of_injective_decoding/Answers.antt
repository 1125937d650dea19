use Rattle.bpf_model.proofs.Encoding.{one_spelling}
use Rattle.bpf_model.proofs.decode.law_of_injective_decoding.Goals as goal

pub returns : goal.returns
returns c = one_spelling
