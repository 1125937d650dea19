use Rattle.bpf_asm.proofs.EveryForm.{round_trip}
use Rattle.bpf_asm.proofs.law_of_canonical_text.Goals as goal

pub returns : goal.returns
returns c = round_trip
