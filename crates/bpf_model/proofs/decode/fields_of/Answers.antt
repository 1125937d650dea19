use Rattle.std.proofs.Common.{rules, FitsSigned, w16, w32}
use Rattle.std.proofs.lemmas.Int.{to_z-of_z}
use Rattle.std.proofs.lemmas.List.{take_rest}
use Rattle.bpf_model.proofs.decode.fields_of.Goals as goal

pub returns : goal.returns
returns c =
    let f : FitsSigned w16 c.read_i16.result = search rules in
    let g : FitsSigned w32 c.read_i32.result = search rules in
    rw (to_z-of_z w16 c.read_i16.result f, to_z-of_z w32 c.read_i32.result g, c.read_i16.ensures, c.read_i32.ensures) (simp take_rest)
