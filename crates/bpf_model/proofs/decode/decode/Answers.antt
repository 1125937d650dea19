use Rattle.std.proofs.Common.{◌≡◌, ◌<◌, ◌/◌, ◌∷◌, ◌++◌, [], length, None, add-one, sym, ap, subst, ◌∙◌, arith}
use Rattle.bpf_model.specs.Reading.{fault_below, units_below}
use Rattle.bpf_model.specs.DecodeFaults.{IsRefusedFor}
use Rattle.bpf_model.proofs.Decoding.{fault_stays, refused, right_length, units_more, sound_more, begins_more, all_units, first_sound}
use Rattle.bpf_model.proofs.decode.decode.Goals as goal

pub returns-in-Some-clause-refused : goal.returns-in-Some-clause-refused
returns-in-Some-clause-refused c =
    let bytes = c.args.bytes.now in
    let pc = c.loop-pc.pc in
    let len = right_length bytes (omega arith) (omega arith) (omega arith) in
    let before : pc < length bytes / 8 = omega arith in
    subst (IsRefusedFor bytes) (sym c.fault_at.ensures)
    (refused bytes pc c.in-Some.fault (record {
      right_length = len;
      first = fault_stays bytes pc (length bytes / 8) c.in-Some.fault before c.loop-pc.invariant.sound (sym c.in-Some.ensures);
    }))

pub returns-in-Err-clause-refused : goal.returns-in-Err-clause-refused
returns-in-Err-clause-refused c =
    let bytes = c.args.bytes.now in
    let pc = c.loop-pc.pc in
    let sound = sound_more bytes pc c.loop-pc.invariant.sound (sym c.in_default.ensures) in
    subst (IsRefusedFor bytes) (sym c.in-Err.ensures.refused) (record {
      right_length = right_length bytes (omega arith) (omega arith) (omega arith);
      first = first_sound bytes pc (rw (add-one pc) at sound);
    })

pub loop-pc-preserved : goal.loop-pc-preserved
loop-pc-preserved c =
    let bytes = c.args.bytes.now in
    let pc = c.loop-pc.pc in
    record {
      units =
          c.in_default-keep.ensures.kept ∙ ap (λ u. c.loop-pc.units.items ++ u ∷ []) c.read_unit.ensures
          ∙ units_more bytes pc c.loop-pc.units.items c.loop-pc.invariant.units;
      sound = sound_more bytes pc c.loop-pc.invariant.sound (sym c.in_default.ensures);
      place = begins_more bytes pc c.loop-pc.first c.begins_wide-first.result c.loop-pc.invariant.place c.begins_wide-first.ensures;
    }

pub invariant_of-result : goal.invariant_of-result
invariant_of-result c =
    let bytes = c.args.bytes.now in
    let pc = c.loop-pc.pc in
    let len = right_length bytes (omega arith) (omega arith) (omega arith) in
    let all : pc ≡ length bytes / 8 = omega arith in
    let inv = c.loop-pc.invariant in (
      bytes,
      all_units bytes c.loop-pc.units.items len (subst (λ n. fault_below bytes n ≡ None) all inv.sound)
          (subst (λ n. c.loop-pc.units.items ≡ units_below bytes n) all inv.units),
      λ k. omega (arith, c.type_inv.bytes k),
    )
