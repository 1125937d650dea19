use Rattle.std.proofs.Common.{◌≡◌, sym, subst, ◌∙◌, Some, None, Err, ap, refl}
use Rattle.bpf_model.specs.Reading.{units}
use Rattle.bpf_model.proofs.Decoding.{begun}
use Rattle.verifier.specs.LoadOptions.{options_of}
use Rattle.bpf_model.specs.Program.{as_loaded}
use Rattle.verifier.specs.Operations.{AreOperations}
use Rattle.verifier.specs.Facts.{stored}
use Rattle.bpf_model.specs.Flow.{GoesForward, flow_fault}
use Rattle.verifier.specs.Inference.{first_flaw}
use Rattle.verifier.specs.Passing.{AreInferred, IsPassRefused, WrapsNoOutOfMemory, decode_fault_refusal}
use Rattle.verifier.specs.Refusals.{refusal_numbers}
use Rattle.verifier.specs.declared.refusal.Refusal.TheVariants.{Flow}
use Rattle.verifier.specs.RefusedPrograms.{IsRefusal, IsRefused, refusal_of}
use Rattle.verifier.proofs.Accepted.{good_by}
use Rattle.verifier.proofs.Answering.{accepted, pass_shown, pass_exact, exact_plain, begin_right, decode_exact, decode_numbers, decode_alone, fault_of_err}
use Rattle.verifier.proofs.Answering.{flow_exact, flow_alone, pass_alone, memory_alone, never_wrong}
use Rattle.verifier.proofs.Walking.{walked}
use Rattle.verifier.proofs.verifying.verify.Goals as goal

pub invariant_of-result : goal.invariant_of-result
invariant_of-result c =
    let flow = c.in-Ok-check_flow.ensures.ok.0 in
    let same = c.units-units.ensures.same ∙ c.code.ensures.same ∙ flow in
    let own = c.units-units.ensures.same ∙ c.code.ensures.same in
    let reads = ap units c.in-Ok-from_slice.ensures.items ∙ c.in-Ok.ensures.ok ∙ ap Some (sym flow) in
    record {
      us = c.in-Ok-check_flow.flow;
      accepted =
          record {
            reads = reads;
            forward = c.code.ensures.forward;
            flows = subst (λ us. flow_fault us ≡ None) (sym flow) c.in-Ok-check_flow.ensures.ok.1;
            flawless = subst (λ us. first_flaw us (options_of (as_loaded c.args.bytes.now c.args.declared c.args.layout)) ≡ None) own
                c.in-Ok-infer.ensures.flawless;
            inferred_are = subst (λ us. AreInferred us (options_of (as_loaded c.args.bytes.now c.args.declared c.args.layout)) (stored c.in-Ok-infer.facts.items))
                own c.in-Ok-infer.ensures.inferred;
            distinct = c.in-Ok-infer.ensures.distinct;
            walked = walked c.in-Ok-from_slice.copied_bytes.items c.in-Ok-check_flow.flow (options_of (as_loaded c.args.bytes.now c.args.declared c.args.layout)) reads;
          };
      decoded = subst (λ us. AreOperations us c.in-Ok-operations_of.ops.items) own c.in-Ok-operations_of.ensures;
    }

pub returns-in-Err : goal.returns-in-Err
returns-in-Err c =
    let exact = decode_exact c.args.bytes.now (options_of (as_loaded c.args.bytes.now c.args.declared c.args.layout)) c.in-Err.fault c.in-Err.ensures.refused in
    let told = c.refused_for.ensures in
    record {
      same = tt;
      good = tt;
      answers = subst (IsRefusal (refusal_of (as_loaded c.args.bytes.now c.args.declared c.args.layout))) (sym told) exact;
      alone = subst WrapsNoOutOfMemory (sym told) (decode_alone c.in-Err.fault);
      refused = subst (IsRefused (as_loaded c.args.bytes.now c.args.declared c.args.layout)) (sym told)
          (decode_numbers c.args.bytes.now (options_of (as_loaded c.args.bytes.now c.args.declared c.args.layout)) c.in-Err.fault c.in-Err.ensures.refused);
      plain = λ p. told ∙ exact_plain c.args.bytes.now (options_of (as_loaded c.args.bytes.now c.args.declared c.args.layout))
          (decode_fault_refusal c.in-Err.fault) exact p;
      begins = tt;
      length = λ wrong. ap Err (told ∙ ap decode_fault_refusal (fault_of_err c.in-Err.fault (c.in-Err.ensures.length wrong)));
      memory = λ none. begin_right c.args.bytes.now c.in-Err.fault c.in-Err.ensures.refused (sym (ap refusal_numbers told) ∙ none);
    }

pub returns-in-Err-check_flow : goal.returns-in-Err-check_flow
returns-in-Err-check_flow c =
    let right = begun c.args.bytes.now c.in-Ok.code c.in-Ok.ensures.ok in
    let exact = flow_exact c.args.bytes.now (options_of (as_loaded c.args.bytes.now c.args.declared c.args.layout)) c.in-Ok.code c.in-Err-check_flow.fault c.in-Ok.ensures.ok
    c.in-Err-check_flow.ensures.refused in
    record {
      same = tt;
      good = tt;
      answers = exact;
      alone = flow_alone c.in-Ok.code c.in-Err-check_flow.fault c.in-Err-check_flow.ensures.refused;
      refused = (c.in-Ok.code, c.in-Ok.ensures.ok, c.in-Err-check_flow.ensures.refused);
      plain = exact_plain c.args.bytes.now (options_of (as_loaded c.args.bytes.now c.args.declared c.args.layout)) (Flow c.in-Err-check_flow.fault) exact;
      begins = tt;
      length = never_wrong _ c.args.bytes.now right;
      memory = λ none. right;
    }

pub returns-in_default : goal.returns-in_default
returns-in_default c =
    let right = begun c.args.bytes.now c.in-Ok.code c.in-Ok.ensures.ok in
    record {
      same = tt;
      good = tt;
      answers = tt;
      alone = memory_alone;
      refused = tt;
      plain = λ p. refl;
      begins = tt;
      length = never_wrong _ c.args.bytes.now right;
      memory = λ none. right;
    }

pub returns-in-Err-infer : goal.returns-in-Err-infer
returns-in-Err-infer c =
    let right = begun c.args.bytes.now c.in-Ok.code c.in-Ok.ensures.ok in
    let same = c.units-units.ensures.same ∙ c.code.ensures.same ∙ c.in-Ok-check_flow.ensures.ok.0 in
    let passed : IsPassRefused c.in-Ok.code (options_of (as_loaded c.args.bytes.now c.args.declared c.args.layout)) c.in-Err-infer.refusal =
    subst (λ us. IsPassRefused us (options_of (as_loaded c.args.bytes.now c.args.declared c.args.layout)) c.in-Err-infer.refusal) same c.in-Err-infer.ensures.refused in
    let exact = pass_exact c.args.bytes.now c.in-Ok.code (options_of (as_loaded c.args.bytes.now c.args.declared c.args.layout)) c.in-Ok.ensures.ok c.in-Ok-check_flow.ensures.ok.1 c.in-Err-infer.refusal passed in
    record {
      same = tt;
      good = tt;
      answers = exact;
      alone = pass_alone c.in-Ok.code (options_of (as_loaded c.args.bytes.now c.args.declared c.args.layout)) c.in-Err-infer.refusal passed;
      refused = pass_shown c.args.bytes.now c.in-Ok.code (options_of (as_loaded c.args.bytes.now c.args.declared c.args.layout)) c.in-Ok.ensures.ok c.in-Ok-check_flow.ensures.ok.1 c.in-Err-infer.refusal passed;
      plain = exact_plain c.args.bytes.now (options_of (as_loaded c.args.bytes.now c.args.declared c.args.layout)) c.in-Err-infer.refusal exact;
      begins = tt;
      length = never_wrong _ c.args.bytes.now right;
      memory = λ none. right;
    }

pub returns-in_default-operations_of : goal.returns-in_default-operations_of
returns-in_default-operations_of c =
    let right = begun c.args.bytes.now c.in-Ok.code c.in-Ok.ensures.ok in
    record {
      same = tt;
      good = tt;
      answers = tt;
      alone = memory_alone;
      refused = tt;
      plain = λ p. refl;
      begins = tt;
      length = never_wrong _ c.args.bytes.now right;
      memory = λ none. right;
    }

pub returns : goal.returns
returns c =
    let right = begun c.args.bytes.now c.in-Ok.code c.in-Ok.ensures.ok in
    let flow = c.in-Ok-check_flow.ensures.ok.0 in
    let units_are = c.units-units.ensures.same ∙ c.code.ensures.same ∙ flow in
    let flawless = subst (λ us. first_flaw us (options_of (as_loaded c.args.bytes.now c.args.declared c.args.layout)) ≡ None) units_are c.in-Ok-infer.ensures.flawless in
    let same = ap (λ bytes. as_loaded bytes c.args.declared c.args.layout) c.in-Ok-from_slice.ensures.items in
    record {
      same = same;
      good = good_by c.args.bytes.now (options_of (as_loaded c.args.bytes.now c.args.declared c.args.layout)) c.in-Ok.code c.in-Ok.ensures.ok (subst GoesForward flow c.code.ensures.forward) flawless;
      answers = (same, accepted c.args.bytes.now c.in-Ok.code (options_of (as_loaded c.args.bytes.now c.args.declared c.args.layout)) c.in-Ok.ensures.ok c.in-Ok-check_flow.ensures.ok.1 flawless);
      alone = tt;
      refused = tt;
      plain = tt;
      begins = right;
      length = never_wrong _ c.args.bytes.now right;
      memory = tt;
    }
