use Rattle.std.proofs.Common.{◌≡◌, ◌∙◌, sym, subst, arith, None}
use Rattle.std.proofs.lemmas.Grind.{common_steps}
use Rattle.std.specs.Arc.{arc_value}
use Rattle.bpf_model.specs.Program.{ProgramText, IsGood}
use Rattle.verifier.specs.RefusedPrograms.{refusal_of}
use Rattle.till_request.specs.declared.act.Act.TheVariants as act
use Rattle.site_core.specs.Histories.{load_refusal}
use Rattle.site_core.specs.Legal.{GoodLoad}
use Rattle.site_core.proofs.perform.perform.Goals as goal

pub returns-in_ok-reply-in-Load-clause-performed : goal.returns-in_ok-reply-in-Load-clause-performed
returns-in_ok-reply-in-Load-clause-performed c = λ past agrees.
    let l = c.in_ok-reply-in-Load.ensures.reply c.args.config.now past agrees in
    let p : ProgramText = arc_value c.in-Load.program in
    let entry = c.entry_without_run-in-Load.result in
    let act_is : entry.act ≡ act.Load c.in-Load.slot p.declared p.layout p.bytes = grind (arith, common_steps) in
    let reply_is : entry.reply ≡ c.in_ok-reply-in-Load.reply = grind (arith, common_steps) in
    let number_is : entry.number ≡ c.args.number = grind (arith, common_steps) in
    let accepted : refusal_of p ≡ None = rw c.deref.ensures at c.bytes.ensures.accepted in
    let good : IsGood p = rw c.deref.ensures at c.bytes.ensures.good in
    record {
      act_is = grind (arith, common_steps);
      moment_is = grind (arith, common_steps);
      effect_is = grind (arith, common_steps, l.reply_is);
      agrees = λ other same answered numbered. l.agrees other (same ∙ act_is) (answered ∙ reply_is) (numbered ∙ number_is);
      accepted = subst (λ a. load_refusal a ≡ None) (sym act_is) accepted;
      good = subst GoodLoad (sym act_is) good;
    }
