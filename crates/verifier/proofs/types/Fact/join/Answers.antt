use Rattle.std.proofs.Common.{arith, ◌≡◌, ◌∙◌, ℕ, ap, subst, sym, ◌↔◌, ◌<◌}
use Rattle.std.proofs.lemmas.List.{length-set, ext_get_or}
use Rattle.verifier.specs.Places.{Has}
use Rattle.verifier.specs.declared.types.RegType.TheVariants.{Unset}
use Rattle.verifier.proofs.Tables.{join_step, others_step, joined_all}
use Rattle.verifier.specs.Rules.{type_at, join_type}
use Rattle.verifier.proofs.Inference.{same_join}
use Rattle.verifier.proofs.types.Fact.join.Goals as goal

pub returns-clause-joined : goal.returns-clause-joined
returns-clause-joined c =
    let old = c.loop-r.invariant in
    same_join c.args.self.now c.args.other.now c.loop-r.self (omega arith) (let e = old.many in omega (arith, e))
    (joined_all c.args.self.now.types c.args.other.now.types c.loop-r.self.types c.loop-r.r (omega arith) (omega arith) (omega arith) (omega arith) old.joined)
    (subst (λ s. (p : ℕ) → Has s p ↔ (Has c.args.self.now.stack p × Has c.args.other.now.stack p)) (sym old.stack) c.meet.ensures)
    (old.spills ∙ c.join_spills.ensures)

pub returns-clause-both : goal.returns-clause-both
returns-clause-both c =
    let old = c.loop-r.invariant in
    ap (λ types. record { types = types; stack = c.loop-r.self.stack; spills = c.loop-r.self.spills })
    (ext_get_or Unset c.loop-r.other.types c.loop-r.self.types (old.other_many ∙ sym old.many)
    (λ k l. let many = old.other_many in let below : k < c.loop-r.r = omega (arith, l, many) in old.other_joined k below ∙ sym (old.joined k below)))

pub loop-r-preserved : goal.loop-r-preserved
loop-r-preserved c =
    let old = c.loop-r.invariant in
    let a = c.args.self.now.types in
    let b = c.args.other.now.types in
    let both : c.join.new.self ≡ join_type (type_at a c.loop-r.r) (type_at b c.loop-r.r) = c.join.ensures.joined ∙ ap
    (λ t. join_type t (type_at c.loop-r.other.types c.loop-r.r)) (old.others c.loop-r.r (omega arith))
    ∙ ap (join_type (type_at a c.loop-r.r)) (old.other_others c.loop-r.r (omega arith)) in
    record {
      many = length-set c.loop-r.self.types c.loop-r.r c.join.new.self ∙ old.many;
      joined = join_step c.loop-r.self.types a b c.loop-r.r c.join.new.self (omega arith) both old.joined;
      others = others_step c.loop-r.self.types a c.loop-r.r c.join.new.self old.others;
      stack = old.stack;
      spills = old.spills;
      other_many = length-set c.loop-r.other.types c.loop-r.r c.join.new.other ∙ old.other_many;
      other_joined = join_step c.loop-r.other.types a b c.loop-r.r c.join.new.other (omega arith) (c.join.ensures.both ∙ both) old.other_joined;
      other_others = others_step c.loop-r.other.types b c.loop-r.r c.join.new.other old.other_others;
    }
