use Rattle.std.proofs.Common.{◌≡◌, ℕ, ◌+◌, List, [], ◌∷◌, ◌++◌, map, sym, ◌∙◌, arith, rules}
use Rattle.std.specs.List.{range_with_len}
use Rattle.std.proofs.lemmas.Grind.{common_steps}
use Rattle.std.proofs.lemmas.List.FromFn.{map-range_with_len_more}
use Rattle.site_core.specs.Slots.{version_in}
use Rattle.site_core.proofs.slots.Slots.rules.Goals as goal

one-more : {X : Type 0} (f : ℕ → X) (n : ℕ) (items pushed : List X) (x : X) → items ≡ map f (range_with_len 0 n) → x ≡ f n → pushed ≡ items ++ x ∷ []
    → pushed ≡ map f (range_with_len 0 (n + 1))
one-more f n items pushed x so_far last more =
    more ∙ (λ i. so_far i ++ last i ∷ []) ∙ sym (map-range_with_len_more f 0 n n (omega arith))

pub loop-slot-preserved : goal.loop-slot-preserved
loop-slot-preserved c =
    let pushed : c.push.new.self.items ≡ c.loop-slot.rules.items ++ c.in_ok-rule.field-0 ∷ [] = grind (arith, common_steps) in
    record {
      each = one-more (λ slot. version_in c.args.self.now slot) c.loop-slot.slot c.loop-slot.rules.items c.push.new.self.items c.in_ok-rule.field-0
          c.loop-slot.invariant.each c.in_ok-rule.ensures.same pushed;
      good = search rules;
    }
