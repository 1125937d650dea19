use Rattle.std.proofs.Common.{◌≡◌, ◌+◌, ◌<◌, length, map, [], ◌∷◌, ◌++◌, arith}
use Rattle.std.specs.Arc.{arc_value}
use Rattle.std.proofs.lemmas.List.{map-append, length-map}
use Rattle.std.proofs.lemmas.Grind.{common_steps}
use Rattle.site_core.proofs.Installs.{installs}
use Rattle.site_core.proofs.slots.Slots.install.Goals as goal

pub returns-clause-step : goal.returns-clause-step
returns-clause-step c =
    let s = c.self.inside in
    let old = s.programs.items in
    let pushed : c.push.new.self.items ≡ old ++ c.args.program ∷ [] = grind (arith, common_steps) in
    let programs : map (λ x. arc_value x) c.push.new.self.items ≡ map (λ x. arc_value x) old ++ arc_value c.args.program ∷ [] =
    rw pushed (map-append (λ x. arc_value x) old (c.args.program ∷ [])) in
    let count : length (map (λ x. arc_value x) old) ≡ length old = length-map old (λ x. arc_value x) in
    let number : s.before + c.len-2.result ≡ s.before + length (map (λ x. arc_value x) old) + 1 = rw count (grind (arith, common_steps)) in
    let at : c.args.slot < length s.installed = grind (arith, common_steps) in
    let entry_at : c.args.slot < length s.since = grind (arith, common_steps) in
    rw (← c.self.view_is, programs) (installs s.before s.opened.items s.installed s.since (map (λ x. arc_value x) old) c.args.slot (arc_value c.args.program)
    c.args.entry (s.before + c.len-2.result) number at entry_at (rw count c.self.invariant.named))
