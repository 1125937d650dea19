use Rattle.std.proofs.Common.{◌≡◌, ◌∙◌, [], ap, sym, map-id}
use Rattle.std.specs.List.{flat_map}
use Rattle.std.proofs.Output.{has_written_of_eq}
use Rattle.std.proofs.lemmas.Grind.{put_two}
use Rattle.std.proofs.lemmas.List.{flat_map_more}
use Rattle.std.proofs.lemmas.Iterator.{YieldsList-from_chars}
use Rattle.std.proofs.lemmas.Iterator.Consumers.{YieldsList-end}
use Rattle.pages.specs.Escaping.{escaped, escaped_char}
use Rattle.pages.proofs.escaped.EscapedDisplay.fmt.Goals as goal

-- Each iteration preserves the loop's invariant: the characters so far are written, each one escaped.
pub loop-c-preserved : goal.loop-c-preserved
loop-c-preserved g c =
    λ plain. let before = c.loop-c.invariant plain in
    put_two _ _ _ c.write.new.self _ _ _ before (c.in_ok-write.ensures.writes before.plain cc) (flat_map_more escaped_char [] c.loop-c.yielded c.in-Some.c)

pub returns-clause-writes : goal.returns-clause-writes
unfolding escaped
returns-clause-writes g c =
    let text = c.text-text.result.now in
    let done = YieldsList-end (YieldsList-from_chars text c.text-text.utf8 cc) c.loop-c.yielded _ c.loop-c.yielded_by _ _ c.in-None.is c.next.ensures.steps in
    let all : flat_map escaped_char c.loop-c.yielded ≡ escaped c.args.self.now.0.now =
    ap (λ cs. flat_map escaped_char cs) (sym (map-id c.loop-c.yielded) ∙ done.0) ∙ ap escaped c.text-text.ensures in
    λ p q. has_written_of_eq _ _ _ _ _ all (c.loop-c.invariant p)
