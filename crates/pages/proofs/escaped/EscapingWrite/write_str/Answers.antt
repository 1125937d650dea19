use Rattle.std.proofs.Common.{◌≡◌, ◌∙◌, [], ap, sym, map-id}
use Rattle.std.specs.List.{flat_map}
use Rattle.std.proofs.Output.{has_written_of_eq}
use Rattle.std.proofs.lemmas.Grind.{put_two}
use Rattle.std.proofs.lemmas.List.{flat_map_more}
use Rattle.std.proofs.lemmas.Iterator.{YieldsList-from_chars}
use Rattle.std.proofs.lemmas.Iterator.Consumers.{YieldsList-end}
use Rattle.pages.specs.Printing.{printable, printable_char}
use Rattle.pages.proofs.escaped.EscapingWrite.write_str.Goals as goal

-- Each iteration preserves the loop's invariant: the characters so far are written, each one as it is printed.
pub loop-c-preserved : goal.loop-c-preserved
loop-c-preserved g c = (
  c.loop-c.invariant.0,
  λ plain. let before = c.loop-c.invariant.1 plain in
      put_two _ _ _ c.write.new.self _ _ _ before (c.in_ok-write.ensures.writes before.plain cc) (flat_map_more printable_char [] c.loop-c.yielded c.in-Some.c),
)

pub returns : goal.returns
unfolding printable
returns g c =
    let done = YieldsList-end (YieldsList-from_chars c.args.text.now c.utf8.text cc) c.loop-c.yielded _ c.loop-c.yielded_by _ _ c.in-None.is c.next.ensures.steps in
    let all : flat_map printable_char c.loop-c.yielded ≡ printable c.args.text.now =
    ap (λ cs. flat_map printable_char cs) (sym (map-id c.loop-c.yielded) ∙ done.0) in
    record { ok = λ _. (c.loop-c.invariant.0, c.utf8.text, λ p. has_written_of_eq _ _ _ _ _ all (c.loop-c.invariant.1 p)) }
