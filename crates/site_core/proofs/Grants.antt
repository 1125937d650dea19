-- What a grant does after a program answered a till's question about a release, a preset or a price. If the question's
-- point exists, the grant is a command of the till to this point, with the amount `granted_amount`. If not, the grant
-- sets the price of the question's product.
-- The reply to a decision and the state after it (`verdict`) are those that the program's answer leads to
-- (`applied_answer`) in the state with the counters that the program left. One more transaction of a point, or a
-- program's run, keeps the state's numbers within their bounds (`Bounded`).
use Rattle.std.proofs.Common.{◌≡◌, ℕ, ◌+◌, ◌-◌, ◌*◌, ◌≤◌, true, false, length, Option, Some, None, Result, Ok, Err, slice_set, arith, ap, ◌∙◌, sym, subst}
use Rattle.std.proofs.Common.{get_or, refl, Bool}
use Rattle.decision_journal.specs.declared.entries.Run.{Run}
use Rattle.till_request.specs.declared.act.Reply.{Reply}
use Rattle.site_core.specs.SiteInvariant.{applied_answer, with_counters}
use Rattle.std.specs.Prelude.{◌==◌}
use Rattle.std.proofs.lemmas.List.Elements.{All-set}
use Rattle.fuelling_point.specs.Table.{PointState, StepResult, command_step}
use Rattle.fuelling_point.specs.Promises.{FollowsTable}
use Rattle.fuelling_point.specs.declared.kinds.PointFault.{PointFault}
use Rattle.till_request.specs.declared.act.Reply.TheVariants as reply
use Rattle.bpf_model.specs.Machine.{Counters}
use Rattle.site_core.specs.SlotsValue.{Version}
use Rattle.site_core.specs.declared.question.Question.{Question}
use Rattle.site_core.specs.State.{SiteState, at_number, price_of, with_point}
use Rattle.site_core.specs.Bounds.{Bounded}
use Rattle.site_core.specs.Context.{context}
use Rattle.site_core.specs.Decide.{Effect, denied, grant, granted_amount, command_of, after_command, verdict, counts}
use Rattle.site_core.proofs.Points.{at_number-read}

-- If a call did what the table of a fuelling point's steps says (`FollowsTable`), then the new point is the one that
-- the table gives, or the old point if the table refuses the command.
after-is : (a : StepResult (Option ℕ)) (p new : PointState) (outcome : Result (Option ℕ) PointFault) → FollowsTable a p outcome new
    → (elim a as (λ _. PointState) [ Ok o ↦ o.0 | Err f ↦ p ]) ≡ new
after-is (Ok (q, given)) p new outcome h = sym h.1
after-is (Err f) p new outcome h = sym h.1

pub grant-some : (s : SiteState) (till r : ℕ) (q : Question) (p : PointState) → at_number s.points q.point ≡ Some p
    → grant s till q r ≡ (let g : ℕ = granted_amount q.kind q.asked r p.preset in
    (g, with_point s q.point (after_command (price_of s p.nozzle) p till (command_of q.kind g))))
unfolding grant
grant-some s till r q p at = rw (at, grant)

pub grant-none : (s : SiteState) (till r : ℕ) (q : Question) → at_number s.points q.point ≡ None
    → grant s till q r ≡ (q.asked, record s { prices = slice_set s.prices (q.product - 1) q.asked })
unfolding grant
grant-none s till r q none = rw (none, grant)

pub grant-is : (s : SiteState) (till r : ℕ) (q : Question) (p new : PointState) (outcome : Result (Option ℕ) PointFault) → 1 ≤ q.point
    → q.point ≤ length s.points → p ≡ get_or s.points (q.point - 1) p
    → FollowsTable (command_step (price_of s p.nozzle) p till (command_of q.kind (granted_amount q.kind q.asked r p.preset))) p outcome new
    → grant s till q r ≡ (granted_amount q.kind q.asked r p.preset, with_point s q.point new)
grant-is s till r q p new outcome one le is answers =
    let g : ℕ = granted_amount q.kind q.asked r p.preset in
    grant-some s till r q p (at_number-read s.points q.point p one le is) ∙ ap
    (λ x. (g, with_point s q.point x)) (after-is (command_step (price_of s p.nozzle) p till (command_of q.kind g)) p new outcome answers)

-- If a state's numbers are within their bounds after k entries, and one point gets at most one more transaction, then
-- the new state's numbers are within their bounds after k + 1 entries.
pub bounded-with : (k : ℕ) (s : SiteState) (n : ℕ) (p new : PointState) → Bounded k s → n ≤ length s.points → 1 ≤ n → p ≡ get_or s.points (n - 1) p
    → new.last ≤ p.last + 1 → Bounded (k + 1) (with_point s n new)
bounded-with k s n p new b le one is last =
    let small : p.last ≤ 4290000000 + k = subst (λ (x : PointState). x.last ≤ 4290000000 + k) (sym is) (b.last (n - 1) p (omega arith)) in
    record {
      last = All-set (λ (x : PointState). x.last ≤ 4290000000 + (k + 1)) s.points (n - 1) new (omega arith)
          (λ j d h. let l : (get_or s.points j d).last ≤ 4290000000 + k = b.last j d h in omega (arith, l));
      cleared = let c : s.cleared ≤ 1000000000000000000 + 999999999 * k = b.cleared in omega (arith, c);
      clears = let c : s.clears ≤ 1000000000000000000 + k = b.clears in omega (arith, c);
    }

pub verdict-deny : (s : SiteState) (till moment r : ℕ) (q : Question) (v : Version) (c : Counters) → (r == 0) ≡ true
    → verdict s till moment q v r c ≡ record {
      reply = denied v.number;
      run = Some (record {
        slot = q.slot;
        version = v.number;
        r0 = r;
        context = context v.program.layout s till moment q;
        counts = counts v.program.declared s.counters c;
      });
      after = record s { counters = c };
    }
unfolding verdict
verdict-deny s till moment r q v c zero = rw (zero, verdict)

pub verdict-grant : (s : SiteState) (till moment r g : ℕ) (q : Question) (v : Version) (c : Counters) (new : SiteState) → (r == 0) ≡ false
    → grant (record s { counters = c }) till q r ≡ (g, new) → verdict s till moment q v r c ≡ record {
      reply = reply.Granted g v.number;
      run = Some (record {
        slot = q.slot;
        version = v.number;
        r0 = r;
        context = context v.program.layout s till moment q;
        counts = counts v.program.declared s.counters c;
      });
      after = new;
    }
unfolding verdict
verdict-grant s till moment r g q v c new some given = rw (some, given, verdict)

pub applied_answer-deny : (s : SiteState) (till n r : ℕ) (q : Question) → (r == 0) ≡ true → applied_answer s till q n r ≡ (denied n, s)
unfolding applied_answer
applied_answer-deny s till n r q zero = rw (zero, applied_answer)

pub applied_answer-grant : (s : SiteState) (till n r : ℕ) (q : Question) → (r == 0) ≡ false
    → applied_answer s till q n r ≡ (let g : ℕ × SiteState = grant s till q r in (reply.Granted g.0 n, g.1))
unfolding applied_answer
applied_answer-grant s till n r q some = rw (some, applied_answer)

module _ (s : SiteState) (till moment r : ℕ) (q : Question) (v : Version) (c : Counters) (given : Reply) (new : SiteState)
    (is : applied_answer (with_counters s c) till q v.number r ≡ (given, new)) where
  abbrev pub made-run : Run
  made-run =
      record { slot = q.slot; version = v.number; r0 = r; context = context v.program.layout s till moment q; counts = counts v.program.declared s.counters c }

  abbrev effect-of : Reply × SiteState → Effect
  effect-of p = record { reply = p.0; run = Some made-run; after = p.1 }

  verdict-by : (b : Bool) → (r == 0) ≡ b → verdict s till moment q v r c ≡ effect-of (given, new)
  verdict-by true zero =
      verdict-deny s till moment r q v c zero
      ∙ ap effect-of (sym (applied_answer-deny (with_counters s c) till v.number r q zero) ∙ is)
  verdict-by false some =
      let g = grant (with_counters s c) till q r in
      verdict-grant s till moment r g.0 q v c g.1 some refl
      ∙ ap effect-of (sym (applied_answer-grant (with_counters s c) till v.number r q some) ∙ is)

  -- The reply to a decision and the state after it (`verdict`) are those that the program's answer leads to
  -- (`applied_answer`) in the state `s` with the counters `c` that the program left. The decision's run is `made-run`.
  pub verdict-is : verdict s till moment q v r c ≡ record { reply = given; run = Some made-run; after = new }
  verdict-is = verdict-by (r == 0) refl

-- A run changes only counters. So if the state's numbers are within their bounds after k entries (`Bounded`), they
-- still are after a run.
pub bounded-counted : (k : ℕ) (s : SiteState) (c : Counters) → Bounded k s → Bounded k (with_counters s c)
bounded-counted k s c b = record { last = b.last; cleared = b.cleared; clears = b.clears }
