use Rattle.std.proofs.Common.{◌≡◌, ℕ, List, refl, rules, subst, sym}
use Rattle.bpf_model.specs.declared.context.Layout.{Layout}
use Rattle.till_request.specs.declared.act.Act.TheVariants.{Load}
use Rattle.till_request.specs.declared.act.Answer.{Answer}
use Rattle.till_request.specs.declared.act.Answer.TheVariants.{Entered, JournalFull, OutOfMemory, Line, Program, JournalFailed}
use Rattle.site_core.specs.Draft.{ReadyValue}
use Rattle.site_core.specs.Limits.{ConfigValue}
use Rattle.site_core.specs.Step.{entered_moment}
use Rattle.site_lock.specs.Desks.{CallsGate, DeskDecides}
use Rattle.site_lock.proofs.Trying.{rose_none}
use Rattle.site_lock.proofs.desk.PassDeskDesk.answer.Goals as goal

-- `CallsGate` says how often the gate was called for a till's request, and claims nothing of a load. So it holds for a
-- load without a call of the gate, whatever the answer is.
asks_of_load : (calls slot mask : ℕ) (layout : Layout) (bytes : List ℕ) (answer : Answer) → CallsGate calls calls answer (Load slot mask layout bytes)
asks_of_load calls slot mask layout bytes (Entered number reply) = tt
asks_of_load calls slot mask layout bytes JournalFull = tt
asks_of_load calls slot mask layout bytes OutOfMemory = tt
asks_of_load calls slot mask layout bytes (Line fault) = tt
asks_of_load calls slot mask layout bytes (Program number unit part) = tt
asks_of_load calls slot mask layout bytes JournalFailed = tt

load_decides : {G : Type 0} (makes : G → ReadyValue → G → Type 0) (config : ConfigValue) (pass moment slot mask : ℕ) (layout : Layout) (bytes : List ℕ)
    (gate : G) (answer : Answer) → DeskDecides makes config pass moment gate gate answer (Load slot mask layout bytes)
load_decides makes config pass moment slot mask layout bytes gate (Entered number reply) = tt
load_decides makes config pass moment slot mask layout bytes gate JournalFull = tt
load_decides makes config pass moment slot mask layout bytes gate OutOfMemory = tt
load_decides makes config pass moment slot mask layout bytes gate (Line fault) = tt
load_decides makes config pass moment slot mask layout bytes gate (Program number unit part) = tt
load_decides makes config pass moment slot mask layout bytes gate JournalFailed = tt

pub returns-in-Ok : goal.returns-in-Ok
returns-in-Ok g c =
    let calls = g.G.Gate.calls c.args.self.now.gate in
    let l = c.in-Load in
    let zero_moment : entered_moment c.args.act c.args.moment ≡ 0 = subst (λ act. entered_moment act c.args.moment ≡ 0) (sym l.is) refl in (
      search rules,
      rose_none calls,
      subst (CallsGate calls calls c.answer_of-in-Ok.result) (sym l.is) (asks_of_load calls l.slot l.mask l.layout l.bytes c.answer_of-in-Ok.result),
      subst (DeskDecides g.G.Gate.makes g.L.SiteLedger.config c.args.self.now.pass.id c.args.moment c.args.self.now.gate c.args.self.now.gate c.answer_of-in-Ok.result)
          (sym l.is) (load_decides g.G.Gate.makes g.L.SiteLedger.config c.args.self.now.pass.id c.args.moment l.slot l.mask l.layout l.bytes
          c.args.self.now.gate c.answer_of-in-Ok.result),
      refl,
    )

pub returns-in-Err : goal.returns-in-Err
returns-in-Err g c =
    let calls = g.G.Gate.calls c.args.self.now.gate in (
      c.refused.ensures.answers g.L.SiteLedger.config c.args.self.now.pass c.args.act c.args.moment c.in-Err.ensures.refused
          c.in-Err.ensures.exact,
      rose_none calls,
      c.refused.ensures.asks calls c.args.act,
      c.refused.ensures.decides g.L.SiteLedger.config c.args.self.now.pass.id c.args.moment c.args.self.now.gate c.args.act,
      refl,
    )
