use Rattle.std.proofs.Common.{◌≡◌, ℕ, List, ◌++◌, length, Result, Ok, Err, OnOk, IfOk, IfErr, IsOk, sym, subst, inl, inr, refl}
use Rattle.std.specs.Prelude.{◌⊎◌}
use Rattle.till_request.specs.declared.act.Answer.{Answer}
use Rattle.till_request.specs.declared.act.Answer.TheVariants.{OutOfMemory, JournalFailed}
use Rattle.till_request.specs.declared.look.LookAt.{LookAt}
use Rattle.till_request.specs.declared.look.Sight.{Sight}
use Rattle.till_request.specs.Looks.{sight_line}
use Rattle.site_lock.specs.declared.enter_fault.EnterFault.{EnterFault}
use Rattle.site_lock.specs.declared.enter_fault.EnterFault.TheVariants.{Journal}
use Rattle.site_lock.specs.Desks.{DeskLooks}
use Rattle.site_lock.specs.Looks.{IsSight}
use Rattle.site_lock.specs.Passes.{Opened, PassView}
use Rattle.site_lock.proofs.desk.PassDeskDesk.look.Goals as goal

module _ {D G T : Type 0} (d : D) (gate : G) (f : Opened) (may_fail : Type 0) (day : ℕ) (before now : PassView) (look : LookAt) (same : now ≡ before) where
  shown : (seen : Result Sight EnterFault) (result : Result T Answer) (text : List ℕ)
      → IfOk seen (IsSight f may_fail (length before.receipts) day look) → OnOk result (IfOk seen (λ sight. text ≡ sight_line sight))
      → OnOk result (IsOk seen) → OnOk result (DeskLooks f may_fail day before now look (Ok text) × (d ≡ d) × (gate ≡ gate))
  shown (Ok sight) (Ok x) text shows line ok = ((same, sight, shows, line), refl, refl)
  shown (Err fault) (Ok x) text shows line ok = absurd (cc)
  shown seen (Err a) text shows line ok = tt

  refused : (seen : Result Sight EnterFault) (result : Result T Answer) → (seen ≡ Err Journal → may_fail)
      → IfErr result (λ a. (a ≡ OutOfMemory) ⊎ ((a ≡ JournalFailed) × (seen ≡ Err Journal)))
      → IfErr result (λ a. DeskLooks f may_fail day before now look (Err a) × (d ≡ d) × (gate ≡ gate))
  refused seen (Ok x) cause err = tt
  refused seen (Err a) cause (inl is) = (subst (λ x. DeskLooks f may_fail day before now look (Err x)) (sym is) same, refl, refl)
  refused seen (Err a) cause (inr is) = (subst (λ x. DeskLooks f may_fail day before now look (Err x)) (sym is.0) (same, cause is.1), refl, refl)

pub returns-clause-ok : goal.returns-clause-ok
returns-clause-ok g c =
    let desk = c.args.self.now in
    let may_fail : Type 0 = g.J.Journal.may_fail in
    let f : Opened = record { config = g.L.SiteLedger.config; passes = g.L.Ledger.parts; base = g.L.SiteLedger.base; taken = g.L.SiteLedger.taken } in
    let named = c.config.ensures in
    let opened : desk.forecourt.now ≡ f = λ i. record { config = named.kept i; passes = named.passes i; base = named.base i; taken = named.taken i } in
    let shows : IfOk c.sight-seen.result (IsSight f may_fail (length desk.pass.receipts) desk.day c.args.look) =
    subst (λ (o : Opened). IfOk c.sight-seen.result (IsSight o may_fail (length desk.pass.receipts) desk.day c.args.look)) opened c.sight-seen.ensures.sight in
    let line : OnOk c.put_seen.result (IfOk c.sight-seen.result (λ sight. c.put_seen.new.text.items ≡ sight_line sight)) =
    subst (λ (t : List ℕ). OnOk c.put_seen.result (IfOk c.sight-seen.result (λ sight. c.put_seen.new.text.items ≡ t ++ sight_line sight)))
    c.clear.ensures.items c.put_seen.ensures.ok in
    shown desk.day desk.gate f may_fail desk.day desk.pass c.sight-seen.new.pass c.args.look c.sight-seen.ensures.same
    c.sight-seen.result c.put_seen.result c.put_seen.new.text.items shows line c.put_seen.ensures.seen

pub returns-clause-err : goal.returns-clause-err
returns-clause-err g c =
    let desk = c.args.self.now in
    let f : Opened = record { config = g.L.SiteLedger.config; passes = g.L.Ledger.parts; base = g.L.SiteLedger.base; taken = g.L.SiteLedger.taken } in
    refused desk.day desk.gate f g.J.Journal.may_fail desk.day desk.pass c.sight-seen.new.pass c.args.look c.sight-seen.ensures.same
    c.sight-seen.result c.put_seen.result c.sight-seen.ensures.cause c.put_seen.ensures.err
