-- Conditions under which an answer fits an act. Either the act has no program or an accepted one, and the answer fits
-- the act's event. Or the act's program is refused, and the answer fits this refusal.
use Rattle.std.proofs.Common.{◌≡◌, ℕ, List, inl}
use Rattle.std.specs.Prelude.{Option, None}
use Rattle.bpf_model.specs.Program.{ProgramText, as_loaded}
use Rattle.bpf_model.specs.declared.context.Layout.{Layout}
use Rattle.verifier.specs.declared.refusal.Refusal.{Refusal}
use Rattle.verifier.specs.Refusals.{refusal_numbers}
use Rattle.verifier.specs.RefusedPrograms.{IsRefused, IsRefusal, MayRunOutOfMemory, refusal_of}
use Rattle.till_request.specs.declared.act.Act.{Act}
use Rattle.till_request.specs.declared.act.Act.TheVariants as acts
use Rattle.till_request.specs.declared.act.Answer.{Answer}
use Rattle.till_request.specs.declared.act.Answer.TheVariants as answers
use Rattle.site_core.specs.Audit.{IsGoodAct, IsRefusedAct, MayLackMemory}
use Rattle.site_core.specs.Histories.{load_refusal}
use Rattle.site_core.specs.Site.{SiteValue}
use Rattle.file_jobs.specs.Loading.{IsLoadRefusal, IsNotRefused}
use Rattle.file_jobs.specs.Play.{EventAnswered, LoadAnswered, ActAnswered, IsAccepted, load_of}

load_entered : (old : SiteValue) (moment slot : ℕ) (p : ProgramText) (answer : Answer) (new : SiteValue) → EventAnswered old moment (load_of slot p) answer new
    → IsAccepted p → MayRunOutOfMemory p → LoadAnswered old moment slot p answer new
load_entered old moment slot p (answers.Entered number reply) new h accepted memory = (accepted, h)
load_entered old moment slot p answers.JournalFull new h accepted memory = (accepted, h)
load_entered old moment slot p answers.OutOfMemory new h accepted memory = (memory, h.1)
load_entered old moment slot p (answers.Line fault) new h accepted memory = h
load_entered old moment slot p (answers.Program number unit part) new h accepted memory = absurd h
load_entered old moment slot p answers.JournalFailed new h accepted memory = h

-- If the act isn't a load, or its program is good, accepted, and one for which memory may run out (`MayLackMemory`),
-- then an answer that fits the act's event (`EventAnswered`) fits the act (`ActAnswered`).
pub act_entered : (old : SiteValue) (moment : ℕ) (act : Act) (answer : Answer) (new : SiteValue) → EventAnswered old moment act answer new → IsGoodAct act
    → load_refusal act ≡ None → MayLackMemory act → ActAnswered old moment act answer new
act_entered old moment (acts.Till till request) answer new h good accepted memory = h
act_entered old moment (acts.Dispenser point event) answer new h good accepted memory = h
act_entered old moment (acts.Load slot mask layout bytes) answer new h good accepted memory =
    load_entered old moment slot (as_loaded bytes mask layout) answer new h (record { good = good; accepted = accepted }) memory

pub act_not_refused : (act : Act) (answer : Answer) → IsGoodAct act → load_refusal act ≡ None → IsNotRefused act answer
act_not_refused (acts.Till till request) answer good accepted = tt
act_not_refused (acts.Dispenser point event) answer good accepted = tt
act_not_refused (acts.Load slot mask layout bytes) answer good accepted = inl (record { accepted = accepted; good = good })

-- If the act's program is refused with `refusal`, then an answer fits the act if it fits the load of each program that
-- is refused with `refusal`. If `refusal` has no numbers (memory ran out), the act's program must be one for which
-- memory can run out (`MayLackMemory`), and the answer need fit only the loads of such programs.
pub act_refused : (old : SiteValue) (moment : ℕ) (act : Act) (refusal : Refusal) (answer : Answer)
    → ((slot : ℕ) (p : ProgramText) → IsRefused p refusal → IsRefusal (refusal_of p) refusal → (refusal_numbers refusal ≡ None → MayRunOutOfMemory p)
    → LoadAnswered old moment slot p answer old)
    → IsRefusedAct act refusal → IsRefusal (load_refusal act) refusal → (refusal_numbers refusal ≡ None → MayLackMemory act) → ActAnswered old moment act answer old
act_refused old moment (acts.Till till request) refusal answer fits refused wanted memory = absurd refused
act_refused old moment (acts.Dispenser point event) refusal answer fits refused wanted memory = absurd refused
act_refused old moment (acts.Load slot mask layout bytes) refusal answer fits refused wanted memory =
    fits slot (as_loaded bytes mask layout) refused wanted memory

pub act_shows_refusal : (act : Act) (refusal : Refusal) (answer : Answer) (shown : Option Refusal)
    → ((slot mask : ℕ) (layout : Layout) (bytes : List ℕ) → IsRefusal (refusal_of (as_loaded bytes mask layout)) refusal
    → IsLoadRefusal (acts.Load slot mask layout bytes) answer shown)
    → IsRefusedAct act refusal → IsRefusal (load_refusal act) refusal → IsLoadRefusal act answer shown
act_shows_refusal (acts.Till till request) refusal answer shown fits refused wanted = absurd refused
act_shows_refusal (acts.Dispenser point event) refusal answer shown fits refused wanted = absurd refused
act_shows_refusal (acts.Load slot mask layout bytes) refusal answer shown fits refused wanted = fits slot mask layout bytes wanted
