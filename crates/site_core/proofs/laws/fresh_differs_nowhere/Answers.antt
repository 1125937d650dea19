use Rattle.std.proofs.Common.{◌-◌, ◌/◌, ◌%◌, ◌^◌, ap, sym}
use Rattle.std.specs.Prelude.{slice_get}
use Rattle.std.proofs.lemmas.Bool.{eqb-true}
use Rattle.bpf_model.specs.declared.machine.View.{View}
use Rattle.site_core.specs.declared.why.Why.{Why}
use Rattle.site_core.specs.declared.why.Why.TheVariants as why
use Rattle.site_core.specs.Draft.{Basis, DraftValue}
use Rattle.site_core.specs.Differences.{IsFresh, Differs}
use Rattle.site_core.proofs.laws.fresh_differs_nowhere.Goals as goal

excluded : (now : Basis) (draft : DraftValue) (w : Why) → IsFresh now draft → Differs now draft w → ⊥
excluded now draft (why.Version number) fresh d = d.0 fresh.version
excluded now draft (why.Context at) fresh d = d.1.differs (ap (λ l. slice_get l at) fresh.context)
excluded now draft (why.PointDiffers p) fresh d = d.3.differs (ap (λ (v : View). slice_get v.points (p - 1)) fresh.view)
excluded now draft (why.PriceDiffers p) fresh d = d.4.differs (ap (λ (v : View). slice_get v.prices (p - 1)) fresh.view)
excluded now draft (why.Counter c value) fresh d =
    d.3.differs (sym (fresh.counters c (eqb-true (draft.version.program.declared / 2 ^ c % 2) 1 d.3.declares)))

pub returns : goal.returns
returns c = λ now draft w fresh d. excluded now draft w fresh d
