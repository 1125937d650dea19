use Rattle.std.proofs.Common.{◌≡◌, ℕ, ◌-◌, ◌<◌, ◌≤◌, List, ◌∙◌, sym, ap, arith}
use Rattle.std.specs.Prelude.{slice_get}
use Rattle.bpf_model.specs.declared.machine.View.{View}
use Rattle.bpf_model.specs.Machine.{Counters, counter}
use Rattle.site_core.specs.declared.why.Why.{Why}
use Rattle.site_core.specs.declared.why.Why.TheVariants as why
use Rattle.site_core.specs.Draft.{Basis, DraftValue}
use Rattle.site_core.specs.Differences.{FirstDiffers, CounterDiffers, Differs}
use Rattle.site_core.proofs.laws.one_difference_is_first.Goals as goal

-- Two lists have at most one first place at which they differ.
one-place : {T : Type 0} → (a b : List T) (i j : ℕ) → FirstDiffers a b i → FirstDiffers a b j → i ≡ j
one-place a b i j first second =
    let not_below : i < j → ⊥ = λ lt. first.differs (second.same_before i lt) in
    let not_above : j < i → ⊥ = λ lt. second.differs (first.same_before j lt) in
    omega arith

one-counter : (declared : ℕ) (a b : Counters) (i j : ℕ) → CounterDiffers declared a b i → CounterDiffers declared a b j → i ≡ j
one-counter declared a b i j first second =
    let not_below : i < j → ⊥ = λ lt. first.differs (second.same_before i lt first.declares) in
    let not_above : j < i → ⊥ = λ lt. second.differs (first.same_before j lt second.declares) in
    omega arith

-- Two equal lists have no first place at which they differ.
same-nowhere : {T : Type 0} → (a b : List T) (i : ℕ) → a ≡ b → FirstDiffers a b i → ⊥
same-nowhere a b i same first = first.differs (ap (λ l. slice_get l i) same)

one : (now : Basis) (draft : DraftValue) (a b : Why) → Differs now draft a → Differs now draft b → a ≡ b
one now draft (why.Version m) (why.Version n) d e = ap why.Version (d.1 ∙ sym e.1)
one now draft (why.Version m) (why.Context j) d e = absurd (d.0 e.0)
one now draft (why.Version m) (why.PointDiffers q) d e = absurd (d.0 e.0)
one now draft (why.Version m) (why.PriceDiffers q) d e = absurd (d.0 e.0)
one now draft (why.Version m) (why.Counter c v) d e = absurd (d.0 e.0)
one now draft (why.Context i) (why.Version n) d e = absurd (e.0 d.0)
one now draft (why.Context i) (why.Context j) d e = ap why.Context (one-place now.context draft.context i j d.1 e.1)
one now draft (why.Context i) (why.PointDiffers q) d e = absurd (same-nowhere now.context draft.context i e.1 d.1)
one now draft (why.Context i) (why.PriceDiffers q) d e = absurd (same-nowhere now.context draft.context i e.1 d.1)
one now draft (why.Context i) (why.Counter c v) d e = absurd (same-nowhere now.context draft.context i e.1 d.1)
one now draft (why.PointDiffers p) (why.Version n) d e = absurd (e.0 d.0)
one now draft (why.PointDiffers p) (why.Context j) d e = absurd (same-nowhere now.context draft.context j d.1 e.1)
one now draft (why.PointDiffers p) (why.PointDiffers q) d e =
    let same : p - 1 ≡ q - 1 = one-place now.view.points draft.view.points (p - 1) (q - 1) d.3 e.3 in
    let some : 1 ≤ p = d.2 in
    let more : 1 ≤ q = e.2 in
    ap why.PointDiffers (omega arith)
one now draft (why.PointDiffers p) (why.PriceDiffers q) d e = absurd (same-nowhere now.view.points draft.view.points (p - 1) e.2 d.3)
one now draft (why.PointDiffers p) (why.Counter c v) d e = absurd (same-nowhere now.view.points draft.view.points (p - 1) (ap (λ (v : View). v.points) e.2) d.3)
one now draft (why.PriceDiffers p) (why.Version n) d e = absurd (e.0 d.0)
one now draft (why.PriceDiffers p) (why.Context j) d e = absurd (same-nowhere now.context draft.context j d.1 e.1)
one now draft (why.PriceDiffers p) (why.PointDiffers q) d e = absurd (same-nowhere now.view.points draft.view.points (q - 1) d.2 e.3)
one now draft (why.PriceDiffers p) (why.PriceDiffers q) d e =
    let same : p - 1 ≡ q - 1 = one-place now.view.prices draft.view.prices (p - 1) (q - 1) d.4 e.4 in
    let some : 1 ≤ p = d.3 in
    let more : 1 ≤ q = e.3 in
    ap why.PriceDiffers (omega arith)
one now draft (why.PriceDiffers p) (why.Counter c v) d e = absurd (same-nowhere now.view.prices draft.view.prices (p - 1) (ap (λ (v : View). v.prices) e.2) d.4)
one now draft (why.Counter c v) (why.Version n) d e = absurd (e.0 d.0)
one now draft (why.Counter c v) (why.Context j) d e = absurd (same-nowhere now.context draft.context j d.1 e.1)
one now draft (why.Counter c v) (why.PointDiffers q) d e = absurd (same-nowhere now.view.points draft.view.points (q - 1) (ap (λ (v : View). v.points) d.2) e.3)
one now draft (why.Counter c v) (why.PriceDiffers q) d e = absurd (same-nowhere now.view.prices draft.view.prices (q - 1) (ap (λ (v : View). v.prices) d.2) e.4)
one now draft (why.Counter c v) (why.Counter f w) d e =
    let same : c ≡ f = one-counter draft.version.program.declared now.counters draft.counters c f d.3 e.3 in
    let values : v ≡ w = d.4 ∙ ap (λ x. (counter now.counters x).0) same ∙ sym e.4 in
    λ i. why.Counter (same i) (values i)

pub returns : goal.returns
returns c = λ now draft a b d e. one now draft a b d e
