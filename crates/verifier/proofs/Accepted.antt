-- If all jumps of a program go forward to instructions, and no reached instruction has a flaw, then the facts that are
-- inferred for its units cover the program (`Covers`): the fact of unit 0 holds when a run begins, and each instruction
-- whose unit has a fact is well typed.
use Rattle.std.proofs.Common.{◌≡◌, ◌≢◌, ℕ, zero, suc, ◌<◌, ◌≤◌, List, [], ◌∷◌, Option, Some, None, refl, sym, ap, ◌∙◌, subst, inl, inr, arith, length}
use Rattle.std.specs.Prelude.{Result, Ok, Err, IsSome, ◌==◌, slice_get, ⊤}
use Rattle.std.specs.List.{AllByRecursion}
use Rattle.std.proofs.lemmas.Bool.{cases_eq, eq-eqb, ne_eqb, cond-true, cond-false, cond_both}
use Rattle.bpf_model.specs.declared.instruction.Inst.{Inst}
use Rattle.bpf_model.specs.declared.instruction.Form.{Form}
use Rattle.bpf_model.specs.declared.instruction.Unit.{Unit as ProgramUnit}
use Rattle.bpf_model.specs.declared.instruction.Unit.TheVariants.{First, Second}
use Rattle.bpf_model.specs.Reading.{form_of, units}
use Rattle.bpf_model.specs.Flow.{IsAhead, GoesForward}
use Rattle.bpf_model.specs.Program.{IsGood}
use Rattle.verifier.specs.declared.types.LoadOptions.{LoadOptions}
use Rattle.verifier.specs.LoadOptions.{loaded_on}
use Rattle.verifier.specs.declared.types.Fact.{Fact}
use Rattle.verifier.specs.Effects.{Effect}
use Rattle.verifier.specs.declared.types.Flaw.{Flaw}
use Rattle.verifier.specs.declared.refusal.TypeFault.{TypeFault}
use Rattle.verifier.specs.Facts.{IsBelow, IsSound, IsTyped, Enters, Covers, IsCovered}
use Rattle.verifier.specs.Inference.{successor_units, join_fact, entry_fact, fact_after, form_with, instruction_of, instruction_at, ruled, flaw_in, flaw_of, flaw_under}
use Rattle.verifier.specs.Inference.{taken_in, arrived, arrived_all, passed_by, passed_from, passed, known, inferred, or_else, first_flaw_below, first_flaw}
use Rattle.verifier.specs.Operations.{upper_of}
use Rattle.verifier.proofs.Good.{judged_is, good}
use Rattle.verifier.proofs.Ahead.{leads_ahead, there, first_there}
use Rattle.verifier.proofs.Tables.{below_left, below_right, IsBelow-refl, IsBelow-trans}
use Rattle.verifier.proofs.Inference.{common_has, type_at-joined, after_is, entry_is}

-- ---- `instruction_of` gives an instruction and its form only for its first unit, and only if its opcode has a form

form_is : (i : Inst) (o : Option Form) (x : Inst × Form) → form_with i o ≡ Some x → (i ≡ x.0) × (o ≡ Some x.1)
form_is i None x e = absurd (cc)
form_is i (Some form) x e =
    let same : (i, form) ≡ x = cc in
    (ap (λ y. y.0) same, ap (λ y. Some y.1) same)

pub instruction_is : (o : Option ProgramUnit) (x : Inst × Form) → instruction_of o ≡ Some x → (o ≡ Some (First x.0)) × (form_of x.0.opcode ≡ Some x.1)
instruction_is None x e = absurd (cc)
instruction_is (Some (Second v)) x e = absurd (cc)
instruction_is (Some (First i)) x e =
    let p = form_is i (form_of i.opcode) x e in
    (ap (λ j. Some (First j)) p.0, subst (λ j. form_of j.opcode ≡ Some x.1) p.0 p.1)

pub instruction_from : (us : List ProgramUnit) (pc : ℕ) (i : Inst) (form : Form) → slice_get us pc ≡ Some (First i) → form_of i.opcode ≡ Some form
    → instruction_at us pc ≡ Some (i, form)
instruction_from us pc i form at is = ap instruction_of at ∙ ap (form_with i) is

some_is : (o : Option Form) → IsSome o → (form : Form) × (o ≡ Some form)
some_is None h = absurd (cc)
some_is (Some form) h = (form, refl)

-- ---- if a fact is joined into what is known of a unit, each state that fitted before still fits

-- if the first Option has a fact, then so has the second, and each state that fits the first fact fits the second
abbrev pub IsWider : Option Fact → Option Fact → Type 0
IsWider None o = ⊤
IsWider (Some fact) o = (wider : Fact) × (o ≡ Some wider) × IsBelow fact wider

IsWider-refl : (o : Option Fact) → IsWider o o
IsWider-refl None = tt
IsWider-refl (Some fact) = (fact, refl, IsBelow-refl fact)

IsWider-trans : (a b c : Option Fact) → IsWider a b → IsWider b c → IsWider a c
IsWider-trans None b c f g = tt
IsWider-trans (Some a) None c f g = absurd (let e = f.1 in cc)
IsWider-trans (Some a) (Some b) c f g =
    let same : Some b ≡ Some f.0 = f.1 in
    let b_is : f.0 ≡ b = cc in
    (g.0, g.1, IsBelow-trans a b g.0 (subst (IsBelow a) b_is f.2) g.2)

join_left : (a b : Fact) → IsBelow a (join_fact a b)
join_left a b = below_left a b (join_fact a b) (type_at-joined a.types b.types) (λ p h. ((common_has a.stack b.stack p).0 h).0) refl

join_right : (a b : Fact) → IsBelow b (join_fact a b)
join_right a b = below_right a b (join_fact a b) (type_at-joined a.types b.types) (λ p h. ((common_has a.stack b.stack p).0 h).1) refl

taken_left : (o : Option Fact) (fact : Fact) → IsWider o (Some (taken_in o fact))
taken_left None fact = tt
taken_left (Some old) fact = (join_fact old fact, refl, join_left old fact)

taken_right : (o : Option Fact) (fact : Fact) → IsBelow fact (taken_in o fact)
taken_right None fact = IsBelow-refl fact
taken_right (Some old) fact = join_right old fact

arrived_wider : (q to : ℕ) (fact : Fact) (o : Option Fact) → IsWider o (arrived q fact to o)
arrived_wider q to fact o = cond_both (q == to) (Some (taken_in o fact)) o (IsWider o) (λ e. taken_left o fact) (λ e. IsWider-refl o)

all_wider : (q : ℕ) (fact : Fact) (tos : List ℕ) (o : Option Fact) → IsWider o (arrived_all q fact tos o)
all_wider q fact [] o = IsWider-refl o
all_wider q fact (to ∷ tos) o =
    IsWider-trans o (arrived q fact to o) (arrived_all q fact tos (arrived q fact to o)) (arrived_wider q to fact o)
    (all_wider q fact tos (arrived q fact to o))

by_wider : (q : ℕ) (fact : Fact) (r : Result Effect Flaw) (tos : Option (List ℕ)) (o : Option Fact) → IsWider o (passed_by q fact r tos o)
by_wider q fact (Err flaw) tos o = IsWider-refl o
by_wider q fact (Ok e) None o = IsWider-refl o
by_wider q fact (Ok e) (Some tos) o = all_wider q (fact_after fact e) tos o

-- after `fact` was joined into what is known of unit `to`, each state that fits `fact` fits the unit's fact
arrived_here : (to : ℕ) (fact : Fact) (o : Option Fact) → IsWider (Some fact) (arrived to fact to o)
arrived_here to fact o = (taken_in o fact, cond-true (to == to) (Some (taken_in o fact)) o (eq-eqb to to refl), taken_right o fact)

all_come : (fact : Fact) (tos : List ℕ) (old : ℕ → Option Fact) → AllByRecursion (λ to. IsWider (Some fact) (arrived_all to fact tos (old to))) tos
all_come fact [] old = tt
all_come fact (to ∷ tos) old = (
  IsWider-trans (Some fact) (arrived to fact to (old to)) (arrived_all to fact tos (arrived to fact to (old to))) (arrived_here to fact (old to))
      (all_wider to fact tos (arrived to fact to (old to))),
  all_come fact tos (λ q. arrived q fact to (old q)),
)

-- ---- an instruction that leads only to later units doesn't change what is known of its own or of an earlier unit

pub behind : (us : List ProgramUnit) (pc q : ℕ) (fact : Fact) → q ≤ pc → (tos : List ℕ) → AllByRecursion (IsAhead us pc) tos → (o : Option Fact)
    → arrived_all q fact tos o ≡ o
behind us pc q fact l [] all o = refl
behind us pc q fact l (to ∷ tos) all o =
    let further = all.0.ahead in
    let other : q ≢ to = omega (arith, further, l) in
    ap (arrived_all q fact tos) (cond-false (q == to) (Some (taken_in o fact)) o (ne_eqb q to other)) ∙ behind us pc q fact l tos all.1 o

-- ---- `first_flaw_below` is None only if no reached unit below n has a flaw; a flaw that it gives stays for greater n

flawless_is : (pc : ℕ) (r : Result Effect Flaw) → flaw_in pc r ≡ None → (e : Effect) × (r ≡ Ok e)
flawless_is pc (Ok e) h = (e, refl)
flawless_is pc (Err flaw) h = absurd (cc)

none_left : (a b : Option TypeFault) → or_else a b ≡ None → (a ≡ None) × (b ≡ None)
none_left None b e = (refl, e)
none_left (Some f) b e = absurd (cc)

module _ (us : List ProgramUnit) (options : LoadOptions) where
  pub no_flaw_below : (n k : ℕ) → first_flaw_below us options n ≡ None → k < n → flaw_under us options k (inferred us options k) ≡ None
  unfolding first_flaw_below
  no_flaw_below zero k e l = absurd (omega arith)
  no_flaw_below (suc n) k e l =
      let both = none_left (first_flaw_below us options n) (flaw_under us options n (inferred us options n)) e in
      elim (cases_eq k n) [
        | inl same ↦ ap (λ q. flaw_under us options q (inferred us options q)) same ∙ both.1
        | inr other ↦ no_flaw_below n k both.0 (omega arith)
      ]

  pub flaw_stays : (m n : ℕ) (fault : TypeFault) → first_flaw_below us options m ≡ Some fault → m ≤ n → first_flaw_below us options n ≡ Some fault
  unfolding first_flaw_below
  flaw_stays zero n fault e l = absurd (cc)
  flaw_stays (suc m) zero fault e l = absurd (omega arith)
  flaw_stays (suc m) (suc n) fault e l =
      elim (cases_eq m n) [
        | inl same ↦ subst (λ k. first_flaw_below us options (suc k) ≡ Some fault) same e
        | inr other ↦ ap (λ o. or_else o (flaw_under us options n (inferred us options n))) (flaw_stays (suc m) n fault e (omega arith))
      ]

  -- ---- what is known of a unit can change during the verifier's pass, but each state that fitted before still fits

  from_wider : (pc : ℕ) (fact : Fact) (o : Option (Inst × Form)) (q : ℕ) (old : Option Fact) → IsWider old (passed_from us options pc fact o q old)
  from_wider pc fact None q old = IsWider-refl old
  from_wider pc fact (Some x) q old = by_wider q fact (ruled us options pc fact x) (successor_units pc x.0 x.1) old

  passed_wider : (pc : ℕ) (here : Option Fact) (q : ℕ) (old : Option Fact) → IsWider old (passed us options pc here q old)
  passed_wider pc None q old = IsWider-refl old
  passed_wider pc (Some fact) q old = from_wider pc fact (instruction_at us pc) q old

  known_wider : (n m q : ℕ) → n ≤ m → IsWider (known us options n q) (known us options m q)
  unfolding known
  known_wider zero zero q l = IsWider-refl (known us options 0 q)
  known_wider (suc n) zero q l = absurd (omega arith)
  known_wider n (suc m) q l =
      elim (cases_eq n (suc m)) [
        | inl same ↦ subst (λ k. IsWider (known us options n q) (known us options k q)) same (IsWider-refl (known us options n q))
        | inr other ↦ IsWider-trans (known us options n q) (known us options m q) (known us options (suc m) q) (known_wider n m q (omega arith))
            (passed_wider m (known us options m m) q (known us options m q))
      ]

  module _ (sound : IsSound us) where
    ahead_of : (pc : ℕ) (fact : Fact) (x : Inst × Form) (e : Effect) → instruction_at us pc ≡ Some x → ruled us options pc fact x ≡ Ok e
        → (tos : List ℕ) × (successor_units pc x.0 x.1 ≡ Some tos) × AllByRecursion (IsAhead us pc) tos
    ahead_of pc fact x e at j =
        let is = instruction_is (slice_get us pc) x at in
        leads_ahead sound.bytes us sound.reads pc x.0 is.0 sound.forward x.1 is.1 (judged_is (length us) pc options fact x.0 (upper_of us pc) x.1 e j).0

    -- ---- each reached unit is well typed

    -- if `fact` is inferred for unit pc, and the instruction there is accepted and leads to the units `tos`, then the
    -- fact after the instruction is joined into what is known of each of these units
    past_is : (pc q : ℕ) (fact : Fact) (x : Inst × Form) (e : Effect) (tos : List ℕ) → inferred us options pc ≡ Some fact → instruction_at us pc ≡ Some x
        → ruled us options pc fact x ≡ Ok e → successor_units pc x.0 x.1 ≡ Some tos
        → known us options (suc pc) q ≡ arrived_all q (fact_after fact e) tos (known us options pc q)
    unfolding known
    past_is pc q fact x e tos h at j to =
        ap (λ o. passed us options pc o q (known us options pc q)) h
        ∙ ap (λ o. passed_from us options pc fact o q (known us options pc q)) at
        ∙ ap (λ r. passed_by q fact r (successor_units pc x.0 x.1) (known us options pc q)) j
        ∙ ap (λ o. passed_by q fact (Ok e) o (known us options pc q)) to

    enters_from : (fact : Fact) (to : ℕ) → IsWider (Some fact) (inferred us options to) → Enters (inferred us options) fact to
    enters_from fact to w = record { wider = w.0; is = w.1; below = w.2 }

    all_enter : (pc : ℕ) (after : Fact) (known_past : ℕ → Option Fact) (tos : List ℕ) → AllByRecursion (IsAhead us pc) tos
        → ((q : ℕ) → known us options (suc pc) q ≡ known_past q) → AllByRecursion (λ to. IsWider (Some after) (known_past to)) tos
        → AllByRecursion (Enters (inferred us options) after) tos
    all_enter pc after known_past [] ahead same come = tt
    all_enter pc after known_past (to ∷ tos) ahead same come = (
      let further = ahead.0.ahead in
          enters_from after to
          (IsWider-trans (Some after) (known us options (suc pc) to) (inferred us options to) (subst (IsWider (Some after)) (sym (same to)) come.0)
          (known_wider (suc pc) to to (omega (arith, further)))),
      all_enter pc after known_past tos ahead.1 same come.1,
    )

    typed_at : (pc : ℕ) (i : Inst) (fact : Fact) (form : Form) (e : Effect) → inferred us options pc ≡ Some fact → slice_get us pc ≡ Some (First i)
        → form_of i.opcode ≡ Some form → ruled us options pc fact (i, form) ≡ Ok e → IsTyped us options (inferred us options) pc i fact
    typed_at pc i fact form e h at is j =
        let x = instruction_from us pc i form at is in
        let a = ahead_of pc fact (i, form) e x j in
        let old : ℕ → Option Fact = known us options pc in
        record {
          form = form;
          form_is = is;
          effect = e;
          typed = j;
          after = fact_after fact e;
          after_is = after_is fact e;
          tos = a.0;
          leads_to = a.1;
          ahead = a.2;
          enters = all_enter pc (fact_after fact e) (λ q. arrived_all q (fact_after fact e) a.0 (old q)) a.0 a.2
              (λ q. past_is pc q fact (i, form) e a.0 h x j a.1) (all_come (fact_after fact e) a.0 old);
        }

    typed_flawless : (pc : ℕ) (i : Inst) (fact : Fact) → slice_get us pc ≡ Some (First i) → inferred us options pc ≡ Some fact
        → flaw_under us options pc (inferred us options pc) ≡ None → IsTyped us options (inferred us options) pc i fact
    typed_flawless pc i fact at h none =
        let f = some_is (form_of i.opcode) (there sound.bytes us pc i sound.reads at).form in
        let x = instruction_from us pc i f.0 at f.1 in
        let under : flaw_under us options pc (Some fact) ≡ None = ap (flaw_under us options pc) (sym h) ∙ none in
        let of : flaw_of us options pc fact (Some (i, f.0)) ≡ None = ap (flaw_of us options pc fact) (sym x) ∙ under in
        let ok = flawless_is pc (ruled us options pc fact (i, f.0)) of in
        typed_at pc i fact f.0 ok.0 h at f.1 ok.1

    entered : known us options 0 0 ≡ Some entry_fact
    unfolding known
    entered = refl

    pub accepted_covers : first_flaw us options ≡ None → Covers us options (inferred us options)
    accepted_covers none =
        let first = first_there sound.bytes us sound.reads in
        record {
          unit = first.0;
          begins = first.1;
          start = entry_fact;
          start_is = entry_is;
          entered = record { wider = entry_fact; is = entered; below = IsBelow-refl entry_fact };
          each =
              λ pc i fact at h. typed_flawless pc i fact at h
              (no_flaw_below (length us) pc none (there sound.bytes us pc i sound.reads at).inside);
        }

pub covered_by : (bytes : List ℕ) (options : LoadOptions) (us : List ProgramUnit) → units bytes ≡ Some us → GoesForward us → first_flaw us options ≡ None
    → IsCovered bytes options us
covered_by bytes options us reads forward none =
    record { reads = reads; facts = inferred us options; covers = accepted_covers us options (record { bytes = bytes; reads = reads; forward = forward }) none }

pub good_by : (bytes : List ℕ) (options : LoadOptions) (us : List ProgramUnit) → units bytes ≡ Some us → GoesForward us → first_flaw us options ≡ None
    → IsGood (loaded_on bytes options)
good_by bytes options us reads forward none = good bytes us options (covered_by bytes options us reads forward none)
