-- The verifier's pass goes from unit to unit, and computes what is known of each (`known`). It ends early at the first
-- flaw (`first_flaw_below`), or if memory runs out. The first lemmas are on the pass at one unit, the last on the whole
-- pass.
use Rattle.std.proofs.Common.{◌≡◌, ◌≢◌, ℕ, suc, ◌+◌, ◌<◌, ◌≤◌, List, [], ◌∷◌, Option, Some, None, Bool, true, false, refl, sym, ap, ◌∙◌, subst, inl, inr, arith}
use Rattle.std.proofs.Common.{add-one, length}
use Rattle.std.specs.Prelude.{Result, Ok, Err, OnOk, IfErr, IfSome, IsSome, is_some, ◌&&◌, ◌||◌, ℤ, slice_get, ◌==◌, cond}
use Rattle.std.proofs.lemmas.Bool.{cases_eq, eq-eqb, cond-true}
use Rattle.std.specs.List.{AllByRecursion}
use Rattle.bpf_model.specs.declared.instruction.Inst.{Inst}
use Rattle.bpf_model.specs.declared.instruction.Form.{Form}
use Rattle.bpf_model.specs.declared.instruction.Unit.{Unit as ProgramUnit}
use Rattle.bpf_model.specs.declared.instruction.Unit.TheVariants.{First, Second}
use Rattle.bpf_model.specs.Reading.{form_of, imm_at}
use Rattle.bpf_model.specs.Machine.{and_then, shifted}
use Rattle.bpf_model.specs.Flow.{IsAhead, target, distance_by, distance_of}
use Rattle.bpf_model.proofs.Reading.{wide_at, count_of_units}
use Rattle.verifier.specs.declared.types.LoadOptions.{LoadOptions}
use Rattle.verifier.specs.declared.types.Fact.{Fact}
use Rattle.verifier.specs.declared.types.StoredFact.{StoredFact}
use Rattle.verifier.specs.Effects.{Effect}
use Rattle.verifier.specs.declared.types.Flaw.{Flaw}
use Rattle.verifier.specs.declared.types.Successors.{Successors}
use Rattle.verifier.specs.declared.types.Successors.TheVariants.{End, Next, Jump, Either}
use Rattle.verifier.specs.declared.refusal.TypeFault.{TypeFault}
use Rattle.verifier.specs.declared.refusal.Refusal.{Refusal}
use Rattle.verifier.specs.declared.refusal.Refusal.TheVariants.{Decode, Flow as FlowRefusal, «Type» as TypeRefusal, OutOfMemory}
use Rattle.verifier.specs.Refusals.{located}
use Rattle.verifier.specs.Rules.{checked_effect}
use Rattle.verifier.specs.Facts.{Facts, IsSound, IsAfter, IsEntry, IsNext, stored, list_of, jumps_of, jump_of, carried_of}
use Rattle.verifier.specs.Inference.{successor_units, entry_fact, fact_after, instruction_of, instruction_at, flaw_in, flaw_of, flaw_under, taken_in, arrived}
use Rattle.verifier.specs.Inference.{arrived_all, passed_by, passed_from, passed, known, inferred, or_else, first_flaw_below, first_flaw, goes, is_entered}
use Rattle.verifier.specs.Operations.{upper_of}
use Rattle.verifier.specs.Passing.{IsSame, AreSame, AreStored, IsCarriedTo, IsCarriedAt, IsJoined, IsMerged, IsVisited, IsPassed, IsUnitRefused}
use Rattle.verifier.specs.Passing.{IsPassRefused, AreInferred, brought, seen}
use Rattle.verifier.specs.Operations.{target_by}
use Rattle.verifier.proofs.Good.{judged_is}
use Rattle.verifier.proofs.Ahead.{leads_ahead}
use Rattle.verifier.proofs.Inference.{IsSame-refl, AreSame-refl, AreSame-trans, arrived_same, arrived_all_same, passed_same, flaw_same, same_after, same_entry}
use Rattle.verifier.proofs.Storing.{same_by, not_arrived}
use Rattle.verifier.proofs.Accepted.{instruction_from, behind, flaw_stays}

pub no_form : (o : Option Form) → IsSome o → o ≡ None → ⊥
no_form None h e = absurd (cc)
no_form (Some f) h e = absurd (cc)

abbrev ok_of : Effect → Result Effect Flaw
ok_of e = Ok e

abbrev some_of : List ℕ → Option (List ℕ)
some_of tos = Some tos

never_none : (o : Option (List ℕ)) (tos : List ℕ) → None ≡ o → o ≡ some_of tos → ⊥
never_none o tos a b = cc

same_tos : (o : Option (List ℕ)) (x y : List ℕ) → some_of x ≡ o → o ≡ some_of y → y ≡ x
same_tos o x y a b = cc

-- ---- at an instruction, no unit but the target of its jump gains a stored fact

same_some : (a b : Option Fact) → AreSame a b → is_some a ≡ is_some b
same_some None None h = refl
same_some (Some a) (Some b) h = refl
same_some None (Some b) h = absurd h
same_some (Some a) None h = absurd h

or_no : (b : Bool) → b ≡ (b || false)
or_no true = refl
or_no false = refl

or_yes : (b : Bool) → true ≡ (b || true)
or_yes true = refl
or_yes false = refl

no_and : (b : Bool) → false ≡ (b && false)
no_and true = refl
no_and false = refl

entered_if : (t : Bool) (f : Fact) (o : Option Fact) → is_some (cond t (Some f) o) ≡ (is_some o || t)
entered_if true f o = or_yes (is_some o)
entered_if false f o = or_no (is_some o)

-- after a jump its target has a fact, and no other unit has gained one
jumped_some : (q : ℕ) (fact : Fact) (next : Successors) (old : Option Fact) → is_some (arrived_all q fact (jumps_of next) old)
    ≡ (is_some old || goes (jump_of next) q)
jumped_some q fact End old = or_no (is_some old)
jumped_some q fact (Next to) old = or_no (is_some old)
jumped_some q fact (Jump to) old = entered_if (q == to) (taken_in old fact) old
jumped_some q fact (Either to next) old = entered_if (q == to) (taken_in old fact) old

-- `fact`, the fact after an instruction, can be passed on in two ways. It is joined into each unit that the instruction
-- leads to. Or it is joined only into the jump's target, and is carried to the next instruction. What is known of unit
-- q afterwards is the same in both cases.
seen_led : (q : ℕ) (fact : Fact) (next : Successors) (old new : Option Fact) → AreSame new (arrived_all q fact (jumps_of next) old)
    → AreSame (brought q (carried_of fact next) new) (arrived_all q fact (list_of next) old)
seen_led q fact End old new h = h
seen_led q fact (Next to) old new h = arrived_same q to new old fact fact h (IsSame-refl fact)
seen_led q fact (Jump to) old new h = h
seen_led q fact (Either to next) old new h = arrived_same q next new (arrived q fact to old) fact fact h (IsSame-refl fact)

entry_by : (t : Bool) (f : Fact) → IsSame f entry_fact → AreSame (cond t (Some f) None) (cond t (Some entry_fact) None)
entry_by true f h = h
entry_by false f h = tt

module _ (us : List ProgramUnit) (options : LoadOptions) (pc : ℕ) (i : Inst) (fact : Fact) (form : Form) (sound : IsSound us)
    (at : slice_get us pc ≡ Some (First i)) (is : form_of i.opcode ≡ Some form) where
  ahead_of : (e : Effect) → ok_of e ≡ checked_effect (length us) pc options fact i (upper_of us pc) form → (tos : List ℕ) × (successor_units pc i form ≡ Some tos)
      × AllByRecursion (IsAhead us pc) tos
  ahead_of e j = leads_ahead sound.bytes us sound.reads pc i at sound.forward form is (judged_is (length us) pc options fact i (upper_of us pc) form e (sym j)).0

  -- an accepted instruction has defined successors: `successor_units` isn't None
  pub leads_somewhere : (e : Effect) → ok_of e ≡ checked_effect (length us) pc options fact i (upper_of us pc) form → None ≡ successor_units pc i form → ⊥
  leads_somewhere e j none = let a = ahead_of e j in never_none (successor_units pc i form) a.0 none a.1

  pub next_ahead : (e : Effect) (next : Successors) → ok_of e ≡ checked_effect (length us) pc options fact i (upper_of us pc) form → some_of (list_of next) ≡ successor_units pc i form
      → AllByRecursion (IsAhead us pc) (list_of next)
  next_ahead e next j to = let a = ahead_of e j in subst (AllByRecursion (IsAhead us pc)) (same_tos (successor_units pc i form) (list_of next) a.0 to a.1) a.2

  passed_is : (e : Effect) (next : Successors) → ok_of e ≡ checked_effect (length us) pc options fact i (upper_of us pc) form
      → some_of (list_of next) ≡ successor_units pc i form → (q : ℕ) (old : Option Fact)
      → passed us options pc (Some fact) q old ≡ arrived_all q (fact_after fact e) (list_of next) old
  passed_is e next j to q old =
      ap (λ o. passed_from us options pc fact o q old) (instruction_from us pc i form at is)
      ∙ ap (λ r. passed_by q fact r (successor_units pc i form) old) (sym j)
      ∙ ap (λ o. passed_by q fact (Ok e) o old) (sym to)

  -- If the fact after an accepted instruction at unit pc is joined into what is known of each unit that the instruction
  -- leads to, then the result for unit q, `new`, is what `passed` gives: what is known of q after the verifier's pass
  -- over the units has visited unit pc.
  passed_to : (e : Effect) (after : Fact) (next : Successors) → ok_of e ≡ checked_effect (length us) pc options fact i (upper_of us pc) form
      → IsAfter fact e after → some_of (list_of next) ≡ successor_units pc i form → (q : ℕ) (old new : Option Fact) → AreSame new (arrived_all q after (list_of next) old)
      → AreSame new (passed us options pc (Some fact) q old)
  passed_to e after next j after_is to q old new same =
      subst (AreSame new) (sym (passed_is e next j to q old))
      (AreSame-trans new (arrived_all q after (list_of next) old) (arrived_all q (fact_after fact e) (list_of next) old) same
      (arrived_all_same q (list_of next) old old after (fact_after fact e) (AreSame-refl old) (same_after fact e after after_is)))

  flaw_is : (r : Result Effect Flaw) → r ≡ checked_effect (length us) pc options fact i (upper_of us pc) form
      → flaw_under us options pc (Some fact) ≡ flaw_in pc r
  flaw_is r j =
      ap (flaw_of us options pc fact) (instruction_from us pc i form at is) ∙ ap (flaw_in pc) (sym j)

  jumps_ahead : (next : Successors) → AllByRecursion (IsAhead us pc) (list_of next) → AllByRecursion (IsAhead us pc) (jumps_of next)
  jumps_ahead End h = tt
  jumps_ahead (Next to) h = tt
  jumps_ahead (Jump to) h = h
  jumps_ahead (Either to next) h = (h.0, tt)

  -- if the fact after an instruction is carried on, it is for unit pc + 1, or for unit pc + 2 if pc + 1 is the second
  -- unit of a wide load; an instruction begins at that unit
  goes_to : (after : Fact) (next : Successors) → IsNext pc form next → AllByRecursion (IsAhead us pc) (list_of next)
      → IsCarriedTo us (pc + 1) (carried_of after next)
  goes_to after End n h = tt
  goes_to after (Jump to) n h = tt
  goes_to after (Either to next) n h = (h.1.0.first, inl n)
  goes_to after (Next to) n h = (
    h.0.first,
    elim n [
      | inl e ↦ inl e
      | inr w ↦ inr (let two = w.0 in omega (arith, two), (imm_at sound.bytes (pc + 1), wide_at sound.bytes us pc i sound.reads at (is ∙ ap Some w.1)))
    ],
  )

  -- the target of the jump at unit pc is the same whether it is computed from the program's units (`target`) or from
  -- the form and the fields of the instruction that begins there (`target_by`)
  target_is : target us pc ≡ target_by pc form i
  target_is =
      ap (λ o. and_then (and_then o distance_of) (λ z. shifted (pc + 1) z 512)) at ∙ ap (λ o. and_then (distance_by o i) (λ z. shifted (pc + 1) z 512)) is

  -- if the target of the jump is a later unit of the program, it is at most 512
  small_jump : (next : Successors) → AllByRecursion (IsAhead us pc) (jumps_of next) → IfSome (jump_of next) (λ to. to ≤ 512)
  small_jump End h = tt
  small_jump (Next to) h = tt
  small_jump (Jump to) h = let l = h.0.inside in let n = (count_of_units sound.bytes us sound.reads).1 in omega (arith, l, n)
  small_jump (Either to next) h = let l = h.0.inside in let n = (count_of_units sound.bytes us sound.reads).1 in omega (arith, l, n)

  pub jump_small : (e : Effect) (next : Successors) → ok_of e ≡ checked_effect (length us) pc options fact i (upper_of us pc) form → some_of (list_of next) ≡ successor_units pc i form
      → IfSome (jump_of next) (λ to. to ≤ 512)
  jump_small e next j to = small_jump next (jumps_ahead next (next_ahead e next j to))

  -- If the instruction at unit pc is accepted, and the fact after it is joined into its jump's target (if it has a
  -- jump) and carried to the next instruction (if a run can continue there), then the verifier's pass has done at unit
  -- pc what `IsVisited` asks of it.
  pub visited : (e : Effect) (after : Fact) (next : Successors) (carried : Option StoredFact) (old new : Facts)
      → ok_of e ≡ checked_effect (length us) pc options fact i (upper_of us pc) form → IsAfter fact e after → some_of (list_of next) ≡ successor_units pc i form → IsNext pc form next
      → jump_of next ≡ target_by pc form i → carried ≡ carried_of after next → ((q : ℕ) → AreSame (new q) (arrived_all q after (jumps_of next) (old q)))
      → IsVisited us options pc fact carried old new
  visited e after next carried old new j after_is to n jump is_carried same =
      let ahead = next_ahead e next j to in
      subst (λ c. IsVisited us options pc fact c old new) (sym is_carried) (record {
        flawless = flaw_is (Ok e) j;
        ahead = λ q l. passed_to e after next j after_is to q (old q) (seen (carried_of after next) new q) (seen_led q after next (old q) (new q) (same q));
        behind = λ q l. subst (AreSame (new q)) (behind us pc q after l (jumps_of next) (jumps_ahead next ahead) (old q)) (same q);
        goes_on = goes_to after next n ahead;
        occupied =
            λ q. same_some (new q) (arrived_all q after (jumps_of next) (old q)) (same q)
            ∙ jumped_some q after next (old q)
            ∙ ap (λ o. is_some (old q) || goes o q) (jump ∙ sym target_is);
      })

  -- if the instruction at unit pc is accepted and is a jump, then the verifier's pass over the units can return
  -- `OutOfMemory` there
  pub ran_out : (e : Effect) (next : Successors) → ok_of e ≡ checked_effect (length us) pc options fact i (upper_of us pc) form
      → jump_of next ≡ target_by pc form i → (jump_of next ≡ None → ⊥) → IsUnitRefused us options pc (Some fact) OutOfMemory
  ran_out e next j jump some = (flaw_is (Ok e) j, λ none. some (jump ∙ sym target_is ∙ none))

-- ---- at one unit, the verifier's pass does what `IsPassed` says, or returns a refusal that `IsUnitRefused` allows

brought_elsewhere : (q pc : ℕ) (c : Option StoredFact) → IsCarriedAt pc c → q ≢ pc → (old : Option Fact) → brought q c old ≡ old
brought_elsewhere q pc None at n old = refl
brought_elsewhere q pc (Some s) at n old = not_arrived q s.at s.fact old (λ e. n (e ∙ at))

same_none : (a : Option Fact) → AreSame None a → a ≡ None
same_none None h = refl
same_none (Some a) h = absurd h

stored_trans : (a b c d : Option Fact) → AreSame a b → AreStored b c → AreSame c d → AreStored a d
stored_trans None b c d f g h = tt
stored_trans (Some a) None c d f g h = absurd f
stored_trans (Some a) (Some b) c d f g h = AreSame-trans (Some a) (Some b) d f (AreSame-trans (Some b) c d g h)

AreStored-refl : (a : Option Fact) → AreStored a a
AreStored-refl None = tt
AreStored-refl (Some a) = AreSame-refl (Some a)

no_two : (i : Inst) (v : ℤ) (o : Option ProgramUnit) → o ≡ Some (First i) → o ≡ Some (Second v) → ⊥
no_two i v o a b = cc

-- if an instruction begins at unit pc, then a fact that the verifier carries on from the instruction before is for unit
-- pc, not for the one after it
pub at_first : (us : List ProgramUnit) (pc : ℕ) (i : Inst) (c : Option StoredFact) → slice_get us pc ≡ Some (First i) → IsCarriedTo us pc c → IsCarriedAt pc c
at_first us pc i None first c = tt
at_first us pc i (Some s) first c = elim c.1 [ inl e ↦ e | inr w ↦ absurd (no_two i w.1.0 (slice_get us pc) first w.1.1) ]

module _ (us : List ProgramUnit) (options : LoadOptions) (pc : ℕ) (carried : Option StoredFact) (old : Facts) where
  pub passes : (fact : Fact) (next : Option StoredFact) (merged new : Facts) → IsCarriedAt pc carried → IsMerged pc carried (Some fact) old merged
      → IsVisited us options pc fact next merged new → IsPassed us options pc carried next old new
  passes fact next merged new at s v =
      record {
        flawless = sym (flaw_same us options pc (Some fact) (seen carried old pc) s.is) ∙ v.flawless;
        ahead = λ q l. let other : q ≢ pc = omega (arith, l) in
            AreSame-trans (seen next new q) (passed us options pc (Some fact) q (merged q)) (passed us options pc (seen carried old pc) q (seen carried old q))
            (v.ahead q l)
            (passed_same us options pc (Some fact) (seen carried old pc) q (merged q) (seen carried old q) s.is
            (subst (AreSame (merged q)) (sym (brought_elsewhere q pc carried at other (old q))) (s.others q other)));
        behind = λ q l. AreSame-trans (new q) (merged q) (old q) (v.behind q (omega (arith, l))) (s.others q (omega (arith, l)));
        here = stored_trans (new pc) (merged pc) (Some fact) (seen carried old pc) (v.behind pc (omega arith)) s.here s.is;
        goes_on = v.goes_on;
        occupied =
            λ q. v.occupied q
            ∙ ap (λ b. b || goes (target us pc) q) (s.occupied q)
            ∙ ap (λ b. is_some (old q) || (b && goes (target us pc) q)) (same_some (Some fact) (seen carried old pc) s.is);
      }

  pub passes_if : (r : Result Unit Refusal) (fact : Fact) (next : Option StoredFact) (merged new : Facts) → IsCarriedAt pc carried
      → IsMerged pc carried (Some fact) old merged → OnOk r (IsVisited us options pc fact next merged new) → OnOk r (IsPassed us options pc carried next old new)
  passes_if (Ok done) fact next merged new at s v = passes fact next merged new at s v
  passes_if (Err refusal) fact next merged new at s v = tt

  refused_as : (refusal : Refusal) (fact : Fact) → AreSame (Some fact) (seen carried old pc) → IsUnitRefused us options pc (Some fact) refusal
      → IsUnitRefused us options pc (seen carried old pc) refusal
  refused_as (Decode fault) fact same h = h
  refused_as (FlowRefusal fault) fact same h = h
  refused_as (TypeRefusal fault) fact same h = sym (flaw_same us options pc (Some fact) (seen carried old pc) same) ∙ h
  refused_as OutOfMemory fact same h = (sym (flaw_same us options pc (Some fact) (seen carried old pc) same) ∙ h.0, h.1)

  pub refused_if : (r : Result Unit Refusal) (fact : Fact) → AreSame (Some fact) (seen carried old pc)
      → IfErr r (λ refusal. IsUnitRefused us options pc (Some fact) refusal) → IfErr r (λ refusal. IsUnitRefused us options pc (seen carried old pc) refusal)
  refused_if (Ok next) fact same h = tt
  refused_if (Err refusal) fact same h = refused_as refusal fact same h

  pub unreached : (new : Facts) → IsCarriedAt pc carried → IsMerged pc carried None old new → IsPassed us options pc carried None old new
  unreached new at s =
      let none = same_none (seen carried old pc) s.is in
      record {
        flawless = ap (flaw_under us options pc) none;
        ahead = λ q l. let other : q ≢ pc = omega (arith, l) in
            subst (λ o. AreSame (new q) (passed us options pc o q (seen carried old q))) (sym none)
            (subst (AreSame (new q)) (sym (brought_elsewhere q pc carried at other (old q))) (s.others q other));
        behind = λ q l. s.others q (omega (arith, l));
        here = stored_trans (new pc) (new pc) None (seen carried old pc) (AreSame-refl (new pc)) s.here s.is;
        goes_on = tt;
        occupied = λ q. s.occupied q ∙ or_no (is_some (old q)) ∙ ap (λ o. is_some (old q) || (is_some o && goes (target us pc) q)) (sym none);
      }

  module _ (v : ℤ) (second : slice_get us pc ≡ Some (Second v)) where
    nothing_there : instruction_at us pc ≡ None
    nothing_there = ap instruction_of second

    no_flaw : (o : Option Fact) → flaw_under us options pc o ≡ None
    no_flaw None = refl
    no_flaw (Some fact) = ap (flaw_of us options pc fact) nothing_there

    no_edge : (o : Option Fact) (q : ℕ) (x : Option Fact) → passed us options pc o q x ≡ x
    no_edge None q x = refl
    no_edge (Some fact) q x = ap (λ i. passed_from us options pc fact i q x) nothing_there

    no_jump : target us pc ≡ None
    no_jump = ap (λ o. and_then (and_then o distance_of) (λ z. shifted (pc + 1) z 512)) second

    further : (c : Option StoredFact) → IsCarriedTo us pc c → IsCarriedTo us (pc + 1) c × ((x : Option Fact) → brought pc c x ≡ x)
    further None c = (tt, λ x. refl)
    further (Some s) c = elim c.1 [
      | inl e ↦ absurd (no_two c.0.0 v (slice_get us pc) (subst (λ k. slice_get us k ≡ Some (First c.0.0)) e c.0.1) second)
      | inr w ↦ ((c.0, inl w.0), λ x. not_arrived pc s.at s.fact x (let e = w.0 in omega (arith, e)))
    ]

    -- at the second unit of a wide load, the verifier's pass over the units changes no fact
    pub stays : IsCarriedTo us pc carried → IsPassed us options pc carried carried old old
    stays c =
        let f = further carried c in
        record {
          flawless = no_flaw (seen carried old pc);
          ahead = λ q l. same_by (seen carried old q) (passed us options pc (seen carried old pc) q (seen carried old q))
              (sym (no_edge (seen carried old pc) q (seen carried old q)));
          behind = λ q l. AreSame-refl (old q);
          here = subst (AreStored (old pc)) (sym (f.1 (old pc))) (AreStored-refl (old pc));
          goes_on = f.0;
          occupied =
              λ q. or_no (is_some (old q))
              ∙ ap (λ b. is_some (old q) || b) (no_and (is_some (seen carried old pc)))
              ∙ ap (λ o. is_some (old q) || (is_some (seen carried old pc) && goes o q)) (sym no_jump);
        }

-- ---- the invariant of the verifier's pass (`IsReached`) holds at the start and stays true from unit to unit

pub start_same : (us : List ProgramUnit) (options : LoadOptions) (f : Fact) → IsEntry f → (q : ℕ)
    → AreSame (stored (record { at = 0; fact = f } ∷ []) q) (known us options 0 q)
unfolding known
start_same us options f entry q = entry_by (q == 0) f (same_entry f entry)

-- The invariant of the verifier's pass over the units when it comes to unit pc. No reached unit below pc has a flaw. If
-- a fact is stored for a unit below pc, it is the same as the unit's inferred fact. For each unit from pc on, the
-- stored facts and the carried one together (`seen`) give what is known of the unit from the start of a run and from
-- the instructions at the units below pc (`known`).
pub record IsReached (us : List ProgramUnit) (options : LoadOptions) (carried : Option StoredFact) (facts : Facts) (pc : ℕ) : Type 0 where
  pub behind : (q : ℕ) → q < pc → AreStored (facts q) (inferred us options q)
  pub ahead : (q : ℕ) → pc ≤ q → AreSame (seen carried facts q) (known us options pc q)
  pub flawless : first_flaw_below us options pc ≡ None
  pub goes_on : IsCarriedTo us pc carried
  pub occupied : (q : ℕ) → is_some (facts q) ≡ is_entered us options pc q

first_if : (t : Bool) → is_some (cond t (Some entry_fact) None) ≡ t
first_if true = refl
first_if false = refl

module _ (us : List ProgramUnit) (options : LoadOptions) where
  no_flaw_yet : first_flaw_below us options 0 ≡ None
  unfolding first_flaw_below
  no_flaw_yet = refl

  known_first : (q : ℕ) → is_some (known us options 0 q) ≡ is_entered us options 0 q
  unfolding known is_entered
  known_first q = first_if (q == 0)

  pub reached_none : (facts : Facts) → ((q : ℕ) → AreSame (facts q) (known us options 0 q)) → IsReached us options None facts 0
  reached_none facts same =
      record {
        behind = λ q l. absurd (omega arith);
        ahead = λ q l. same q;
        flawless = no_flaw_yet;
        goes_on = tt;
        occupied = λ q. same_some (facts q) (known us options 0 q) (same q) ∙ known_first q;
      }

  entered_more : (pc q : ℕ) (o : Option Fact) → is_some o ≡ is_some (inferred us options pc) → (is_entered us options pc q || (is_some o && goes (target us pc) q))
      ≡ is_entered us options (suc pc) q
  unfolding is_entered
  entered_more pc q o e = ap (λ b. is_entered us options pc q || (b && goes (target us pc) q)) e

  flaw_here : (carried : Option StoredFact) (facts : Facts) (pc : ℕ) → IsReached us options carried facts pc → flaw_under us options pc (seen carried facts pc)
      ≡ flaw_under us options pc (inferred us options pc)
  flaw_here carried facts pc r = flaw_same us options pc (seen carried facts pc) (inferred us options pc) (r.ahead pc (omega arith))

  still_none : (pc : ℕ) → first_flaw_below us options pc ≡ None → flaw_under us options pc (inferred us options pc) ≡ None → first_flaw_below us options (suc pc) ≡ None
  unfolding first_flaw_below
  still_none pc none here = ap (λ o. or_else o (flaw_under us options pc (inferred us options pc))) none ∙ here

  first_here : (pc : ℕ) (fault : TypeFault) → first_flaw_below us options pc ≡ None → flaw_under us options pc (inferred us options pc) ≡ Some fault
      → first_flaw_below us options (suc pc) ≡ Some fault
  unfolding first_flaw_below
  first_here pc fault none here = ap (λ o. or_else o (flaw_under us options pc (inferred us options pc))) none ∙ here

  known_more : (pc q : ℕ) (carried next : Option StoredFact) (old new : Facts) → IsReached us options carried old pc → pc ≤ q
      → AreSame (seen next new q) (passed us options pc (seen carried old pc) q (seen carried old q)) → AreSame (seen next new q) (known us options (suc pc) q)
  unfolding known
  known_more pc q carried next old new r l same =
      AreSame-trans (seen next new q) (passed us options pc (seen carried old pc) q (seen carried old q)) (known us options (suc pc) q) same
      (passed_same us options pc (seen carried old pc) (known us options pc pc) q (seen carried old q) (known us options pc q)
      (r.ahead pc (omega arith)) (r.ahead q l))

  reached_suc : (carried next : Option StoredFact) (old new : Facts) (pc : ℕ) → IsReached us options carried old pc → IsPassed us options pc carried next old new
      → IsReached us options next new (suc pc)
  reached_suc carried next old new pc r p =
      record {
        behind =
            λ q l. elim (cases_eq q pc) [
              | inl same ↦ subst
                  (λ k. AreStored (new k) (inferred us options k)) (sym same)
                  (stored_trans (new pc) (new pc) (seen carried old pc) (inferred us options pc) (AreSame-refl (new pc)) p.here (r.ahead pc (omega arith)))
              | inr other ↦ stored_trans (new q) (old q) (inferred us options q) (inferred us options q) (p.behind q (omega arith)) (r.behind q (omega arith))
                  (AreSame-refl (inferred us options q))
            ];
        ahead = λ q l. known_more pc q carried next old new r (omega arith) (p.ahead q (omega arith));
        flawless = still_none pc r.flawless (sym (flaw_here carried old pc r) ∙ p.flawless);
        goes_on = subst (λ k. IsCarriedTo us k next) (add-one pc) p.goes_on;
        occupied =
            λ q. p.occupied q
            ∙ ap (λ b. b || (is_some (seen carried old pc) && goes (target us pc) q)) (r.occupied q)
            ∙ entered_more pc q (seen carried old pc) (same_some (seen carried old pc) (inferred us options pc) (r.ahead pc (omega arith)));
      }

  pub reached_more : (carried next : Option StoredFact) (old new : Facts) (pc : ℕ) → IsReached us options carried old pc → IsPassed us options pc carried next old new
      → IsReached us options next new (pc + 1)
  reached_more carried next old new pc r p = subst (IsReached us options next new) (sym (add-one pc)) (reached_suc carried next old new pc r p)

  pub flaw_found : (carried : Option StoredFact) (facts : Facts) (pc : ℕ) (fault : TypeFault) → pc < length us → IsReached us options carried facts pc
      → flaw_under us options pc (seen carried facts pc) ≡ Some fault → first_flaw us options ≡ Some fault
  flaw_found carried facts pc fault l r here =
      flaw_stays us options (suc pc) (length us) fault (first_here pc fault r.flawless (sym (flaw_here carried facts pc r) ∙ here)) (omega arith)

  pub refused_at : (carried : Option StoredFact) (facts : Facts) (pc : ℕ) (refusal : Refusal) → pc < length us → IsReached us options carried facts pc
      → IsUnitRefused us options pc (seen carried facts pc) refusal → IsPassRefused us options refusal
  refused_at carried facts pc (Decode fault) l r h = h
  refused_at carried facts pc (FlowRefusal fault) l r h = h
  refused_at carried facts pc (TypeRefusal fault) l r h = flaw_found carried facts pc fault l r h
  refused_at carried facts pc OutOfMemory l r h = tt
