-- Each counter keeps its bound in a run of any program, and so through each legal history.
use Rattle.std.proofs.Common.{◌≡◌, ℕ, ◌+◌, ◌-◌, ◌/◌, inl, inr, List, length, Bool, true, false, Option, Some, None}
use Rattle.std.proofs.Common.{refl, sym, ap, ◌∙◌, subst, arith, zero, suc}
use Rattle.std.specs.Prelude.{◌*◌, ◌==◌, if◌then◌else◌, nat_le, ℤ, IfSome, slice_set}
use Rattle.std.proofs.lemmas.Bool.{cases_lt, cases_eq}
use Rattle.std.proofs.lemmas.List.{get_or-set_same, get_or-set_other, get_or_past, length-set}
use Rattle.byteorder.specs.Endian.{little_bytes}
use Rattle.bpf_model.specs.Reading.{bytes_in, form_of, imm_at, inst}
use Rattle.bpf_model.specs.declared.instruction.Inst.{Inst}
use Rattle.bpf_model.specs.declared.instruction.Form.{Form}
use Rattle.bpf_model.specs.declared.instruction.Form.TheVariants as forms
use Rattle.bpf_model.specs.declared.machine.Cell.{Cell}
use Rattle.bpf_model.specs.declared.machine.Helper.{Helper}
use Rattle.bpf_model.specs.declared.machine.Helper.TheVariants.{CounterGet, CounterAdd, CounterTake, PointState as PointStateOf, PointRecord, PriceOf}
use Rattle.bpf_model.specs.declared.machine.State.{State}
use Rattle.bpf_model.specs.declared.machine.Value.{Value}
use Rattle.bpf_model.specs.declared.machine.Value.TheVariants.{Unset, Number, Context, Stack}
use Rattle.bpf_model.specs.declared.machine.View.{View}
use Rattle.bpf_model.specs.Machine.{HelperResult as HelperAnswer, Counters, Next, Continues, Exits, Stuck, form_step as machine_act, after_call, answer, helper_of, counter}
use Rattle.std.specs.Int.{cast_unsigned, w64}
use Rattle.bpf_model.specs.Arithmetic.{extended, holds}
use Rattle.bpf_model.specs.declared.instruction.Size.{Size}
use Rattle.bpf_model.specs.Machine.{added, alu_value, aligned_place, loaded, mem, operand, read, counter_argument, is_there, number, pieces_written, point, point_or_zero, price, record_bytes, record_place}
use Rattle.bpf_model.specs.Machine.{register, stack_at, taken, written}
use Rattle.bpf_model.specs.Machine.{and_then, branches, jumps, stores_pointer, map_option, sets, shifted, step, stores, stores_value, or_stuck}
use Rattle.bpf_model.specs.Program.{ProgramText, outcome}
use Rattle.bpf_model.specs.Runs.{Outcome, Ended, GotStuck, Running, entry, follow, run_from}
use Rattle.decision_journal.specs.declared.entries.Entry.{Entry}
use Rattle.site_core.specs.Days.{HaveSameBounds}
use Rattle.site_core.specs.Decide.{run_result}
use Rattle.site_core.specs.Limits.{ConfigValue}
use Rattle.site_core.specs.State.{SiteState, opening_state}
use Rattle.site_core.specs.Legal.{Legal}
use Rattle.site_core.proofs.EachEvent.{Stays, after_all}

set_bounds : (counters : Counters) (c v : ℕ) → HaveSameBounds (slice_set counters c (v, (counter counters c).1)) counters
set_bounds counters c v q =
    let cell : ℕ × ℕ = (v, (counter counters c).1) in
    let new = slice_set counters c cell in
    elim (cases_eq q c) [
      | inl same ↦ subst (λ x. (counter new x).1 ≡ (counter counters x).1) (sym same) (elim (cases_lt c (length counters)) [
        | inl inside ↦ ap (λ x. x.1) (get_or-set_same counters c cell (0, 0) inside)
        | inr past ↦ ap (λ x. x.1)
            (get_or_past new c (0, 0) (omega (arith, past, length-set counters c cell)) ∙ sym (get_or_past counters c (0, 0) past))
      ])
      | inr other ↦ ap (λ x. x.1) (get_or-set_other counters c q cell (0, 0) other)
    ]

-- ---- a step that sets a register, jumps or stores keeps each counter's bound

abbrev Keeps : Counters → Next → Type 0
Keeps before (Continues t) = HaveSameBounds t.counters before
Keeps before (Exits r after) = HaveSameBounds after before
Keeps before Stuck = Unit {0}

some_keeps : {A : Type 0} (before : Counters) (o : Option A) (go : A → Next) → ((a : A) → Keeps before (go a)) → Keeps before (or_stuck o go)
some_keeps before None go h = tt
some_keeps before (Some a) go h = h a

stuck_or : (before : Counters) (b : Bool) (n : Next) → Keeps before n → Keeps before (if b then Stuck else n)
stuck_or before true n h = tt
stuck_or before false n h = h

sets_keeps : (s : State) (dst : ℕ) (v : Value) → Keeps s.counters (sets s dst v)
sets_keeps s dst v = stuck_or s.counters (dst == 10) (Continues (record s { pc = s.pc + 1; registers = slice_set s.registers dst v })) (λ c. refl)

jumps_keeps : (s : State) (distance : ℤ) → Keeps s.counters (jumps s distance)
jumps_keeps s distance = some_keeps s.counters (shifted (s.pc + 1) distance 512) (λ to. Continues (record s { pc = to })) (λ to c. refl)

branches_keeps : (s : State) (b : Bool) (distance : ℤ) → Keeps s.counters (branches s b distance)
branches_keeps s true distance = jumps_keeps s distance
branches_keeps s false distance = λ c. refl

stores_keeps : (s : State) (i : Inst) (size n : ℕ) → Keeps s.counters (stores s i size n)
stores_keeps s i size n =
    some_keeps s.counters (stack_at (register s.registers i.dst) i.offset size)
    (λ at. Continues (record s { pc = s.pc + 1; stack = written s.stack at (little_bytes size n) })) (λ at c. refl)

keeps_keeps : (s : State) (i : Inst) (size : ℕ) (v : Value) → Keeps s.counters (stores_pointer s i size v)
keeps_keeps s i size v =
    some_keeps s.counters (aligned_place size (stack_at (register s.registers i.dst) i.offset size))
    (λ at. Continues (record s { pc = s.pc + 1; stack = pieces_written s.stack at v 0 8 })) (λ at c. refl)

value_keeps : (s : State) (i : Inst) (size : ℕ) (v : Value) → Keeps s.counters (stores_value s i size v)
value_keeps s i size (Number n) = stores_keeps s i size n
value_keeps s i size (Context k) = keeps_keeps s i size (Context k)
value_keeps s i size (Stack k) = keeps_keeps s i size (Stack k)
value_keeps s i size Unset = tt

-- ---- a call of a helper keeps each counter's bound, and so does each instruction

abbrev AnswerKeeps : Counters → HelperAnswer → Type 0
AnswerKeeps before a = HaveSameBounds a.counters before

mapped : {A : Type 0} (before : Counters) (go : A → HelperAnswer) (o : Option A) → ((a : A) → AnswerKeeps before (go a)) → IfSome (map_option go o) (AnswerKeeps before)
mapped before go None h = tt
mapped before go (Some a) h = h a

chained : {A : Type 0} (before : Counters) (o : Option A) (go : A → Option HelperAnswer) → ((a : A) → IfSome (go a) (AnswerKeeps before))
    → IfSome (and_then o go) (AnswerKeeps before)
chained before None go h = tt
chained before (Some a) go h = h a

either_keeps : (before : Counters) (b : Bool) (x y : HelperAnswer) → AnswerKeeps before x → AnswerKeeps before y → AnswerKeeps before (if b then x else y)
either_keeps before true x y h k = h
either_keeps before false x y h k = k

add_keeps : (counters : Counters) (stack : List Cell) (c n : ℕ) → AnswerKeeps counters (added counters stack c n (counter counters c))
add_keeps counters stack c n =
    let v : ℕ = (counter counters c).0 in
    let bound : ℕ = (counter counters c).1 in
    either_keeps counters (nat_le (v + n) bound) (record { value = 1; counters = slice_set counters c (v + n, bound); stack = stack })
    (record { value = 0; counters = counters; stack = stack }) (set_bounds counters c (v + n)) (λ q. refl)

take_keeps : (counters : Counters) (stack : List Cell) (c n : ℕ) → AnswerKeeps counters (taken counters stack c n (counter counters c))
take_keeps counters stack c n =
    let v : ℕ = (counter counters c).0 in
    let bound : ℕ = (counter counters c).1 in
    either_keeps counters (nat_le n v) (record { value = 1; counters = slice_set counters c (v - n, bound); stack = stack })
    (record { value = 0; counters = counters; stack = stack }) (set_bounds counters c (v - n)) (λ q. refl)

abbrev record_reply : View → Counters → List Cell → ℕ → ℕ → HelperAnswer
record_reply view counters stack f at = record {
  value = is_there (point view f);
  counters = counters;
  stack = written stack at (record_bytes (point_or_zero (point view f)));
}

answer_keeps : (h : Helper) (declared : ℕ) (view : View) (a b : Value) (counters : Counters) (stack : List Cell)
    → IfSome (answer h declared view a b counters stack) (AnswerKeeps counters)
answer_keeps CounterGet declared view a b counters stack =
    mapped counters (λ c. record { value = (counter counters c).0; counters = counters; stack = stack }) (counter_argument declared a) (λ c q. refl)
answer_keeps CounterAdd declared view a b counters stack =
    chained counters (counter_argument declared a) (λ c. map_option (λ n. added counters stack c n (counter counters c)) (number b))
    (λ c. mapped counters (λ n. added counters stack c n (counter counters c)) (number b) (λ n. add_keeps counters stack c n))
answer_keeps CounterTake declared view a b counters stack =
    chained counters (counter_argument declared a) (λ c. map_option (λ n. taken counters stack c n (counter counters c)) (number b))
    (λ c. mapped counters (λ n. taken counters stack c n (counter counters c)) (number b) (λ n. take_keeps counters stack c n))
answer_keeps PointStateOf declared view a b counters stack =
    mapped counters (λ f. record { value = (point_or_zero (point view f)).state; counters = counters; stack = stack }) (number a) (λ f q. refl)
answer_keeps PointRecord declared view a b counters stack =
    chained counters (number a) (λ f. map_option (record_reply view counters stack f) (record_place b))
    (λ f. mapped counters (record_reply view counters stack f) (record_place b) (λ at q. refl))
answer_keeps PriceOf declared view a b counters stack =
    mapped counters (λ p. record { value = price view p; counters = counters; stack = stack }) (number a) (λ p q. refl)

call_keeps : (s : State) (o : Option HelperAnswer) → IfSome o (AnswerKeeps s.counters) → Keeps s.counters (or_stuck o (λ a. after_call s a))
call_keeps s None h = tt
call_keeps s (Some a) h = h

-- The value of a load with sign extension: the number n of this size, extended to 64 bits.
abbrev signed : Size → ℕ → Value
signed size n = Number (cast_unsigned w64 (extended (8 * bytes_in size) n))

act_keeps : (declared : ℕ) (context : List ℕ) (view : View) (s : State) (i : Inst) (upper : ℤ) (f : Form)
    → Keeps s.counters (machine_act declared context view s i upper f)
act_keeps declared context view s i upper (forms.Arithmetic op w source) =
    some_keeps s.counters (alu_value (length context) op w source i (register s.registers i.dst) (operand source w i s.registers)) (λ v. sets s i.dst v)
    (λ v. sets_keeps s i.dst v)
act_keeps declared context view s i upper forms.Wide = stuck_or s.counters (i.dst == 10) _ (λ c. refl)
act_keeps declared context view s i upper (forms.Load size) =
    some_keeps s.counters (mem (length context) (register s.registers i.src) i.offset (bytes_in size))
    (λ at. or_stuck (loaded at (bytes_in size) context s.stack) (λ v. sets s i.dst v))
    (λ at. some_keeps s.counters (loaded at (bytes_in size) context s.stack) (λ v. sets s i.dst v) (λ v. sets_keeps s i.dst v))
act_keeps declared context view s i upper (forms.LoadSigned size) =
    some_keeps s.counters (mem (length context) (register s.registers i.src) i.offset (bytes_in size))
    (λ at. or_stuck (read at (bytes_in size) context s.stack) (λ n. sets s i.dst (signed size n)))
    (λ at. some_keeps s.counters (read at (bytes_in size) context s.stack) (λ n. sets s i.dst (signed size n)) (λ n. sets_keeps s i.dst (signed size n)))
act_keeps declared context view s i upper (forms.StoreImmediate size) = stores_keeps s i _ _
act_keeps declared context view s i upper (forms.StoreRegister size) = value_keeps s i _ _
act_keeps declared context view s i upper forms.Ja = jumps_keeps s i.offset
act_keeps declared context view s i upper forms.Ja32 = jumps_keeps s i.imm
act_keeps declared context view s i upper (forms.Branch op w source) =
    some_keeps s.counters (number (register s.registers i.dst))
    (λ a. or_stuck (number (operand source w i s.registers)) (λ b. branches s (holds op w a b) i.offset))
    (λ a. some_keeps s.counters (number (operand source w i s.registers)) (λ b. branches s (holds op w a b) i.offset)
    (λ b. branches_keeps s (holds op w a b) i.offset))
act_keeps declared context view s i upper forms.Call = call_keeps s _ (chained s.counters (helper_of i.imm) _ (λ h. answer_keeps h declared view _ _ s.counters s.stack))
act_keeps declared context view s i upper forms.Exit =
    some_keeps s.counters (number (register s.registers 0)) (λ n. Exits n s.counters) (λ n c. refl)

step_keeps : (bytes : List ℕ) (declared : ℕ) (context : List ℕ) (view : View) (s : State) → Keeps s.counters (step bytes declared context view s)
step_keeps bytes declared context view s =
    some_keeps s.counters (inst bytes s.pc) (λ i. or_stuck (form_of i.opcode) (λ form. machine_act declared context view s i (imm_at bytes (s.pc + 1)) form))
    (λ i. some_keeps s.counters (form_of i.opcode) (λ form. machine_act declared context view s i (imm_at bytes (s.pc + 1)) form)
    (λ form. act_keeps declared context view s i (imm_at bytes (s.pc + 1)) form))

-- ---- a run of any program keeps each counter's bound

abbrev EndKeeps : Counters → Outcome → Type 0
EndKeeps before (Ended r after) = HaveSameBounds after before
EndKeeps before GotStuck = Unit {0}
EndKeeps before (Running s) = Unit {0}

followed : (before : Counters) (n : Next) (go : State → Outcome) → Keeps before n → ((t : State) → HaveSameBounds t.counters before → EndKeeps before (go t))
    → EndKeeps before (follow n go)
followed before (Continues t) go h on = on t h
followed before (Exits r after) go h on = h
followed before Stuck go h on = tt

keeps_on : (before between : Counters) (n : Next) → HaveSameBounds between before → Keeps between n → Keeps before n
keeps_on before between (Continues t) h k = λ c. k c ∙ h c
keeps_on before between (Exits r after) h k = λ c. k c ∙ h c
keeps_on before between Stuck h k = tt

run_keeps : (bytes : List ℕ) (declared : ℕ) (context : List ℕ) (view : View) (before : Counters) (n : ℕ) (s : State) → HaveSameBounds s.counters before
    → EndKeeps before (run_from bytes declared context view n s)
run_keeps bytes declared context view before zero s h = tt
run_keeps bytes declared context view before (suc n) s h =
    followed before (step bytes declared context view s) (run_from bytes declared context view n)
    (keeps_on before s.counters (step bytes declared context view s) h (step_keeps bytes declared context view s))
    (λ t k. run_keeps bytes declared context view before n t k)

outcome_keeps : (p : ProgramText) (context : List ℕ) (view : View) (before : Counters) → EndKeeps before (outcome p context view before)
unfolding outcome
outcome_keeps p context view before = run_keeps p.bytes p.declared context view before (length p.bytes / 8) (entry before) (λ c. refl)

ran_keeps : (o : Outcome) (before : Counters) → EndKeeps before o → HaveSameBounds (run_result o before).1 before
ran_keeps (Ended r after) before h = h
ran_keeps GotStuck before h = λ c. refl
ran_keeps (Running s) before h = λ c. refl

-- ---- a legal history keeps each counter's bound

abbrev HasBounds : Counters → SiteState → Type 0
HasBounds bounds s = HaveSameBounds s.counters bounds

bounds_stay : (tills : ℕ) (bounds : Counters) → Stays tills (HasBounds bounds)
bounds_stay tills bounds = record {
  at_point = λ s n p new at held h. h;
  at_clear = λ s cleared clears h. h;
  at_price = λ s product price le h. h;
  at_run = λ s p bytes view h c. ran_keeps (outcome p bytes view s.counters) s.counters (outcome_keeps p bytes view s.counters) c ∙ h c;
}

-- After a legal history each counter has the bound that it began with.
pub bounds_kept : (config : ConfigValue) (past : List Entry) (s : SiteState) → Legal config past s → HaveSameBounds s.counters (opening_state config).counters
bounds_kept config past s l =
    after_all config.tills (HasBounds (opening_state config).counters) (bounds_stay config.tills (opening_state config).counters) config refl (λ c. refl) past s l
