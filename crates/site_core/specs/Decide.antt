-- Definitions: how a release, a preset or a price is decided (source: this project). In these definitions a history has
-- its newest entry first.
use Rattle.std.specs.Prelude.{◌≡◌, ◌≤◌, ℕ, ◌-◌, ◌/◌, ◌%◌, ◌^◌, min, Bool, true, false, ◌&&◌, ◌==◌, nat_lt, nat_le, if◌then◌else◌, List, length, map, slice_set}
use Rattle.std.specs.Prelude.{slice_index_or, Option, Some, None, Result, Ok, Err}
use Rattle.std.specs.List.{range_with_len}
use Rattle.std.specs.Result.{result_ok}
use Rattle.fuelling_point.specs.Table.{PointState, command_step}
use Rattle.fuelling_point.specs.States.{is_ready, state_number}
use Rattle.fuelling_point.specs.declared.kinds.State.{State}
use Rattle.fuelling_point.specs.declared.kinds.Command.{Command}
use Rattle.fuelling_point.specs.declared.kinds.Command.TheVariants as command
use Rattle.decision_journal.specs.declared.entries.Entry.{Entry}
use Rattle.decision_journal.specs.declared.entries.Run.{Run}
use Rattle.till_request.specs.declared.act.Request.{Request}
use Rattle.till_request.specs.declared.act.Request.TheVariants as request
use Rattle.till_request.specs.declared.act.Reply.{Reply}
use Rattle.till_request.specs.declared.act.Reply.TheVariants as reply
use Rattle.bpf_model.specs.Machine.{Counters, counter}
use Rattle.bpf_model.specs.Runs.{Outcome, Ended}
use Rattle.bpf_model.specs.Program.{outcome}
use Rattle.bpf_model.specs.Layouts.{bytes_of}
use Rattle.site_core.specs.Limits.{ConfigValue}
use Rattle.site_core.specs.State.{SiteState, at_number, price_of, with_point, first_busy, view_of}
use Rattle.site_core.specs.Context.{context}
use Rattle.site_core.specs.declared.question.Kind.{Kind}
use Rattle.site_core.specs.declared.question.Kind.TheVariants.{Release, Preset, Price}
use Rattle.site_core.specs.declared.question.Question.{Question}
use Rattle.site_core.specs.declared.question.RequestAction.{RequestAction}
use Rattle.site_core.specs.declared.question.RequestAction.TheVariants as action
use Rattle.site_core.specs.SlotsValue.{Version}
use Rattle.site_core.specs.History.{in_force}

-- The effect of an event: the reply, the run if a program was run, and the site's state after the event.
pub record Effect : Type 0 where
  pub reply : Reply
  pub run : Option Run
  pub after : SiteState

-- The effect of an event that is answered with this reply, runs no program, and leads to this state.
abbrev pub replied : Reply → SiteState → Effect
replied r s = record { reply = r; run = None; after = s }

abbrev pub refused : ℕ → Reply
refused number = reply.Refused number None

abbrev pub refused_with : ℕ → ℕ → Reply
refused_with number value = reply.Refused number (Some value)

abbrev pub no_such_point : Reply
no_such_point = refused 20

abbrev pub no_such_till : Reply
no_such_till = refused 21

abbrev pub bad_amount : Reply
bad_amount = refused 25

abbrev pub transactions_full : Reply
transactions_full = refused 26

-- `wrong_state` is the refusal S22 (a point's state doesn't allow the request), with the state's number. `no_program`
-- is S23 (the slot has no program), with the slot's number. `denied` is S24 (a denial by a program), with the version's
-- number.
abbrev pub wrong_state : State → Reply
wrong_state state = refused_with 22 (state_number state)

abbrev pub no_program : ℕ → Reply
no_program slot = refused_with 23 slot

abbrev pub denied : ℕ → Reply
denied version = refused_with 24 version

-- The reply is a grant or S24 (a denial by a program): the two replies that only a program's answer leads to.
abbrev pub is_decided : Reply → Bool
is_decided (reply.Granted amount version) = true
is_decided (reply.Refused number value) = number == 24
is_decided _ = false

-- `rest` if the test is true, or else the refusal as an error.
abbrev pub refuse_unless : {T : Type 0} → Bool → Reply → Result T Reply → Result T Reply
refuse_unless test refusal rest = if test then rest else Err refusal

abbrev pub is_within : ℕ → ℕ → ℕ → Bool
is_within least x greatest = nat_le least x && nat_le x greatest

abbrev pub is_till : ConfigValue → ℕ → Bool
is_till config till = is_within 1 till config.tills

-- The slot whose program decides the releases of point n, and the slot whose program decides its presets. Both are 0 if
-- there are fewer than n points. For n = 0 they are the same as for n = 1.
abbrev pub slots_of : ConfigValue → ℕ → ℕ × ℕ
slots_of config n = slice_index_or config.points (n - 1) (0, 0)

-- The question that a release at point n asks. Its slot is the one whose program decides the releases of this point.
-- The two definitions below are the questions of a preset and of a price change.
abbrev pub release_of : ConfigValue → ℕ → ℕ → Question
release_of config n amount = record { kind = Release; point = n; product = 0; asked = amount; slot = (slots_of config n).0 }

abbrev pub preset_of : ConfigValue → ℕ → ℕ → Question
preset_of config n amount = record { kind = Preset; point = n; product = 0; asked = amount; slot = (slots_of config n).1 }

abbrev pub price_question_of : ConfigValue → ℕ → ℕ → Question
price_question_of config product price = record { kind = Price; point = 0; product = product; asked = price; slot = config.price_slot }

-- What a request leads to: a question to a program, a command to a point, or the display of a point's state.
abbrev pub request_action : ConfigValue → Request → RequestAction
request_action config (request.Release n amount) = action.Decision (release_of config n amount)
request_action config (request.Preset n amount) = action.Decision (preset_of config n amount)
request_action config (request.Price product price) = action.Decision (price_question_of config product price)
request_action config (request.OpenPoint n) = action.Command n command.OpenPoint
request_action config (request.ClosePoint n) = action.Command n command.ClosePoint
request_action config (request.Suspend n) = action.Command n command.Suspend
request_action config (request.Resume n) = action.Command n command.Resume
request_action config (request.Stop n) = action.Command n command.Stop
request_action config (request.Lock n number) = action.Command n (command.Lock number)
request_action config (request.Unlock n number) = action.Command n (command.Unlock number)
request_action config (request.Clear n number) = action.Command n (command.Clear number)
request_action config (request.Show n) = action.Show n

-- The point has room for the unpaid transaction that a release leads to. True for other kinds of request.
abbrev pub has_room : Kind → PointState → Bool
has_room Release p = nat_lt (length p.unpaid) 2
has_room _ p = true

-- Checks the question of a release or a preset at its point. Ok is the question itself. Err is the refusal: S25 if the
-- amount is out of its range, else S22 if the point isn't ready, else S26 for a release at a point with two or more
-- unpaid transactions. No program is run for a refused question.
abbrev pub asked_at : PointState → Question → Result Question Reply
asked_at p q =
    refuse_unless (is_within 1 q.asked 999999999) bad_amount
    (refuse_unless (is_ready p.state) (wrong_state p.state)
    (refuse_unless (has_room q.kind p) transactions_full
    (Ok q)))

unfoldable pub asked_at_point : SiteState → Question → Result Question Reply
asked_at_point s q = elim (at_number s.points q.point) [ None ↦ Err no_such_point | Some p ↦ asked_at p q ]

-- The question of a price change, or its refusal. A price isn't changed while any point is in one of states 5 to 9:
-- `busy` is the state of the first such point.
abbrev pub price_at : Option State → Question → Result Question Reply
price_at busy q =
    refuse_unless (is_within 1 q.product 8 && is_within 1 q.asked 9999999) bad_amount (elim busy [ Some state ↦ Err (wrong_state state) | None ↦ Ok q ])

-- Checks a question in this state. Ok is the question itself, Err the refusal. No program is run for a refused
-- question.
abbrev pub admitted : SiteState → Question → Result Question Reply
admitted s q = elim q.kind [ Price ↦ price_at (first_busy s) q | _ ↦ asked_at_point s q ]

-- The question that a program is asked in this state. None if the state refuses the question, or if the request is of a
-- kind that no program decides.
abbrev pub question_in : SiteState → RequestAction → Option Question
question_in s (action.Decision q) = result_ok (admitted s q)
question_in s _ = None

abbrev pub question_of : ConfigValue → SiteState → Request → Option Question
question_of config s request = question_in s (request_action config request)

-- The question that a program is asked in this state for a request by this till. None if the site has no such till, if
-- the state refuses the question, or if the request is of a kind that no program decides.
abbrev pub asked_question : ConfigValue → SiteState → ℕ → Request → Option Question
asked_question config s till request = if is_till config till then question_of config s request else None

-- The amount that is granted if the program answered r. For a price, it is the price that is asked. For a preset or a
-- release, it is the amount that is asked, but at most r. For a release it is also at most the point's preset, unless
-- the preset is 0, which means none.
abbrev pub granted_amount : Kind → ℕ → ℕ → ℕ → ℕ
granted_amount Release asked r preset = if preset == 0 then min asked r else min (min asked r) preset
granted_amount Preset asked r preset = min asked r
granted_amount Price asked r preset = asked

-- The point after a command at this price of the product that its lifted nozzle carries. A point that refuses the
-- command is unchanged.
abbrev pub after_command : ℕ → PointState → ℕ → Command → PointState
after_command price p till command = elim (command_step price p till command) [ Ok o ↦ o.0 | Err _ ↦ p ]

abbrev pub command_of : Kind → ℕ → Command
command_of Release granted = command.Release granted
command_of _ granted = command.Preset granted

-- The amount that is granted if the program answered r, and the state after the grant. If the question's point doesn't
-- exist, the question is taken for one about a price, whatever its kind: `asked` becomes the price of its product.
unfoldable pub grant : SiteState → ℕ → Question → ℕ → ℕ × SiteState
grant s till q r =
    elim (at_number s.points q.point) [
      | Some p ↦
          let g : ℕ = granted_amount q.kind q.asked r p.preset in
          (g, with_point s q.point (after_command (price_of s p.nozzle) p till (command_of q.kind g)))
      | None ↦ (q.asked, record s { prices = slice_set s.prices (q.product - 1) q.asked })
    ]

-- The question's point exists, or the question's product is 1 to 8 and its price is at most 9,999,999 thousandths.
abbrev pub HasPointOrValidPrice : SiteState → Question → Type 0
HasPointOrValidPrice s q = at_number s.points q.point ≡ None → (1 ≤ q.product) × (q.product ≤ 8) × (q.asked ≤ 9999999)

-- Counter c is declared: bit c of the mask is set.
abbrev pub is_declared : ℕ → ℕ → Bool
is_declared mask c = mask / 2 ^ c % 2 == 1

-- The values of counter c before and after a run, or None if the counter isn't declared.
abbrev pub count_of : ℕ → Counters → Counters → ℕ → Option (ℕ × ℕ)
count_of mask before after c =
    if is_declared mask c then Some ((counter before c).0, (counter after c).0) else None

-- For each of the 32 counters its values before and after a run, or None if it isn't declared.
unfoldable pub counts : ℕ → Counters → Counters → List (Option (ℕ × ℕ))
counts mask before after = map (λ c. count_of mask before after c) (range_with_len 0 32)

-- The effect of a decision in which `v`, the version in force, answered r and left these counters.
unfoldable pub verdict : SiteState → ℕ → ℕ → Question → Version → ℕ → Counters → Effect
verdict s till moment q v r counters =
    let counted : SiteState = record s { counters = counters } in
    let run : Run = record {
      slot = q.slot;
      version = v.number;
      r0 = r;
      context = context v.program.layout s till moment q;
      counts = counts v.program.declared s.counters counters;
    } in
    if r == 0 then record { reply = denied v.number; run = Some run; after = counted }
    else
    (let g : ℕ × SiteState = grant counted till q r in
    record { reply = reply.Granted g.0 v.number; run = Some run; after = g.1 })

-- The answer and the counters after a run. A run that doesn't end counts as a denial that leaves the counters as they
-- were before. This never occurs: every program that is loaded is good, and the run of a good program ends.
abbrev pub run_result : Outcome → Counters → ℕ × Counters
run_result (Ended r counters) before = (r, counters)
run_result _ before = (0, before)

-- The effect of a question. If the question is refused, the reply is this refusal, and no program is run. If the
-- question's slot has no program, the reply is S23. Otherwise the slot's program is run on this state, and its answer
-- decides.
unfoldable pub decided : ConfigValue → List Entry → SiteState → ℕ → ℕ → Result Question Reply → Effect
decided config past s till moment (Err refusal) = replied refusal s
decided config past s till moment (Ok q) =
    elim (in_force config q.slot past) [
      | None ↦ replied (no_program q.slot) s
      | Some v ↦
          let r : ℕ × Counters = run_result (outcome v.program (bytes_of (context v.program.layout s till moment q)) (view_of s) s.counters) s.counters in
          verdict s till moment q v r.0 r.1
    ]
