-- Promises: what a worker did. It tried to open one connection after another, and ran a session at each that it opened,
-- until its doors were closed. The first session began in the state that the worker was given, and each later one in
-- the state in which the one before it ended.
use Rattle.std.specs.Prelude.{◌≡◌, ◌≢◌, ◌⊎◌, ℕ, ◌+◌, ◌≤◌, List, [], ◌∷◌, length, Option, Some, None, Result, Ok, Err, IfOk, IfErr, OnErr}
use Rattle.till_request.specs.declared.act.Act.{Act}
use Rattle.till_request.specs.declared.act.Role.{Role}
use Rattle.till_request.specs.declared.act.Answer.{Answer}
use Rattle.till_request.specs.declared.look.LookAt.{LookAt}
use Rattle.till_request.specs.Count.{RoseBy, one_if}
use Rattle.line_session.specs.declared.answering.Ended.{Ended}
use Rattle.line_session.specs.declared.answering.SessionFault.{SessionFault}
use Rattle.line_session.specs.declared.answering.SessionFault.TheVariants.{ReadsSpent, Write}
use Rattle.line_session.specs.declared.line_handler.HandlerError.{HandlerError}
use Rattle.line_session.specs.Answering.{Ends, Breaks, StopsAtDoor, is_read, is_write, session_reads}
use Rattle.line_session.specs.Session.{LineAnswer, desk_answers, desk_drops, desk_needs_memory}

-- how a connection went: None if it couldn't be opened, or else how its session ended
abbrev pub Outcome : Type 0
Outcome = Option (Result Ended SessionFault)

-- 1 for a session that ended without a SessionFault, else 0
abbrev pub one_good : Outcome → ℕ
one_good None = 0
one_good (Some (Err fault)) = 0
one_good (Some (Ok ended)) = 1

-- how many of these connections had a session that ended without a SessionFault
abbrev pub good : List Outcome → ℕ
good [] = 0
good (outcome ∷ outcomes) = one_good outcome + good outcomes

-- A session led this input and output to `input` and `output`, and had this result. Either all lines were answered, or
-- the session failed and a beginning of the answers was written. Each fault has its cause: a device failed, all reads
-- were made, the journal failed at a line, or memory ran out at a line.
pub record RunsSession {S I O : Type 0} (answers_with : S → List ℕ → List ℕ → S → Type 0) (drops : HandlerError → S → List ℕ → S → Type 0) (needs_memory : List ℕ → Type 0)
    (remaining : I → Option (List ℕ)) (reads read_failures : I → ℕ) (written : O → Option (List ℕ)) (write_failures : O → ℕ)
    (result : Result Ended SessionFault) (i : I) (o : O) (input : I) (output : O) (s s' : S) : Type 0 where
  pub all_answered : IfOk result (λ ended. Ends answers_with s s' (remaining i) (remaining input) (written o) (written output) ended.lines ended.cut)
  pub broken : OnErr result (Breaks answers_with drops s s' (remaining i) (remaining input) (written o) (written output))
  pub read_fault : RoseBy (one_if (is_read result)) (read_failures i) (read_failures input)
  pub write_fault : RoseBy (one_if (is_write result)) (write_failures o) (write_failures output)
  pub count : ℕ
  pub few : count ≤ session_reads
  pub counted : RoseBy count (reads i) (reads input)
  pub spent : result ≡ Err ReadsSpent → count ≡ session_reads
  pub stopped : IfErr result
      (λ fault. fault ≢ Write → StopsAtDoor answers_with drops needs_memory fault s s' (remaining i) (remaining input) (written o) (written output))

-- a session of this role, with a desk and a clock, had this result (`RunsSession`)
abbrev pub RunsDeskSession : {C D I O : Type 0} → (D → Act → ℕ → Answer → D → Type 0) → (D → LookAt → ℕ → LineAnswer → D → Type 0) → (C → ℕ → C → Type 0)
    → Role → (I → Option (List ℕ)) → (I → ℕ) → (I → ℕ) → (O → Option (List ℕ)) → (O → ℕ) → Result Ended SessionFault → I → O → I → O → C × D → C × D → Type 0
RunsDeskSession step looks tick role = RunsSession (desk_answers step looks tick role) (desk_drops step looks tick role) (desk_needs_memory role)

-- How one connection went. Either it couldn't be opened, and the clock and the desk weren't asked. Or it was opened, a
-- session ran over it, and the doors took back what was left of it, and were told how the session ended.
abbrev pub ServesConnection : {D S I O : Type 0} → (D → I → O → D → Type 0) → (D → D → Type 0) → (D → I → O → Result Ended SessionFault → D → Type 0)
    → (Result Ended SessionFault → I → O → I → O → S → S → Type 0) → Outcome → D → S → D → S → Type 0
ServesConnection opens fails reported runs_session None d s d' s' = fails d d' × (s' ≡ s)
ServesConnection {D} {S} {I} {O} opens fails reported runs_session (Some result) d s d' s' =
    (i : I) × (o : O) × (m : D) × opens d i o m × (j : I) × (p : O) × runs_session result i o j p s s' × reported m j p result d'

-- Connections with these outcomes came one after another, and `serves_connection` holds for each. This led the doors
-- from state d to d', and the clock and the desk of the sessions from state s to s'.
abbrev pub ServesConnections : {D S : Type 0} → (Outcome → D → S → D → S → Type 0) → List Outcome → D → S → D → S → Type 0
ServesConnections serves_connection [] d s d' s' = (d' ≡ d) × (s' ≡ s)
ServesConnections {D} {S} serves_connection (outcome ∷ outcomes) d s d' s' = (m : D) × (t : S) × serves_connection outcome d s m t × ServesConnections serves_connection outcomes m t d' s'

-- A worker served `asked` connections, or fewer if its doors could be closed, and `clean` of them ended without a
-- SessionFault.
pub record Serves {D S : Type 0} (serves_connection : Outcome → D → S → D → S → Type 0) (may_close : D → Type 0) (asked clean : ℕ) (d : D) (s : S) (d' : D) (s' : S) : Type 0 where
  pub outcomes : List Outcome
  pub each : ServesConnections serves_connection outcomes d s d' s'
  pub most : length outcomes ≤ asked
  pub all_asked : (length outcomes ≡ asked) ⊎ may_close d
  pub counted : clean ≡ good outcomes
