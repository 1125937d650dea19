-- Promises: answers don't depend on the sizes of the input's reads. To describe what a session read and wrote, `Ends`
-- uses the bytes of its input, but not the sizes of its reads. So two sessions with the same bytes, from the same state
-- and after the same output, end alike if three things hold:
-- - Neither session fails.
-- - No answer is that memory ran out.
-- - In each state a line has only one answer, and only one state follows, unless memory runs out.
use Rattle.std.specs.Prelude.{◌≡◌, ℕ, List, Option, Some, Err}
use Rattle.std.specs.List.{AllByRecursion}
use Rattle.till_request.specs.declared.act.Act.{Act}
use Rattle.till_request.specs.declared.act.LineFault.{LineFault}
use Rattle.till_request.specs.declared.act.Answer.{Answer}
use Rattle.till_request.specs.declared.act.Answer.TheVariants.{OutOfMemory}
use Rattle.till_request.specs.declared.look.LookAt.{LookAt}
use Rattle.till_request.specs.Answer.{answer_line}
use Rattle.line_session.specs.Answering.{Ends}
use Rattle.line_session.specs.Session.{LineAnswer}

-- the text is the answer that memory ran out
abbrev pub IsOutOfMemoryText : List ℕ → Type 0
IsOutOfMemoryText text = text ≡ answer_line OutOfMemory

-- none of these answers is that memory ran out
abbrev pub NoneIsOutOfMemoryText : List (List ℕ) → Type 0
NoneIsOutOfMemoryText texts = AllByRecursion (λ text. ¬ IsOutOfMemoryText text) texts

-- a line has only one answer in a state, and only one state follows, unless memory runs out
abbrev pub IsDetermined : {S : Type 0} → (S → List ℕ → List ℕ → S → Type 0) → Type 0
IsDetermined {S} answers_with =
    (s : S) (line text other : List ℕ) (m n : S) → answers_with s line text m → answers_with s line other n → ¬ IsOutOfMemoryText text → ¬ IsOutOfMemoryText other → (text ≡ other) × (m ≡ n)

-- two sessions wrote the same, ended in the same state, gave the same number of answers, and ended with the same fault
-- of a line, or both without one
pub record EndAlike {S : Type 0} (s t : S) (out_s out_t : List ℕ) (count_s count_t : ℕ) (cut_s cut_t : Option LineFault) : Type 0 where
  pub state : s ≡ t
  pub written : out_s ≡ out_t
  pub count : count_s ≡ count_t
  pub cut : cut_s ≡ cut_t

-- two sessions with the same bytes, from one state and after the same output, end alike if neither fails and none of
-- their answers is that memory ran out
abbrev pub IsIndependentOfReadSizes : {S : Type 0} → (S → List ℕ → List ℕ → S → Type 0) → Type 0
IsIndependentOfReadSizes {S} answers_with =
    (s t u : S) (bytes out out_t out_u : List ℕ) (in_t in_u : Option (List ℕ)) (count_t count_u : ℕ) (cut_t cut_u : Option LineFault)
    → (one : Ends answers_with s t (Some bytes) in_t (Some out) (Some out_t) count_t cut_t)
    → (other : Ends answers_with s u (Some bytes) in_u (Some out) (Some out_u) count_u cut_u)
    → NoneIsOutOfMemoryText one.answering.texts → NoneIsOutOfMemoryText other.answering.texts
    → EndAlike t u out_t out_u count_t count_u cut_t cut_u

-- in each state the clock can give only one moment, and only one state follows
abbrev pub IsClockDetermined : {C : Type 0} → (C → ℕ → C → Type 0) → Type 0
IsClockDetermined {C} tick = (c d e : C) (m n : ℕ) → tick c m d → tick c n e → (m ≡ n) × (d ≡ e)

-- in each state the desk has only one answer to an act or a look at a moment, and only one state follows, unless memory
-- runs out
pub record IsDeskDetermined {D : Type 0} (step : D → Act → ℕ → Answer → D → Type 0) (looks : D → LookAt → ℕ → LineAnswer → D → Type 0) : Type 0 where
  pub of_acts : (d e f : D) (act : Act) (moment : ℕ) (a b : Answer) → step d act moment a e → step d act moment b f → ¬ (a ≡ OutOfMemory) → ¬ (b ≡ OutOfMemory)
      → (a ≡ b) × (e ≡ f)
  pub of_looks : (d e f : D) (look : LookAt) (moment : ℕ) (a b : LineAnswer) → looks d look moment a e → looks d look moment b f → ¬ (a ≡ Err OutOfMemory)
      → ¬ (b ≡ Err OutOfMemory) → (a ≡ b) × (e ≡ f)
