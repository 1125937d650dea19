-- What a line gets and is written is an answer to the line.
use Rattle.std.proofs.Common.{◌≡◌, ℕ, List, false, Err, refl, subst, inl, inr}
use Rattle.till_request.specs.declared.act.Act.{Act}
use Rattle.till_request.specs.declared.act.Role.{Role}
use Rattle.till_request.specs.declared.act.LineFault.{LineFault}
use Rattle.till_request.specs.declared.act.LineFault.TheVariants as fault
use Rattle.till_request.specs.declared.act.Answer.{Answer}
use Rattle.till_request.specs.declared.act.Answer.TheVariants.{Line}
use Rattle.till_request.specs.declared.look.LookAt.{LookAt}
use Rattle.till_request.specs.Gives.{Fails}
use Rattle.till_request.specs.Looks.{line_asked}
use Rattle.line_session.specs.Session.{AnswersAsked, LineAnswer, desk_answers, line_of, stays_unwritten}
use Rattle.line_session.specs.Deciding.{Decides, DecidesFault}

module _ {C D : Type 0} (step : D → Act → ℕ → Answer → D → Type 0) (looks : D → LookAt → ℕ → LineAnswer → D → Type 0) (tick : C → ℕ → C → Type 0) (role : Role)
    (line : List ℕ) (c : C) (d : D) (c' : C) (d' : D) where
  -- a fault that is answered is that of the line, unless memory ran out
  told : (why : LineFault) → Fails why (line_asked role line) → stays_unwritten (Err (Line why)) ≡ false → line_asked role line ≡ Err why
  told fault.TooLong fails written = fails
  told fault.BadLine fails written = fails
  told fault.BadNumber fails written = fails
  told fault.CutLine fails written = fails
  told fault.OtherDoor fails written = fails
  told fault.OutOfMemory fails written = absurd (cc)

  fault_answers : (a : LineAnswer) → (f : DecidesFault role line c d a c' d') → stays_unwritten a ≡ false → AnswersAsked step looks tick (line_asked role line) c d a c' d'
  fault_answers a f written =
      let is : line_asked role line ≡ Err f.0 = told f.0 f.2 (subst (λ x. stays_unwritten x ≡ false) f.1 written) in
      rw is (f.1, f.4, f.5)

  -- what is written is an answer to the line
  pub written_answers : (a : LineAnswer) → Decides step looks tick role line c d a c' d' → stays_unwritten a ≡ false
      → desk_answers step looks tick role (c, d) line (line_of a) (c', d')
  written_answers a (inl asked) written = record {
    answer = a;
    answers = rw asked.1 asked.2;
    has_line = written;
    text_is = refl;
  }
  written_answers a (inr f) written = record {
    answer = a;
    answers = fault_answers a f written;
    has_line = written;
    text_is = refl;
  }
