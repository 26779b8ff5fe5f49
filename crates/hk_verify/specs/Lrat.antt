-- What an answer to `lrat CNF PROOF` means: the line of the proof's first fault, or that it refutes the clause list.

use Rattle.std.specs.Prelude.{ℕ, ◌≡◌, ◌⊎◌, List, [], ◌∷◌, Option, Some, None, Result, Ok, Err, ⊤, codes}
use Rattle.std.specs.Fmt.{decimal}
use Rattle.hk_io.specs.Faults.{Rose}
use Rattle.hk_io.specs.Held.{Files, held_under}
use Rattle.hk_io.specs.Shown.{shown_with, ShowsPrefix}
use Rattle.hk_cnf.specs.Clauses.{Clauses, IsUnsatisfiable}
use Rattle.hk_cnf.specs.Dimacs.{dimacs_of}
use Rattle.hk_cnf.specs.declared.dimacs_read.CnfFault.{CnfFault}
use Rattle.hk_cnf.specs.declared.dimacs_read.CnfReason.{CnfReason}
use Rattle.hk_lrat.specs.declared.log.LratRow.{LratRow}
use Rattle.hk_lrat.specs.declared.log.RowReason.{RowReason}
use Rattle.hk_lrat.specs.Log.{Fault, log_fault}
use Rattle.hk_lrat.specs.LogText.{log_of}
use Rattle.hk_rows.specs.Texts.{line}
use Rattle.hk_verdict.specs.declared.verdict.InitVerdict.TheVariants.{NotRun}
use Rattle.hk_verify.specs.declared.answer.Answer.{Answer}
use Rattle.hk_verify.specs.declared.answer.TopFault.{TopFault}
use Rattle.hk_verify.specs.declared.answer.TopFault.TheVariants.{Usage, Read, Long, Kernel as OfKernel, Spec as OfSpec, Cert as OfCert, Cnf as OfCnf, Call as OfCall, Memory, Write}
use Rattle.hk_verify.specs.Words.{IsLrat}
use Rattle.hk_claims.specs.Lines.{row_code}
use Rattle.hk_verify.specs.Inputs.{ShelfView, AreLoaded, IsLoadingFault, lrat_files}
use Rattle.hk_verify.specs.Answers.{SinkView, IsRefused}

-- Where a proof first fails over a clause list: in its text, which is read as a whole first, or as a log. None where it
-- refutes the list.
abbrev pub fault_of : Clauses → Result (List LratRow) Fault → Option Fault
fault_of list (Ok rows) = log_fault list rows
fault_of list (Err fault) = Some fault

abbrev pub proof_fault : Clauses → List ℕ → Option Fault
proof_fault list text = fault_of list (log_of text)

-- The line of a proof.
abbrev pub proof_text : Option Fault → List ℕ
proof_text None = line (codes "refuted" ∷ [])
proof_text (Some fault) = line (codes "refused " ∷ decimal fault.0 ∷ codes " " ∷ row_code fault.1 ∷ [])

-- The status of a proof.
abbrev pub proof_status : Option Fault → ℕ
proof_status None = 0
proof_status (Some fault) = 1

-- The line is shown whole.
pub record IsTold (sink : SinkView) (outcome : Option Fault) (answer : Answer) : Type 0 where
  pub says : sink.shown' ≡ shown_with sink.shown (proof_text outcome)
  pub still : sink.faults' ≡ sink.faults
  pub status : answer.status ≡ proof_status outcome

-- The put of the line failed.
pub record IsUntold (sink : SinkView) (outcome : Option Fault) (answer : Answer) : Type 0 where
  pub failed : Rose sink.faults sink.faults'
  pub cut : ShowsPrefix sink.shown sink.shown' (proof_text outcome)
  pub status : answer.status ≡ 6

-- What telling the outcome leaves, by the answer's fault.
abbrev pub TellsWith : SinkView → Option Fault → Answer → Option TopFault → Type 0
TellsWith sink outcome answer None = IsTold sink outcome answer
TellsWith sink outcome answer (Some Write) = IsUntold sink outcome answer
TellsWith sink outcome answer (Some Usage) = ⊥
TellsWith sink outcome answer (Some (Read w)) = ⊥
TellsWith sink outcome answer (Some (Long w)) = ⊥
TellsWith sink outcome answer (Some (OfKernel f)) = ⊥
TellsWith sink outcome answer (Some (OfSpec f)) = ⊥
TellsWith sink outcome answer (Some (OfCert f)) = ⊥
TellsWith sink outcome answer (Some (OfCnf f)) = ⊥
TellsWith sink outcome answer (Some (OfCall f)) = ⊥
TellsWith sink outcome answer (Some Memory) = ⊥

pub record Tells (sink : SinkView) (outcome : Option Fault) (answer : Answer) : Type 0 where
  pub tells : TellsWith sink outcome answer answer.fault
  pub init : answer.init ≡ NotRun
  pub verdicts : answer.verdicts ≡ []

-- Both files were loaded, the first spells this clause list, and this is what the second says of it; where it refutes the
-- list, no assignment satisfies the list.
pub record IsTried (held : Option Files) (cnf proof : List ℕ) (outcome : Option Fault) : Type 0 where
  pub cnf_text : List ℕ
  pub proof_text : List ℕ
  pub list : Clauses
  pub loaded : AreLoaded held (lrat_files cnf proof) (cnf_text ∷ proof_text ∷ [])
  pub spelled : dimacs_of cnf_text ≡ Ok list
  pub outcome_is : outcome ≡ proof_fault list proof_text
  pub sound : outcome ≡ None → IsUnsatisfiable list

-- The clause file is refused at its first line that fails.
pub record RefusesCnf (held : Option Files) (cnf proof : List ℕ) (fault : CnfFault) : Type 0 where
  pub cnf_text : List ℕ
  pub proof_text : List ℕ
  pub loaded : AreLoaded held (lrat_files cnf proof) (cnf_text ∷ proof_text ∷ [])
  pub refused : dimacs_of cnf_text ≡ Err (fault.line, fault.reason)

-- What reading a clause file gives: the list that it spells, or its first fault.
abbrev pub ReadsCnf : Result Clauses (ℕ × CnfReason) → Result Clauses TopFault → Type 0
ReadsCnf answer (Ok list) = answer ≡ Ok list
ReadsCnf answer (Err (OfCert f)) = ⊥
ReadsCnf answer (Err (OfCnf f)) = answer ≡ Err (f.line, f.reason)
ReadsCnf answer (Err Memory) = ⊤
ReadsCnf answer (Err Usage) = ⊥
ReadsCnf answer (Err (Read w)) = ⊥
ReadsCnf answer (Err (Long w)) = ⊥
ReadsCnf answer (Err (OfKernel f)) = ⊥
ReadsCnf answer (Err (OfSpec f)) = ⊥
ReadsCnf answer (Err (OfCall f)) = ⊥
ReadsCnf answer (Err Write) = ⊥

-- Why the call ended before its line. Want of memory is the one free answer.
abbrev pub HasLratCause : ShelfView → List ℕ → List ℕ → TopFault → Type 0
HasLratCause shelf cnf proof (Read w) = IsLoadingFault shelf (lrat_files cnf proof) (Read w)
HasLratCause shelf cnf proof (Long w) = IsLoadingFault shelf (lrat_files cnf proof) (Long w)
HasLratCause shelf cnf proof (OfCert f) = ⊥
HasLratCause shelf cnf proof (OfCnf f) = RefusesCnf shelf.held cnf proof f
HasLratCause shelf cnf proof Memory = ⊤
HasLratCause shelf cnf proof Usage = ⊥
HasLratCause shelf cnf proof (OfKernel f) = ⊥
HasLratCause shelf cnf proof (OfSpec f) = ⊥
HasLratCause shelf cnf proof (OfCall f) = ⊥
HasLratCause shelf cnf proof Write = ⊥

-- The proof was tried, and its line put.
pub record IsChecked (shelf : ShelfView) (sink : SinkView) (cnf proof : List ℕ) (answer : Answer) : Type 0 where
  pub outcome : Option Fault
  pub tried : IsTried shelf.held cnf proof outcome
  pub tells : Tells sink outcome answer

-- The call ended before its line, with a fault that has its cause.
pub record IsUnchecked (shelf : ShelfView) (sink : SinkView) (words : List (List ℕ)) (cnf proof : List ℕ) (answer : Answer) : Type 0 where
  pub fault : TopFault
  pub is_fault : answer.fault ≡ Some fault
  pub cause : HasLratCause shelf cnf proof fault
  pub refused : IsRefused sink words fault answer

-- What the answer to `lrat CNF PROOF` means.
abbrev pub MeansLrat : ShelfView → SinkView → List (List ℕ) → List ℕ → List ℕ → Answer → Type 0
MeansLrat shelf sink words cnf proof answer = IsChecked shelf sink cnf proof answer ⊎ IsUnchecked shelf sink words cnf proof answer

-- Where the status of `lrat CNF PROOF` is 0, no assignment satisfies the clause list that the file spells.
abbrev pub RefutesSoundly : Option Files → List (List ℕ) → Answer → Type 0
RefutesSoundly held words answer = (cnf proof text : List ℕ) (list : Clauses) → IsLrat words cnf proof
    → held_under held cnf ≡ Some text → dimacs_of text ≡ Ok list → answer.status ≡ 0 → IsUnsatisfiable list
