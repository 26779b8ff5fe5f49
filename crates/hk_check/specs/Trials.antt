-- What trying one proof comes to.
use Rattle.std.specs.Prelude.{◌≡◌, ℕ, nat_eq, Some, None, List, slice_get, take}
use Rattle.hk_term.specs.Meaning.{Reading, value}
use Rattle.hk_cnf.specs.Clauses.{Clauses, IsUnsatisfiable}
use Rattle.hk_inst.specs.declared.instance.Instance.{Instance}
use Rattle.hk_inst.specs.Truths.{IsInstance}
use Rattle.hk_inst.specs.Questions.{Asked, IsQuestion}
use Rattle.hk_inst.specs.Exactness.{Exact}
use Rattle.hk_lrat.specs.declared.log.LratRow.{LratRow}
use Rattle.hk_lrat.specs.Log.{log_fault}
use Rattle.hk_lrat.specs.Refutes.{Refutes}
use Rattle.hk_proof.specs.declared.Proof.{Proof}
use Rattle.ir_ast.specs.Program.{ModuleView}
use Rattle.ir_layout.specs.declared.object.Object.{Object}
use Rattle.spec_tree.specs.Plain.{Transition, Spec}
use Rattle.hk_case.specs.declared.Obligation.{Obligation}
use Rattle.hk_case.specs.Violation.{IsNeverViolated}
use Rattle.hk_decide.specs.Right.{IsProof}
use Rattle.hk_check.specs.Once.{once}
use Rattle.hk_check.specs.Told.{IsRefusal, IsViolation, IsNoSuch}
use Rattle.hk_check.specs.declared.answers.Trial.{Trial}
use Rattle.hk_check.specs.declared.answers.Trial.TheVariants.{Shown, Refused, Violated, NoSuch}

-- ---- instances

-- an instance speaks of no reads or quantifier of a question
pub record IsNothingOf (q : Asked) (i : Instance) : Type 0 where
  pub question : IsQuestion q
  pub nothing : IsInstance q.nodes q.table i → ⊥

-- the instance at this place does not, of a question to which those before it were added
pub record StopsAt (q : Asked) (instances : List Instance) (place : ℕ) : Type 0 where
  pub instance : Instance
  pub there : slice_get instances place ≡ Some instance
  pub added : q.instances ≡ once (take place instances)
  pub nothing : IsNothingOf q instance

-- ---- logs

-- over clauses alone
pub record IsRefuting (list : Clauses) (log : List LratRow) : Type 0 where
  pub refutes : Refutes list log
  pub accepted : log_fault list log ≡ None
  pub unsatisfiable : IsUnsatisfiable list

abbrev pub IsJudged : Clauses → List LratRow → Trial → Type 0
IsJudged list log Shown = IsRefuting list log
IsJudged list log (Refused clauses row reason) = (clauses ≡ list) × (log_fault list log ≡ Some (row, reason))
IsJudged list log (Violated case) = ⊥
IsJudged list log (NoSuch place) = ⊥

-- over the clauses of a question, once these instances were added
pub record IsJudgedOver (q : Asked) (instances : List Instance) (log : List LratRow) (trial : Trial) : Type 0 where
  pub list : Clauses
  pub exact : Exact (λ v. nat_eq (value q.nodes q.goal v) 1) instances list
  pub judged : IsJudged list log trial

-- a question with the goal of another, as it stands where an instance speaks of nothing
pub record IsStopped (q : Asked) (instances : List Instance) (place : ℕ) : Type 0 where
  pub now : Asked
  pub goal : (v : Reading) → value now.nodes now.goal v ≡ value q.nodes q.goal v
  pub stops : StopsAt now instances place

abbrev pub IsTriedOver : Asked → List Instance → List LratRow → Trial → Type 0
IsTriedOver q instances log (NoSuch place) = IsStopped q instances place
IsTriedOver q instances log trial = IsJudgedOver q instances log trial

-- ---- proofs

abbrev pub IsTried : ModuleView → List Object → Spec → Transition → Obligation → Proof → Trial → Type 0
IsTried m objects s t o p Shown = IsNeverViolated m objects s t o × IsProof m objects s t o p
IsTried m objects s t o p (Refused clauses row reason) = IsRefusal m objects s t o p clauses row reason
IsTried m objects s t o p (Violated case) = IsViolation m objects s t o p case
IsTried m objects s t o p (NoSuch place) = IsNoSuch m objects s t o p place
