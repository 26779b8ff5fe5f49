-- What an answer says of the proofs of a handler.
use Rattle.std.specs.Prelude.{◌≡◌, ℕ, nat_eq, Some, List, length, slice_get, take}
use Rattle.std.specs.List.{All}
use Rattle.hk_term.specs.Meaning.{value}
use Rattle.hk_cnf.specs.Clauses.{Clauses}
use Rattle.hk_inst.specs.declared.instance.Instance.{Instance}
use Rattle.hk_inst.specs.Truths.{IsInstance}
use Rattle.hk_inst.specs.Questions.{Asked, IsQuestion}
use Rattle.hk_lrat.specs.declared.log.LratRow.{LratRow}
use Rattle.hk_lrat.specs.declared.log.RowReason.{RowReason}
use Rattle.hk_lrat.specs.Log.{log_fault}
use Rattle.hk_proof.specs.declared.Proof.{Proof}
use Rattle.hk_proof.specs.declared.Proof.TheVariants.{Refuted, AllCases}
use Rattle.ir_ast.specs.Program.{ModuleView}
use Rattle.ir_layout.specs.declared.object.Object.{Object}
use Rattle.hk_symmem.specs.Origins.{Origin, AreOriginsOf}
use Rattle.spec_tree.specs.Plain.{Transition, Spec}
use Rattle.hk_case.specs.declared.Obligation.{Obligation}
use Rattle.hk_case.specs.declared.Case.{Case}
use Rattle.hk_case.specs.Obligations.{IsCase, obligations_of}
use Rattle.hk_case.specs.Violation.{Violates, IsNeverViolated}
use Rattle.hk_oblig.specs.Asking.{Asks}
use Rattle.hk_decide.specs.Right.{IsExactFor, IsSmall, AreProofs, IsAccepted}
use Rattle.hk_check.specs.Once.{once}
use Rattle.hk_check.specs.declared.answers.Checked.{Checked}
use Rattle.hk_check.specs.declared.answers.Checked.TheVariants as checked

-- ---- what is asked of the proofs

-- a proof by all cases stands at an obligation of few cases alone
abbrev pub AreFew : List Object → Spec → Transition → List Proof → Type 0
AreFew objects s t proofs = (k : ℕ) (o : Obligation) → slice_get (obligations_of s t) k ≡ Some o → slice_get proofs k ≡ Some AllCases → IsSmall objects s t o

-- ---- a proof that is one

-- no case violates one of these obligations, and the proofs are theirs, one for each
pub record AreShown (m : ModuleView) (objects : List Object) (s : Spec) (t : Transition) (owed : List Obligation) (proofs : List Proof) : Type 0 where
  pub never : All (IsNeverViolated m objects s t) owed
  pub proofs_are : AreProofs m objects s t owed proofs
  pub count : length proofs ≡ length owed

-- ---- a proof that is none

-- over these clauses, which are exact for the obligation and the instances, the log first fails at this row for this reason
pub record IsFailing (m : ModuleView) (objects : List Object) (s : Spec) (t : Transition) (o : Obligation) (instances : List Instance) (log : List LratRow)
    (list : Clauses) (row : ℕ) (reason : RowReason) : Type 0 where
  pub exact : IsExactFor m objects s t o instances list
  pub fault : log_fault list log ≡ Some (row, reason)

-- this case of the obligation's shape violates it
pub record IsViolating (m : ModuleView) (objects : List Object) (s : Spec) (t : Transition) (o : Obligation) (case : Case) : Type 0 where
  pub shape : IsCase objects s t o case
  pub violates : Violates m s t o case

-- why the log of a proof is refused
abbrev pub IsRefusal : ModuleView → List Object → Spec → Transition → Obligation → Proof → Clauses → ℕ → RowReason → Type 0
IsRefusal m objects s t o (Refuted instances log) list row reason = IsFailing m objects s t o instances log list row reason
IsRefusal m objects s t o AllCases list row reason = ⊥

-- why the proof that all cases were tried is none
abbrev pub IsViolation : ModuleView → List Object → Spec → Transition → Obligation → Proof → Case → Type 0
IsViolation m objects s t o (Refuted instances log) case = ⊥
IsViolation m objects s t o AllCases case = IsViolating m objects s t o case

-- the instance at this place speaks of no reads or quantifier of a question, which asks the obligation, over arrays that may stand for the
-- objects, and to which the instances before it were added
pub record NamesNothing (m : ModuleView) (objects : List Object) (s : Spec) (t : Transition) (o : Obligation) (instances : List Instance) (place : ℕ) : Type 0 where
  pub instance : Instance
  pub there : slice_get instances place ≡ Some instance
  pub question : Asked
  pub is_question : IsQuestion question
  pub origins : List Origin
  pub stand : AreOriginsOf objects origins
  pub asks : Asks m origins s t o (λ v. nat_eq (value question.nodes question.goal v) 1)
  pub added : question.instances ≡ once (take place instances)
  pub nothing : IsInstance question.nodes question.table instance → ⊥

-- why an instance of a proof is refused
abbrev pub IsNoSuch : ModuleView → List Object → Spec → Transition → Obligation → Proof → ℕ → Type 0
IsNoSuch m objects s t o (Refuted instances log) place = NamesNothing m objects s t o instances place
IsNoSuch m objects s t o AllCases place = ⊥

-- ---- answers

-- the handler is correct, and the proofs are those of its obligations, one for each
pub record IsChecked (m : ModuleView) (objects : List Object) (s : Spec) (t : Transition) (proofs : List Proof) : Type 0 where
  pub accepted : IsAccepted m objects s t proofs
  pub count : length proofs ≡ length (obligations_of s t)

-- the obligation at this place with its proof, behind those that are shown
pub record IsFirst (m : ModuleView) (objects : List Object) (s : Spec) (t : Transition) (proofs : List Proof) (place : ℕ) (o : Obligation) (p : Proof) : Type 0 where
  pub owed : slice_get (obligations_of s t) place ≡ Some o
  pub given : slice_get proofs place ≡ Some p
  pub before : AreShown m objects s t (take place (obligations_of s t)) (take place proofs)

pub record IsRefused (m : ModuleView) (objects : List Object) (s : Spec) (t : Transition) (proofs : List Proof) (place : ℕ) (o : Obligation) (list : Clauses) (row : ℕ) (reason : RowReason) : Type 0 where
  pub proof : Proof
  pub first : IsFirst m objects s t proofs place o proof
  pub refusal : IsRefusal m objects s t o proof list row reason

pub record IsViolated (m : ModuleView) (objects : List Object) (s : Spec) (t : Transition) (proofs : List Proof) (o : Obligation) (case : Case) : Type 0 where
  pub place : ℕ
  pub proof : Proof
  pub first : IsFirst m objects s t proofs place o proof
  pub refusal : IsViolation m objects s t o proof case

pub record IsNoSuchOf (m : ModuleView) (objects : List Object) (s : Spec) (t : Transition) (proofs : List Proof) (place instance : ℕ) : Type 0 where
  pub obligation : Obligation
  pub proof : Proof
  pub first : IsFirst m objects s t proofs place obligation proof
  pub refusal : IsNoSuch m objects s t obligation proof instance

abbrev pub IsTold : ModuleView → List Object → Spec → Transition → List Proof → Checked → Type 0
IsTold m objects s t proofs checked.Holds = IsChecked m objects s t proofs
IsTold m objects s t proofs (checked.Refused place o list row reason) = IsRefused m objects s t proofs place o list row reason
IsTold m objects s t proofs (checked.Violated o case) = IsViolated m objects s t proofs o case
IsTold m objects s t proofs (checked.NoSuch place instance) = IsNoSuchOf m objects s t proofs place instance
