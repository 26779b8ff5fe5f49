-- When a verdict is right.
use Rattle.std.specs.Prelude.{◌≡◌, ◌⊎◌, ℕ, ◌+◌, ◌<◌, ◌≤◌, Bool, Option, Some, None, List, [], length, slice_get, take, drop, ⊤}
use Rattle.std.specs.List.{All}
use Rattle.hk_term.specs.Meaning.{Reading}
use Rattle.hk_cnf.specs.Clauses.{Clauses}
use Rattle.hk_inst.specs.declared.instance.Instance.{Instance}
use Rattle.hk_inst.specs.Exactness.{Exact}
use Rattle.hk_lrat.specs.declared.log.LratRow.{LratRow}
use Rattle.hk_lrat.specs.Log.{log_fault}
use Rattle.hk_lrat.specs.Refutes.{Refutes}
use Rattle.hk_cdcl.specs.Fresh.{IsSpent}
use Rattle.hk_proof.specs.declared.Proof.{Proof}
use Rattle.hk_proof.specs.declared.Proof.TheVariants.{Refuted, AllCases}
use Rattle.ir_ast.specs.Program.{ModuleView}
use Rattle.ir_layout.specs.declared.object.Object.{Object}
use Rattle.hk_symmem.specs.Origins.{Origin, AreOriginsOf}
use Rattle.spec_tree.specs.Plain.{Transition, Spec}
use Rattle.hk_case.specs.declared.Obligation.{Obligation}
use Rattle.hk_case.specs.declared.Case.{Case}
use Rattle.hk_case.specs.Obligations.{IsCase, obligations_of, case_bits}
use Rattle.hk_case.specs.Violation.{Violates, IsNeverViolated, IsCorrect}
use Rattle.hk_oblig.specs.Asking.{Asks}
use Rattle.hk_verdict.specs.declared.verdict.Verdict.{Verdict}
use Rattle.hk_verdict.specs.declared.verdict.Verdict.TheVariants.{Accepted, Rejected, Unknown, Memory}

-- ---- proofs

-- the clauses are exact for a question whether a case violates the obligation, over arrays that may stand for the objects, and for
-- these instances
pub record IsExactFor (m : ModuleView) (objects : List Object) (s : Spec) (t : Transition) (o : Obligation) (instances : List Instance) (list : Clauses) : Type 0 where
  pub origins : List Origin
  pub stand : AreOriginsOf objects origins
  pub test : Reading → Bool
  pub asks : Asks m origins s t o test
  pub exact : Exact test instances list

-- the log refutes such clauses, so that the checker finds no fault in it
pub record IsRefutation (m : ModuleView) (objects : List Object) (s : Spec) (t : Transition) (o : Obligation) (instances : List Instance) (log : List LratRow) : Type 0 where
  pub list : Clauses
  pub exact : IsExactFor m objects s t o instances list
  pub refutes : Refutes list log
  pub accepted : log_fault list log ≡ None

-- the cases of an obligation are few: they have at most sixteen bits
abbrev pub IsSmall : List Object → Spec → Transition → Obligation → Type 0
IsSmall objects s t o = case_bits objects s t o ≤ 16

-- all cases are tried where they are few alone
abbrev pub IsProof : ModuleView → List Object → Spec → Transition → Obligation → Proof → Type 0
IsProof m objects s t o AllCases = IsSmall objects s t o
IsProof m objects s t o (Refuted instances log) = IsRefutation m objects s t o instances log

-- one proof for each of these obligations, in their order, or none at all
pub record AreProofs (m : ModuleView) (objects : List Object) (s : Spec) (t : Transition) (owed : List Obligation) (proofs : List Proof) : Type 0 where
  pub count : (proofs ≡ []) ⊎ (length proofs ≡ length owed)
  pub each : (k : ℕ) (o : Obligation) (p : Proof) → slice_get owed k ≡ Some o → slice_get proofs k ≡ Some p → IsProof m objects s t o p

-- ---- verdicts

-- the handler is correct, and the proofs are those of its obligations
pub record IsAccepted (m : ModuleView) (objects : List Object) (s : Spec) (t : Transition) (proofs : List Proof) : Type 0 where
  pub correct : IsCorrect m objects s t
  pub proofs_are : AreProofs m objects s t (obligations_of s t) proofs

-- no case violates the obligation, if its cases are few
abbrev pub IsNeverWhereSmall : ModuleView → List Object → Spec → Transition → Obligation → Type 0
IsNeverWhereSmall m objects s t o = IsSmall objects s t o → IsNeverViolated m objects s t o

-- the case has the shape of an obligation of the handler and violates it, and no case violates an obligation before that one whose cases
-- are few
pub record IsRefuted (m : ModuleView) (objects : List Object) (s : Spec) (t : Transition) (o : Obligation) (c : Case) : Type 0 where
  pub place : ℕ
  pub owed : slice_get (obligations_of s t) place ≡ Some o
  pub shape : IsCase objects s t o c
  pub violates : Violates m s t o c
  pub first : All (IsNeverWhereSmall m objects s t) (take place (obligations_of s t))

-- an obligation of the handler has many cases, the clauses are exact for it and the instances, and the log spent the budget over them;
-- no case violates an obligation before that one, nor one behind it whose cases are few
pub record IsUndecided (budget : ℕ) (m : ModuleView) (objects : List Object) (s : Spec) (t : Transition) (o : Obligation) (instances : List Instance)
    (clauses : Clauses) (log : List LratRow) : Type 0 where
  pub place : ℕ
  pub owed : slice_get (obligations_of s t) place ≡ Some o
  pub many : 16 < case_bits objects s t o
  pub exact : IsExactFor m objects s t o instances clauses
  pub spent : IsSpent clauses log budget
  pub before : All (IsNeverViolated m objects s t) (take place (obligations_of s t))
  pub behind : All (IsNeverWhereSmall m objects s t) (drop (place + 1) (obligations_of s t))

-- what a verdict says of a handler, with this budget for each question; want of memory says nothing
abbrev pub IsRight : ℕ → ModuleView → List Object → Spec → Transition → Verdict → Type 0
IsRight budget m objects s t (Accepted proofs) = IsAccepted m objects s t proofs
IsRight budget m objects s t (Rejected o c) = IsRefuted m objects s t o c
IsRight budget m objects s t (Unknown o instances clauses log) = IsUndecided budget m objects s t o instances clauses log
IsRight budget m objects s t Memory = ⊤

-- ---- parts of a verdict

-- what holds of the proofs of an acceptance
abbrev pub IfAccepted : (List Proof → Type 0) → Verdict → Type 0
IfAccepted P (Accepted proofs) = P proofs
IfAccepted P _ = Unit {0}

-- the handler is accepted or rejected
abbrev pub IsDecided : Verdict → Type 0
IsDecided (Accepted proofs) = ⊤
IsDecided (Rejected o c) = ⊤
IsDecided _ = ⊥

-- the cases of each obligation of the handler are few
abbrev pub AreSmall : List Object → Spec → Transition → Type 0
AreSmall objects s t = All (IsSmall objects s t) (obligations_of s t)
