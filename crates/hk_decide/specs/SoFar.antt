-- What is known of the obligations of a handler while they are tried.
use Rattle.std.specs.Prelude.{◌≡◌, ℕ, ◌+◌, ◌<◌, Bool, true, false, if◌then◌else◌, Some, List, [], ◌∷◌, ◌++◌, length, slice_get, take, drop, ⊤}
use Rattle.std.specs.List.{All}
use Rattle.ir_ast.specs.Program.{ModuleView}
use Rattle.ir_layout.specs.declared.object.Object.{Object}
use Rattle.spec_tree.specs.Plain.{Transition, Spec}
use Rattle.hk_case.specs.declared.Obligation.{Obligation}
use Rattle.hk_case.specs.Obligations.{IsCase, case_bits}
use Rattle.hk_case.specs.Violation.{Violates, IsNeverViolated}
use Rattle.hk_cdcl.specs.Fresh.{IsSpent}
use Rattle.hk_proof.specs.declared.Proof.{Proof}
use Rattle.hk_decide.specs.Right.{IsExactFor, IsProof, AreProofs, IsNeverWhereSmall}
use Rattle.hk_decide.specs.declared.found.Tried.{Tried}
use Rattle.hk_decide.specs.declared.found.Tried.TheVariants.{Never, Violated, Spent as TriedSpent}
use Rattle.hk_decide.specs.declared.found.Spent.{Spent}
use Rattle.hk_decide.specs.declared.found.Standing.{Standing}
use Rattle.hk_decide.specs.declared.found.Standing.TheVariants.{Holds, Open}

-- the cases of the obligation are many, and its budget is spent
pub record IsOpen (budget : ℕ) (m : ModuleView) (objects : List Object) (s : Spec) (t : Transition) (x : Spent) : Type 0 where
  pub many : 16 < case_bits objects s t x.obligation
  pub exact : IsExactFor m objects s t x.obligation x.instances x.clauses
  pub spent : IsSpent x.clauses x.log budget

-- what trying one obligation came to
abbrev pub IsTried : ℕ → ModuleView → List Object → Spec → Transition → Obligation → Tried → Type 0
IsTried budget m objects s t o (Never proof) = IsNeverViolated m objects s t o × IsProof m objects s t o proof
IsTried budget m objects s t o (Violated c) = IsCase objects s t o c × Violates m s t o c
IsTried budget m objects s t o (TriedSpent x) = (x.obligation ≡ o) × IsOpen budget m objects s t x

-- the first open one of these obligations
pub record IsFirstOpen (budget : ℕ) (m : ModuleView) (objects : List Object) (s : Spec) (t : Transition) (owed : List Obligation) (x : Spent) : Type 0 where
  pub place : ℕ
  pub there : slice_get owed place ≡ Some x.obligation
  pub open_is : IsOpen budget m objects s t x
  pub before : All (IsNeverViolated m objects s t) (take place owed)
  pub behind : All (IsNeverWhereSmall m objects s t) (drop (place + 1) owed)

-- how these obligations stand, of which none was found violated
abbrev pub Stands : ℕ → ModuleView → List Object → Spec → Transition → List Obligation → Standing → Type 0
Stands budget m objects s t owed (Holds proofs) = All (IsNeverViolated m objects s t) owed × AreProofs m objects s t owed proofs
Stands budget m objects s t owed (Open x) = IsFirstOpen budget m objects s t owed x

-- so many proofs are kept, or none, while no obligation is open
abbrev pub IsKept : Bool → ℕ → Standing → Type 0
IsKept true count (Holds proofs) = length proofs ≡ count
IsKept false count (Holds proofs) = proofs ≡ []
IsKept keep count (Open x) = ⊤

-- ---- one obligation more

-- it was not found violated
abbrev pub IsPassed : Tried → Type 0
IsPassed (Violated c) = ⊥
IsPassed _ = ⊤

-- its proof is kept, if proofs are, until an obligation is open; the first open one stays
abbrev pub with_proof : Bool → Proof → Standing → Standing
with_proof keep proof (Holds proofs) = Holds (if keep then proofs ++ proof ∷ [] else proofs)
with_proof keep proof (Open x) = Open x

abbrev pub with_spent : Spent → Standing → Standing
with_spent x (Holds proofs) = Open x
with_spent x (Open y) = Open y

abbrev pub noted : Bool → Tried → Standing → Standing
noted keep (Never proof) standing = with_proof keep proof standing
noted keep (Violated c) standing = standing
noted keep (TriedSpent x) standing = with_spent x standing
