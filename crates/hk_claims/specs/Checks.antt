-- What `check` finds and says of the handlers of a specification.
use Rattle.std.specs.Prelude.{ℕ, ◌≡◌, ◌<◌, ◌^◌, nat_lt, Bool, true, false, if◌then◌else◌, List, [], ◌∷◌, ◌++◌, Option, None, Some, length}
use Rattle.std.specs.List.{list_any, zip}
use Rattle.hk_io.specs.Faults.{Rose}
use Rattle.hk_io.specs.Shown.{shown_with, ShowsPrefix}
use Rattle.ir_ast.specs.Program.{ModuleView}
use Rattle.ir_layout.specs.declared.object.Object.{Object}
use Rattle.ir_layout.specs.Layouts.{LayoutView, IsLayoutOf}
use Rattle.spec_tree.specs.Plain.{Transition, Spec}
use Rattle.hk_cnf.specs.Clauses.{Clauses}
use Rattle.hk_lrat.specs.declared.log.LratRow.{LratRow}
use Rattle.hk_lrat.specs.declared.log.RowReason.{RowReason}
use Rattle.hk_lrat.specs.declared.log.RowReason.TheVariants.{L7}
use Rattle.hk_lrat.specs.Log.{log_fault}
use Rattle.hk_inst.specs.declared.instance.Instance.{Instance}
use Rattle.hk_proof.specs.declared.Proof.{Proof}
use Rattle.hk_proof.specs.declared.Proof.TheVariants.{Refuted}
use Rattle.hk_case.specs.declared.Obligation.{Obligation}
use Rattle.hk_verdict.specs.declared.verdict.Verdict.{Verdict}
use Rattle.hk_verdict.specs.declared.verdict.Verdict.TheVariants as verdict
use Rattle.hk_decide.specs.Right.{IsExactFor}
use Rattle.hk_check.specs.Told.{IsChecked, IsFirst, IsViolated, IsNoSuchOf}
use Rattle.hk_cert_text.specs.declared.entry.Entry.{Entry}
use Rattle.hk_cert_text.specs.declared.entry.Entry.TheVariants as entry
use Rattle.hk_claims.specs.declared.stop.ClaimStop.{ClaimStop}
use Rattle.hk_claims.specs.declared.stop.ClaimStop.TheVariants as stop
use Rattle.hk_claims.specs.Fitting.{line_of_instance}
use Rattle.hk_claims.specs.Lines.{checked_line, unclaimed_line, refused_line}
use Rattle.hk_claims.specs.Turns.{Claim, AreTold, EndsAt}

-- ---- what is found

-- the first proof that is refused: its log fails over these clauses, which are exact for its obligation and its instances
pub record IsKept (m : ModuleView) (objects : List Object) (s : Spec) (t : Transition) (proofs : List Proof) (o : Obligation) (instances : List Instance)
    (clauses : Clauses) (log : List LratRow) : Type 0 where
  pub place : ℕ
  pub first : IsFirst m objects s t proofs place o (Refuted instances log)
  pub exact : IsExactFor m objects s t o instances clauses
  pub row : ℕ
  pub reason : RowReason
  pub fault : log_fault clauses log ≡ Some (row, reason)

-- what is kept of an acceptance that was checked: that its proofs hold, and so the handler is correct; the case that was found where all
-- cases were tried again; or the log that is refused, with the clauses over which it was tried
abbrev pub IsVerdictOf : ModuleView → List Object → Spec → Transition → List Proof → Verdict → Type 0
IsVerdictOf m objects s t proofs (verdict.Accepted kept) = (kept ≡ []) × IsChecked m objects s t proofs
IsVerdictOf m objects s t proofs (verdict.Rejected o case) = IsViolated m objects s t proofs o case
IsVerdictOf m objects s t proofs (verdict.Unknown o instances clauses log) = IsKept m objects s t proofs o instances clauses log
IsVerdictOf m objects s t proofs verdict.Memory = ⊥

-- what is found of a handler: a verdict on its acceptance, or that there is none
abbrev pub IsFoundOf : ModuleView → List Object → Spec → Transition → Entry → Option Verdict → Type 0
IsFoundOf m objects s t (entry.Accept at proofs) (Some v) = IsVerdictOf m objects s t proofs v
IsFoundOf m objects s t (entry.Accept at proofs) None = ⊥
IsFoundOf m objects s t (entry.Reject o case) found = found ≡ None
IsFoundOf m objects s t (entry.Unknown o) found = found ≡ None
IsFoundOf m objects s t entry.Memory found = found ≡ None

abbrev pub IsFound : ModuleView → Spec → Claim → Option Verdict → Type 0
IsFound m s claim found = (l : LayoutView) → IsLayoutOf m l → IsFoundOf m l.objects s claim.0 claim.1 found

-- the verdicts that are kept: those of the acceptances, in the order of the specification
abbrev pub claimed : List (Option Verdict) → List Verdict
claimed [] = []
claimed (None ∷ founds) = claimed founds
claimed (Some v ∷ founds) = v ∷ claimed founds

-- ---- what is said

-- the line of a log that fails
abbrev pub fault_line : Spec → Transition → Obligation → Option (ℕ × RowReason) → List ℕ
fault_line s t o None = []
fault_line s t o (Some f) = refused_line s t o f.0 f.1

abbrev pub verdict_line : Spec → Transition → Verdict → List ℕ
verdict_line s t (verdict.Accepted proofs) = checked_line t
verdict_line s t (verdict.Rejected o case) = refused_line s t o 0 L7
verdict_line s t (verdict.Unknown o instances clauses log) = fault_line s t o (log_fault clauses log)
verdict_line s t verdict.Memory = []

abbrev pub found_line : Spec → Claim → Option Verdict → List ℕ
found_line s claim None = unclaimed_line claim.0
found_line s claim (Some v) = verdict_line s claim.0 v

abbrev pub is_holding : Verdict → Bool
is_holding (verdict.Accepted proofs) = true
is_holding (verdict.Rejected o case) = false
is_holding (verdict.Unknown o instances clauses log) = false
is_holding verdict.Memory = false

abbrev pub is_failing : Verdict → Bool
is_failing v = if is_holding v then false else true

-- the status by these verdicts of so many handlers: an acceptance is refused, or a handler has none
abbrev pub check_status : ℕ → List Verdict → ℕ
check_status handlers verdicts = if list_any is_failing verdicts then 1 else if nat_lt (length verdicts) handlers then 2 else 0

-- ---- the whole

-- every handler has its line, and the verdicts are those of the acceptances
pub record AreChecked (m : ModuleView) (s : Spec) (entries : List Entry) (verdicts : List Verdict) (shown shown' : Option (List ℕ)) : Type 0 where
  pub founds : List (Option Verdict)
  pub told : AreTold (IsFound m s) (found_line s) (zip s.transitions entries) founds shown shown'
  pub verdicts_are : verdicts ≡ claimed founds

-- the handlers before some one have their lines
pub record IsEnded (m : ModuleView) (s : Spec) (entries : List Entry) (at : Claim) (verdicts : List Verdict) (shown shown' : Option (List ℕ)) : Type 0 where
  pub founds : List (Option Verdict)
  pub ends : EndsAt (IsFound m s) (found_line s) (zip s.transitions entries) founds at shown shown'
  pub verdicts_are : verdicts ≡ claimed founds

-- the put of some handler's line failed
pub record IsCut (m : ModuleView) (s : Spec) (entries : List Entry) (verdicts : List Verdict) (shown shown' : Option (List ℕ)) (faults faults' : ℕ) : Type 0 where
  pub at : Claim
  pub before : List Verdict
  pub shown_before : Option (List ℕ)
  pub ended : IsEnded m s entries at before shown shown_before
  pub found : Option Verdict
  pub is_found : IsFound m s at found
  pub verdicts_are : verdicts ≡ before ++ claimed (found ∷ [])
  pub cut : ShowsPrefix shown_before shown' (found_line s at found)
  pub failed : Rose faults faults'

-- memory was refused for some handler
pub record IsWanting (m : ModuleView) (s : Spec) (entries : List Entry) (verdicts : List Verdict) (shown shown' : Option (List ℕ)) : Type 0 where
  pub at : Claim
  pub ended : IsEnded m s entries at verdicts shown shown'

-- an instance of some handler's acceptance names no reads or quantifier of its question; the certificate has it at this line
pub record NamesNothing (m : ModuleView) (s : Spec) (claim : Claim) (line : ℕ) : Type 0 where
  pub at : ℕ
  pub proofs : List Proof
  pub entry_is : claim.1 ≡ entry.Accept at proofs
  pub place : ℕ
  pub instance : ℕ
  pub nothing : (l : LayoutView) → IsLayoutOf m l → IsNoSuchOf m l.objects s claim.0 proofs place instance
  pub line_is : line_of_instance at proofs place instance < 2 ^ 32 → line ≡ line_of_instance at proofs place instance

pub record IsUnnamed (m : ModuleView) (s : Spec) (entries : List Entry) (line : ℕ) (verdicts : List Verdict) (shown shown' : Option (List ℕ)) : Type 0 where
  pub at : Claim
  pub ended : IsEnded m s entries at verdicts shown shown'
  pub nothing : NamesNothing m s at line

-- why checking ended early
abbrev pub Stops : ModuleView → Spec → List Entry → List Verdict → Option (List ℕ) → Option (List ℕ) → ℕ → ℕ → ClaimStop → Type 0
Stops m s entries verdicts shown shown' faults faults' stop.Write = IsCut m s entries verdicts shown shown' faults faults'
Stops m s entries verdicts shown shown' faults faults' stop.Memory = IsWanting m s entries verdicts shown shown' × (faults' ≡ faults)
Stops m s entries verdicts shown shown' faults faults' (stop.NoSuch line) = IsUnnamed m s entries line verdicts shown shown' × (faults' ≡ faults)

-- ---- one handler

-- its line is shown, and its verdict was added
pub record Adds (m : ModuleView) (s : Spec) (claim : Claim) (old new : List Verdict) (shown shown' : Option (List ℕ)) : Type 0 where
  pub found : Option Verdict
  pub is_found : IsFound m s claim found
  pub added : new ≡ old ++ claimed (found ∷ [])
  pub says : shown' ≡ shown_with shown (found_line s claim found)

-- the put of its line failed
pub record AddsCut (m : ModuleView) (s : Spec) (claim : Claim) (old new : List Verdict) (shown shown' : Option (List ℕ)) : Type 0 where
  pub found : Option Verdict
  pub is_found : IsFound m s claim found
  pub added : new ≡ old ++ claimed (found ∷ [])
  pub cut : ShowsPrefix shown shown' (found_line s claim found)

-- nothing was added or shown
pub record IsStill (old new : List Verdict) (shown shown' : Option (List ℕ)) (faults faults' : ℕ) : Type 0 where
  pub none_added : new ≡ old
  pub none_shown : shown' ≡ shown
  pub none_failed : faults' ≡ faults

abbrev pub StopsOne : ModuleView → Spec → Claim → List Verdict → List Verdict → Option (List ℕ) → Option (List ℕ) → ℕ → ℕ → ClaimStop → Type 0
StopsOne m s claim old new shown shown' faults faults' stop.Write = AddsCut m s claim old new shown shown' × Rose faults faults'
StopsOne m s claim old new shown shown' faults faults' stop.Memory = IsStill old new shown shown' faults faults'
StopsOne m s claim old new shown shown' faults faults' (stop.NoSuch line) = IsStill old new shown shown' faults faults' × NamesNothing m s claim line
