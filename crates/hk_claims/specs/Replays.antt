-- What `replay` finds and says of the rejections of a certificate.
use Rattle.std.specs.Prelude.{ℕ, ◌≡◌, ◌↔◌, IsTrue, Bool, true, false, if◌then◌else◌, List, [], ◌∷◌, ◌++◌, Option, None, Some}
use Rattle.std.specs.List.{list_any, zip}
use Rattle.hk_io.specs.Faults.{Rose}
use Rattle.hk_io.specs.Shown.{shown_with, ShowsPrefix}
use Rattle.ir_ast.specs.Program.{ModuleView}
use Rattle.spec_tree.specs.Plain.{Transition, Spec}
use Rattle.hk_case.specs.declared.Obligation.{Obligation}
use Rattle.hk_case.specs.Violation.{Violates}
use Rattle.hk_cert_text.specs.declared.entry.Entry.{Entry}
use Rattle.hk_cert_text.specs.declared.entry.Entry.TheVariants as entry
use Rattle.hk_claims.specs.declared.stop.ClaimStop.{ClaimStop}
use Rattle.hk_claims.specs.declared.stop.ClaimStop.TheVariants as stop
use Rattle.hk_claims.specs.Lines.{confirmed_line, unconfirmed_line}
use Rattle.hk_claims.specs.Turns.{Claim, AreTold, EndsAt}

-- whether the case of a rejection violates its obligation; nothing is asked of other entries
abbrev pub IsMark : ModuleView → Spec → Transition → Entry → Option Bool → Type 0
IsMark m s t (entry.Reject o case) (Some violates) = IsTrue violates ↔ Violates m s t o case
IsMark m s t (entry.Reject o case) None = ⊥
IsMark m s t (entry.Accept at proofs) mark = mark ≡ None
IsMark m s t (entry.Unknown o) mark = mark ≡ None
IsMark m s t entry.Memory mark = mark ≡ None

abbrev pub IsMarked : ModuleView → Spec → Claim → Option Bool → Type 0
IsMarked m s claim mark = IsMark m s claim.0 claim.1 mark

abbrev pub mark_of : Spec → Transition → Obligation → Option Bool → List ℕ
mark_of s t o None = []
mark_of s t o (Some violates) = if violates then confirmed_line s t o else unconfirmed_line s t o

-- the line of a rejection; nothing is said of other entries
abbrev pub entry_line : Spec → Transition → Entry → Option Bool → List ℕ
entry_line s t (entry.Reject o case) mark = mark_of s t o mark
entry_line s t (entry.Accept at proofs) mark = []
entry_line s t (entry.Unknown o) mark = []
entry_line s t entry.Memory mark = []

abbrev pub mark_line : Spec → Claim → Option Bool → List ℕ
mark_line s claim mark = entry_line s claim.0 claim.1 mark

-- the case of some rejection does not violate its obligation
abbrev pub is_unconfirmed : Option Bool → Bool
is_unconfirmed None = false
is_unconfirmed (Some true) = false
is_unconfirmed (Some false) = true

-- every rejection has its line
pub record AreReplayed (m : ModuleView) (s : Spec) (entries : List Entry) (unconfirmed : Bool) (shown shown' : Option (List ℕ)) : Type 0 where
  pub marks : List (Option Bool)
  pub told : AreTold (IsMarked m s) (mark_line s) (zip s.transitions entries) marks shown shown'
  pub unconfirmed_is : unconfirmed ≡ list_any is_unconfirmed marks

-- the rejections before some one have their lines
pub record IsEnded (m : ModuleView) (s : Spec) (entries : List Entry) (at : Claim) (shown shown' : Option (List ℕ)) : Type 0 where
  pub marks : List (Option Bool)
  pub ends : EndsAt (IsMarked m s) (mark_line s) (zip s.transitions entries) marks at shown shown'

-- the put of some rejection's line failed
pub record IsCut (m : ModuleView) (s : Spec) (entries : List Entry) (shown shown' : Option (List ℕ)) (faults faults' : ℕ) : Type 0 where
  pub at : Claim
  pub shown_before : Option (List ℕ)
  pub ended : IsEnded m s entries at shown shown_before
  pub mark : Option Bool
  pub is_marked : IsMarked m s at mark
  pub cut : ShowsPrefix shown_before shown' (mark_line s at mark)
  pub failed : Rose faults faults'

-- memory was refused at some handler
pub record IsWanting (m : ModuleView) (s : Spec) (entries : List Entry) (shown shown' : Option (List ℕ)) : Type 0 where
  pub at : Claim
  pub ended : IsEnded m s entries at shown shown'

-- why replaying ended early
abbrev pub Stops : ModuleView → Spec → List Entry → Option (List ℕ) → Option (List ℕ) → ℕ → ℕ → ClaimStop → Type 0
Stops m s entries shown shown' faults faults' stop.Write = IsCut m s entries shown shown' faults faults'
Stops m s entries shown shown' faults faults' stop.Memory = IsWanting m s entries shown shown' × (faults' ≡ faults)
Stops m s entries shown shown' faults faults' (stop.NoSuch line) = ⊥

-- ---- one handler

-- whether it is a rejection whose case violates its obligation is known
pub record IsSaid (m : ModuleView) (s : Spec) (claim : Claim) (unconfirmed : Bool) (shown shown' : Option (List ℕ)) : Type 0 where
  pub mark : Option Bool
  pub is_marked : IsMarked m s claim mark
  pub unconfirmed_is : unconfirmed ≡ is_unconfirmed mark
  pub says : shown' ≡ shown_with shown (mark_line s claim mark)

pub record IsSaidCut (m : ModuleView) (s : Spec) (claim : Claim) (shown shown' : Option (List ℕ)) : Type 0 where
  pub mark : Option Bool
  pub is_marked : IsMarked m s claim mark
  pub cut : ShowsPrefix shown shown' (mark_line s claim mark)

abbrev pub StopsOne : ModuleView → Spec → Claim → Option (List ℕ) → Option (List ℕ) → ℕ → ℕ → ClaimStop → Type 0
StopsOne m s claim shown shown' faults faults' stop.Write = IsSaidCut m s claim shown shown' × Rose faults faults'
StopsOne m s claim shown shown' faults faults' stop.Memory = (shown' ≡ shown) × (faults' ≡ faults)
StopsOne m s claim shown shown' faults faults' (stop.NoSuch line) = ⊥
