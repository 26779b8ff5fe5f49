-- The verdicts of the handlers, one after another, and what is shown of them.

use Rattle.std.specs.Prelude.{ℕ, ◌≡◌, ◌++◌, ◌∷◌, [], List, Option, length}
use Rattle.std.specs.List.{AllZip}
use Rattle.hk_io.specs.Shown.{shown_with, ShowsPrefix}
use Rattle.ir_ast.specs.Program.{ModuleView}
use Rattle.ir_layout.specs.Layouts.{LayoutView, IsLayoutOf}
use Rattle.spec_tree.specs.Plain.{Spec, Transition}
use Rattle.hk_verdict.specs.declared.verdict.Verdict.{Verdict}
use Rattle.hk_verdict.specs.Report.{verdict_text, verdicts_text}
use Rattle.hk_case.specs.Obligations.{obligations_of}
use Rattle.hk_decide.specs.Right.{IfAccepted, IsRight}

-- The verdict is right for the handler where a round may take so many conflicts, over the objects of the kernel's layout.
abbrev pub IsRightFor : ℕ → ModuleView → Spec → Transition → Verdict → Type 0
IsRightFor budget m spec t verdict = (layout : LayoutView) → IsLayoutOf m layout → IsRight budget m layout.objects spec t verdict

-- Right verdicts for these handlers, one for each in their order.
abbrev pub AreRight : ℕ → ModuleView → Spec → List Transition → List Verdict → Type 0
AreRight budget m spec transitions verdicts = AllZip (IsRightFor budget m spec) transitions verdicts

-- An acceptance has one proof for each obligation of its handler.
abbrev pub HasProofs : Spec → Transition → Verdict → Type 0
HasProofs spec t verdict = IfAccepted (λ proofs. length proofs ≡ length (obligations_of spec t)) verdict

abbrev pub AreKept : Spec → List Transition → List Verdict → Type 0
AreKept spec transitions verdicts = AllZip (HasProofs spec) transitions verdicts

-- One verdict was added to the list, with its proofs.
pub record KeepsOne (spec : Spec) (t : Transition) (old new : List Verdict) : Type 0 where
  pub verdict : Verdict
  pub proofs : HasProofs spec t verdict
  pub added : new ≡ old ++ verdict ∷ []

-- The verdict of one handler was added to the list, and its lines are shown.
pub record Adds (budget : ℕ) (m : ModuleView) (spec : Spec) (t : Transition) (old new : List Verdict) (shown shown' : Option (List ℕ)) : Type 0 where
  pub verdict : Verdict
  pub right : IsRightFor budget m spec t verdict
  pub added : new ≡ old ++ verdict ∷ []
  pub says : shown' ≡ shown_with shown (verdict_text m spec t verdict)

-- The verdict of one handler was added to the list, and the put of its lines failed: a prefix of them is shown.
pub record AddsCut (budget : ℕ) (m : ModuleView) (spec : Spec) (t : Transition) (old new : List Verdict) (shown shown' : Option (List ℕ)) : Type 0 where
  pub verdict : Verdict
  pub right : IsRightFor budget m spec t verdict
  pub added : new ≡ old ++ verdict ∷ []
  pub cut : ShowsPrefix shown shown' (verdict_text m spec t verdict)

-- Every handler has a right verdict, and the sink shows all their lines.
pub record AreShown (budget : ℕ) (m : ModuleView) (spec : Spec) (verdicts : List Verdict) (shown shown' : Option (List ℕ)) : Type 0 where
  pub right : AreRight budget m spec spec.transitions verdicts
  pub says : shown' ≡ shown_with shown (verdicts_text m spec verdicts)

-- The handlers up to some one have right verdicts, and a put of that one's lines failed: the lines before them are
-- shown, and a prefix of them.
pub record AreCut (budget : ℕ) (m : ModuleView) (spec : Spec) (verdicts : List Verdict) (shown shown' : Option (List ℕ)) : Type 0 where
  pub before : List Transition
  pub failed : Transition
  pub behind : List Transition
  pub handlers : spec.transitions ≡ before ++ failed ∷ behind
  pub front : List Verdict
  pub last : Verdict
  pub parts : verdicts ≡ front ++ last ∷ []
  pub right : AreRight budget m spec before front
  pub right_last : IsRightFor budget m spec failed last
  pub cut : ShowsPrefix (shown_with shown (verdicts_text m spec front)) shown' (verdict_text m spec failed last)
