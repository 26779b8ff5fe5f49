-- The headline in the subject's own words, of files that the shelf tells of: what an acceptance, a rejection and an unknown
-- answer to `verify KERNEL SPEC [--conflicts N] [--cert FILE]` mean.

use Rattle.std.specs.Prelude.{ℕ, ◌≡◌, List, Option, Some, slice_get}
use Rattle.hk_io.specs.Held.{Files, held_under}
use Rattle.ir_ast.specs.Program.{ModuleView}
use Rattle.ir_layout.specs.Layouts.{LayoutView, IsLayoutOf}
use Rattle.spec_tree.specs.Plain.{Spec, Transition}
use Rattle.hk_case.specs.declared.Obligation.{Obligation}
use Rattle.hk_case.specs.declared.Case.{Case}
use Rattle.hk_case.specs.Violation.{IsCorrect}
use Rattle.hk_inst.specs.declared.instance.Instance.{Instance}
use Rattle.hk_cnf.specs.Clauses.{Clauses}
use Rattle.hk_lrat.specs.declared.log.LratRow.{LratRow}
use Rattle.hk_proof.specs.declared.Proof.{Proof}
use Rattle.hk_verdict.specs.declared.verdict.Verdict.TheVariants.{Accepted, Rejected, Unknown}
use Rattle.hk_decide.specs.Right.{IsRefuted, IsUndecided}
use Rattle.hk_verify.specs.declared.answer.Answer.{Answer}
use Rattle.hk_verify.specs.Whole.{IsKernelText}
use Rattle.hk_verify.specs.Specifications.{IsSpecText}
use Rattle.hk_verify.specs.Words.{IsVerification}

-- The shelf holds these texts under the two words, they spell this kernel, of which this is the layout, and this
-- specification for it, and this handler is the specification's, at this place. A round of the solver may take so many
-- conflicts by the words.
pub record IsHandler (held : Option Files) (words : List (List ℕ)) (budget : ℕ) (m : ModuleView) (layout : LayoutView) (spec : Spec) (h : ℕ) (t : Transition) : Type 0 where
  pub kernel_name : List ℕ
  pub spec_name : List ℕ
  pub kernel_text : List ℕ
  pub spec_text : List ℕ
  pub form : IsVerification words kernel_name spec_name budget
  pub kernel_held : held_under held kernel_name ≡ Some kernel_text
  pub spec_held : held_under held spec_name ≡ Some spec_text
  pub kernel_spelled : IsKernelText kernel_text m
  pub laid : IsLayoutOf m layout
  pub spec_spelled : IsSpecText m spec_text spec
  pub there : slice_get spec.transitions h ≡ Some t

-- Each handler reported accepted is correct: from every machine state that satisfies the invariant and for all arguments
-- it does nothing undefined, keeps the invariant and ends in the specified state and result, and its transition keeps the
-- properties.
abbrev pub AcceptsCorrect : Option Files → List (List ℕ) → Answer → Type 0
AcceptsCorrect held words answer = (budget : ℕ) (m : ModuleView) (layout : LayoutView) (spec : Spec) (h : ℕ) (t : Transition) (proofs : List Proof)
    → IsHandler held words budget m layout spec h t → slice_get answer.verdicts h ≡ Some (Accepted proofs) → IsCorrect m layout.objects spec t

-- Each handler reported rejected is refuted by its case: it violates the named obligation, and no case violates an
-- obligation of few cases before that one.
abbrev pub RejectsRefuted : Option Files → List (List ℕ) → Answer → Type 0
RejectsRefuted held words answer = (budget : ℕ) (m : ModuleView) (layout : LayoutView) (spec : Spec) (h : ℕ) (t : Transition) (o : Obligation) (c : Case)
    → IsHandler held words budget m layout spec h t → slice_get answer.verdicts h ≡ Some (Rejected o c) → IsRefuted m layout.objects spec t o c

-- Each handler reported unknown is so by a spent budget alone: the named obligation has many cases and its clauses, which
-- say exactly what it asks, took all conflicts that the words allow; and no case violates an obligation before that one.
abbrev pub UnknownsSpent : Option Files → List (List ℕ) → Answer → Type 0
UnknownsSpent held words answer = (budget : ℕ) (m : ModuleView) (layout : LayoutView) (spec : Spec) (h : ℕ) (t : Transition)
    (o : Obligation) (instances : List Instance) (clauses : Clauses) (log : List LratRow)
    → IsHandler held words budget m layout spec h t → slice_get answer.verdicts h ≡ Some (Unknown o instances clauses log)
    → IsUndecided budget m layout.objects spec t o instances clauses log
