-- The whole report: the opening and then every verdict.

use Rattle.std.proofs.Common.{ℕ, false, ◌≡◌, List, Option, Result, Ok, Err, OnOk, ap, sym, ◌∙◌, subst}
use Rattle.std.specs.Result.{is_err}
use Rattle.hk_io.specs.Shown.{shown_with}
use Rattle.ir_ast.specs.Program.{ModuleView}
use Rattle.spec_tree.specs.Plain.{Spec}
use Rattle.hk_verdict.specs.declared.verdict.Verdict.{Verdict}
use Rattle.hk_verdict.specs.declared.verdict.InitVerdict.{InitVerdict}
use Rattle.hk_verdict.specs.Report.{init_text, report_text, verdicts_text}
use Rattle.hk_decide.specs.Opening.{IsOpening}
use Rattle.hk_verify.specs.declared.answer.Answer.{Answer}
use Rattle.hk_verify.specs.Answers.{SinkView, IsWhole}
use Rattle.hk_verify.specs.Lines.{verdict_status}
use Rattle.hk_verify.specs.Verdicts.{AreRight, AreShown}
use Rattle.hk_verify.proofs.Pushes.{shown_with-append}

-- What holds on Ok holds where there is no error.
pub where_ok : {T E : Type 0} (r : Result T E) (P : Type 0) → is_err r ≡ false → OnOk r P → P
where_ok (Ok x) P fine p = p
where_ok (Err e) P fine p = cc

pub whole_report : (sink : SinkView) (budget : ℕ) (m : ModuleView) (spec : Spec) (init : InitVerdict) (opened : Option (List ℕ)) (verdicts : List Verdict) (answer : Answer)
    → IsOpening m spec init → opened ≡ shown_with sink.shown (init_text spec init) → AreShown budget m spec verdicts opened sink.shown'
    → sink.faults' ≡ sink.faults → answer.init ≡ init → answer.verdicts ≡ verdicts → answer.status ≡ verdict_status init verdicts → IsWhole sink budget m spec answer
whole_report sink budget m spec init opened verdicts answer holds opening shown still is same status = record {
  opening = subst (IsOpening m spec) (sym is) holds;
  right = subst (AreRight budget m spec spec.transitions) (sym same) shown.right;
  says = shown.says ∙ ap (λ s. shown_with s (verdicts_text m spec verdicts)) opening
      ∙ shown_with-append sink.shown (init_text spec init) (verdicts_text m spec verdicts)
      ∙ ap (λ vs. shown_with sink.shown (report_text m spec init vs)) (sym same)
      ∙ ap (λ i. shown_with sink.shown (report_text m spec i answer.verdicts)) (sym is);
  still = still;
  status = status ∙ ap (verdict_status init) (sym same) ∙ ap (λ i. verdict_status i answer.verdicts) (sym is);
}
