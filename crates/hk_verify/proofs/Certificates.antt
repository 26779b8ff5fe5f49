-- A report with its certificate.

use Rattle.std.proofs.Common.{ℕ, ◌≡◌, inl, inr, List, [], ◌∷◌, Option, None, Some, map, refl, ap, sym, ◌∙◌, subst}
use Rattle.std.specs.List.{All, AllZip}
use Rattle.std.proofs.lemmas.List.Elements.{All-cons, All-nil}
use Rattle.ir_ast.specs.Program.{ModuleView}
use Rattle.ir_layout.specs.Layouts.{LayoutView, IsLayoutOf}
use Rattle.spec_tree.specs.Plain.{Spec, Transition}
use Rattle.hk_verdict.specs.declared.verdict.Verdict.{Verdict}
use Rattle.hk_verdict.specs.declared.verdict.InitVerdict.{InitVerdict}
use Rattle.hk_verdict.specs.Report.{IsShownVerdict, report_text}
use Rattle.hk_cert_text.specs.Certificate.{certificate_text, entry_of}
use Rattle.hk_io.specs.Shown.{shown_with}
use Rattle.hk_decide.specs.Opening.{IsOpening}
use Rattle.hk_verify.specs.declared.answer.Answer.{Answer}
use Rattle.hk_verify.specs.declared.answer.TopFault.{TopFault}
use Rattle.hk_verify.specs.declared.answer.TopFault.TheVariants.{Usage, Read, Long, Kernel as OfKernel, Spec as OfSpec, Cert as OfCert, Cnf as OfCnf, Call as OfCall, Memory, Write}
use Rattle.hk_verify.specs.Lines.{verdict_status, is_faulted}
use Rattle.hk_verify.specs.Verdicts.{AreKept, AreRight, IsRightFor}
use Rattle.hk_verify.specs.Answers.{SinkView, IsWhole, IsCut, Reports, ReportsWith}
use Rattle.hk_verify.specs.Certified.{CertifiesWith, IsProved, IsSaved, IsUntouched, Saves, SavesWith, SavingView, wanting_status}
use Rattle.hk_verify.proofs.Shapes.{can_be_shown}

-- Right verdicts can be shown.
pub all_shown : (budget : ℕ) (m : ModuleView) (l : LayoutView) (spec : Spec) (ts : List Transition) (vs : List Verdict) → IsLayoutOf m l → AllZip (IsRightFor budget m spec) ts vs → All (IsShownVerdict spec) vs
all_shown budget m l spec [] [] laid right = All-nil (IsShownVerdict spec)
all_shown budget m l spec (t ∷ ts) (v ∷ vs) laid right =
    All-cons (IsShownVerdict spec) v vs (can_be_shown budget m l.objects spec t v (right.0 l laid)) (all_shown budget m l spec ts vs laid right.1)
all_shown budget m l spec [] (v ∷ vs) laid right = absurd right
all_shown budget m l spec (t ∷ ts) [] laid right = absurd right

-- The report without a fault.
pub whole_of : (sink : SinkView) (budget : ℕ) (m : ModuleView) (spec : Spec) (answer : Answer) → answer.fault ≡ None → Reports sink budget m spec answer → IsWhole sink budget m spec answer
whole_of sink budget m spec answer none reports = subst (ReportsWith sink budget m spec answer) none reports

proved : (sink : SinkView) (budget : ℕ) (m : ModuleView) (spec : Spec) (given answer : Answer) → IsWhole sink budget m spec given → AreKept spec spec.transitions given.verdicts → answer.init ≡ given.init → answer.verdicts ≡ given.verdicts
    → IsProved sink budget m spec answer
proved sink budget m spec given answer whole kept init verdicts = record {
  opening = subst (IsOpening m spec) (sym init) whole.opening;
  right = subst (AreRight budget m spec spec.transitions) (sym verdicts) whole.right;
  kept = subst (AreKept spec spec.transitions) (sym verdicts) kept;
  says = whole.says ∙ ap (λ vs. shown_with sink.shown (report_text m spec given.init vs)) (sym verdicts) ∙ ap (λ i. shown_with sink.shown (report_text m spec i answer.verdicts)) (sym init);
  still = whole.still;
}

wanting_is : (given answer : Answer) → answer.init ≡ given.init → answer.verdicts ≡ given.verdicts → wanting_status given ≡ wanting_status answer
wanting_is given answer init verdicts =
    ap (λ vs. wanting_status (record { status = given.status; init = given.init; verdicts = vs; fault = given.fault })) (sym verdicts)
    ∙ ap (λ i. wanting_status (record { status = given.status; init = i; verdicts = answer.verdicts; fault = given.fault })) (sym init)

-- The answer after the save.
saved_with : (shelf : SavingView) (sink : SinkView) (budget : ℕ) (m : ModuleView) (spec : Spec) (cert : List ℕ) (given answer : Answer) (fault : Option TopFault) → IsWhole sink budget m spec given → AreKept spec spec.transitions given.verdicts
    → answer.init ≡ given.init → answer.verdicts ≡ given.verdicts → SavesWith shelf m spec cert given answer fault → CertifiesWith shelf sink budget m spec cert answer fault
saved_with shelf sink budget m spec cert given answer None whole kept init verdicts saves = record {
  proved = proved sink budget m spec given answer whole kept init verdicts;
  saved = subst (λ vs. IsSaved shelf cert (certificate_text m spec (map entry_of vs))) (sym verdicts) saves.0;
  status = saves.1 ∙ whole.status ∙ ap (verdict_status given.init) (sym verdicts) ∙ ap (λ i. verdict_status i answer.verdicts) (sym init);
}
saved_with shelf sink budget m spec cert given answer (Some Write) whole kept init verdicts saves =
    inr (record { proved = proved sink budget m spec given answer whole kept init verdicts; unsaved = saves.0; status = saves.1 })
saved_with shelf sink budget m spec cert given answer (Some Memory) whole kept init verdicts saves =
    record { proved = proved sink budget m spec given answer whole kept init verdicts; untouched = saves.0; status = saves.1 ∙ wanting_is given answer init verdicts }
saved_with shelf sink budget m spec cert given answer (Some Usage) whole kept init verdicts saves = absurd saves
saved_with shelf sink budget m spec cert given answer (Some (Read w)) whole kept init verdicts saves = absurd saves
saved_with shelf sink budget m spec cert given answer (Some (Long w)) whole kept init verdicts saves = absurd saves
saved_with shelf sink budget m spec cert given answer (Some (OfKernel f)) whole kept init verdicts saves = absurd saves
saved_with shelf sink budget m spec cert given answer (Some (OfSpec f)) whole kept init verdicts saves = absurd saves
saved_with shelf sink budget m spec cert given answer (Some (OfCert f)) whole kept init verdicts saves = absurd saves
saved_with shelf sink budget m spec cert given answer (Some (OfCnf f)) whole kept init verdicts saves = absurd saves
saved_with shelf sink budget m spec cert given answer (Some (OfCall f)) whole kept init verdicts saves = absurd saves

pub saved : (shelf : SavingView) (sink : SinkView) (budget : ℕ) (m : ModuleView) (spec : Spec) (cert : List ℕ) (given answer : Answer) → IsWhole sink budget m spec given → AreKept spec spec.transitions given.verdicts
    → Saves shelf m spec cert given answer → CertifiesWith shelf sink budget m spec cert answer answer.fault
saved shelf sink budget m spec cert given answer whole kept saves = saved_with shelf sink budget m spec cert given answer answer.fault whole kept saves.init saves.verdicts saves.saves

-- The answer where a put failed.
cut_with : (shelf : SavingView) (sink : SinkView) (budget : ℕ) (m : ModuleView) (spec : Spec) (cert : List ℕ) (answer : Answer) (fault : TopFault) → IsUntouched shelf → ReportsWith sink budget m spec answer (Some fault)
    → CertifiesWith shelf sink budget m spec cert answer (Some fault)
cut_with shelf sink budget m spec cert answer Write untouched report = inl (record { cut = report; untouched = untouched })
cut_with shelf sink budget m spec cert answer Memory untouched report = absurd report
cut_with shelf sink budget m spec cert answer Usage untouched report = absurd report
cut_with shelf sink budget m spec cert answer (Read w) untouched report = absurd report
cut_with shelf sink budget m spec cert answer (Long w) untouched report = absurd report
cut_with shelf sink budget m spec cert answer (OfKernel f) untouched report = absurd report
cut_with shelf sink budget m spec cert answer (OfSpec f) untouched report = absurd report
cut_with shelf sink budget m spec cert answer (OfCert f) untouched report = absurd report
cut_with shelf sink budget m spec cert answer (OfCnf f) untouched report = absurd report
cut_with shelf sink budget m spec cert answer (OfCall f) untouched report = absurd report

pub cut : (shelf : SavingView) (sink : SinkView) (budget : ℕ) (m : ModuleView) (spec : Spec) (cert : List ℕ) (answer : Answer) (fault : TopFault) → answer.fault ≡ Some fault → IsUntouched shelf → Reports sink budget m spec answer
    → CertifiesWith shelf sink budget m spec cert answer answer.fault
cut shelf sink budget m spec cert answer fault is untouched reports =
    subst (CertifiesWith shelf sink budget m spec cert answer) (sym is) (cut_with shelf sink budget m spec cert answer fault untouched (subst (ReportsWith sink budget m spec answer) is reports))
