-- What an answer to `verify KERNEL SPEC [--conflicts N]` means: the headline, and the cause of each answer.

use Rattle.std.specs.Prelude.{ℕ, ◌≡◌, ◌⊎◌, [], List, Option, Some, None}
use Rattle.hk_io.specs.Faults.{Rose}
use Rattle.hk_io.specs.Shown.{shown_with, ShowsPrefix}
use Rattle.ir_ast.specs.Program.{ModuleView}
use Rattle.spec_tree.specs.Plain.{Spec}
use Rattle.hk_verdict.specs.declared.verdict.Verdict.{Verdict}
use Rattle.hk_verdict.specs.declared.verdict.InitVerdict.{InitVerdict}
use Rattle.hk_verdict.specs.declared.verdict.InitVerdict.TheVariants.{NotRun}
use Rattle.hk_verdict.specs.Report.{init_text, report_text}
use Rattle.hk_decide.specs.Opening.{IsOpening}
use Rattle.hk_verify.specs.Verdicts.{AreRight, AreCut}
use Rattle.hk_verify.specs.declared.answer.Answer.{Answer}
use Rattle.hk_verify.specs.declared.answer.TopFault.{TopFault}
use Rattle.hk_verify.specs.declared.answer.TopFault.TheVariants.{Usage, Read, Long, Kernel as OfKernel, Spec as OfSpec, Cert as OfCert, Cnf as OfCnf, Call as OfCall, Memory, Write}
use Rattle.hk_verify.specs.Inputs.{ShelfView, AreRead, CountsLoads, HasCause}
use Rattle.hk_verify.specs.Lines.{fault_text, fault_status, verdict_status}

-- What a call sees of the sink: what is shown, where it tells of it, and its count of faults, before and after.
pub record SinkView : Type 0 where
  pub shown : Option (List ℕ)
  pub shown' : Option (List ℕ)
  pub faults : ℕ
  pub faults' : ℕ

-- The sink shows this text since, and its count stands as it was; or the count rose, and a prefix of the text is shown.
abbrev pub Says : SinkView → List ℕ → Type 0
Says sink text =
    ((sink.shown' ≡ shown_with sink.shown text) × (sink.faults' ≡ sink.faults)) ⊎ (Rose sink.faults sink.faults' × ShowsPrefix sink.shown sink.shown' text)

-- The call ended with this fault before the line of the opening.
pub record IsRefused (sink : SinkView) (words : List (List ℕ)) (fault : TopFault) (answer : Answer) : Type 0 where
  pub says : Says sink (fault_text words fault)
  pub status : answer.status ≡ fault_status fault
  pub init : answer.init ≡ NotRun
  pub verdicts : answer.verdicts ≡ []

-- Every handler has its verdict, each is right, the opening is what it is, and the sink shows the report of them.
pub record IsWhole (sink : SinkView) (budget : ℕ) (m : ModuleView) (spec : Spec) (answer : Answer) : Type 0 where
  pub opening : IsOpening m spec answer.init
  pub right : AreRight budget m spec spec.transitions answer.verdicts
  pub says : sink.shown' ≡ shown_with sink.shown (report_text m spec answer.init answer.verdicts)
  pub still : sink.faults' ≡ sink.faults
  pub status : answer.status ≡ verdict_status answer.init answer.verdicts

-- The put of the opening failed.
pub record IsInitCut (sink : SinkView) (spec : Spec) (init : InitVerdict) (verdicts : List Verdict) : Type 0 where
  pub none : verdicts ≡ []
  pub cut : ShowsPrefix sink.shown sink.shown' (init_text spec init)

-- A put failed, and nothing was put behind it: that of the opening, or one of the last verdict's lines.
pub record IsCut (sink : SinkView) (budget : ℕ) (m : ModuleView) (spec : Spec) (answer : Answer) : Type 0 where
  pub failed : Rose sink.faults sink.faults'
  pub opening : IsOpening m spec answer.init
  pub shown : IsInitCut sink spec answer.init answer.verdicts ⊎ AreCut budget m spec answer.verdicts (shown_with sink.shown (init_text spec answer.init)) sink.shown'
  pub status : answer.status ≡ 6

-- What the report of a kernel and a specification leaves, by the answer's fault: the whole report, or a failed put.
abbrev pub ReportsWith : SinkView → ℕ → ModuleView → Spec → Answer → Option TopFault → Type 0
ReportsWith sink budget m spec answer None = IsWhole sink budget m spec answer
ReportsWith sink budget m spec answer (Some Write) = IsCut sink budget m spec answer
ReportsWith sink budget m spec answer (Some Usage) = ⊥
ReportsWith sink budget m spec answer (Some (Read w)) = ⊥
ReportsWith sink budget m spec answer (Some (Long w)) = ⊥
ReportsWith sink budget m spec answer (Some (OfKernel f)) = ⊥
ReportsWith sink budget m spec answer (Some (OfSpec f)) = ⊥
ReportsWith sink budget m spec answer (Some (OfCert f)) = ⊥
ReportsWith sink budget m spec answer (Some (OfCnf f)) = ⊥
ReportsWith sink budget m spec answer (Some (OfCall f)) = ⊥
ReportsWith sink budget m spec answer (Some Memory) = ⊥

abbrev pub Reports : SinkView → ℕ → ModuleView → Spec → Answer → Type 0
Reports sink budget m spec answer = ReportsWith sink budget m spec answer answer.fault

-- The texts were read, and this is their report.
pub record IsReported (shelf : ShelfView) (sink : SinkView) (kernel_name spec_name : List ℕ) (budget : ℕ) (answer : Answer) : Type 0 where
  pub module_ : ModuleView
  pub spec : Spec
  pub read : AreRead shelf.held kernel_name spec_name module_ spec
  pub reports : Reports sink budget module_ spec answer

-- The call ended before the line of the opening, with a fault that has its cause.
pub record IsEnded (shelf : ShelfView) (sink : SinkView) (words : List (List ℕ)) (kernel_name spec_name : List ℕ) (answer : Answer) : Type 0 where
  pub fault : TopFault
  pub is_fault : answer.fault ≡ Some fault
  pub cause : HasCause shelf kernel_name spec_name fault
  pub refused : IsRefused sink words fault answer

-- What the answer to `verify KERNEL SPEC [--conflicts N]` means, where a round may take so many conflicts: it was reported,
-- or it ended before.
abbrev pub Means : ShelfView → SinkView → List (List ℕ) → List ℕ → List ℕ → ℕ → Answer → Type 0
Means shelf sink words kernel_name spec_name budget answer =
    IsReported shelf sink kernel_name spec_name budget answer ⊎ IsEnded shelf sink words kernel_name spec_name answer

-- No fault of the outside is hidden: the shelf's count rose just where the answer names a failed load, and where it names
-- no fault at all the sink's count stands as it was.
pub record HidesNone (shelf : ShelfView) (sink : SinkView) (answer : Answer) : Type 0 where
  pub loads : CountsLoads answer.fault shelf.before shelf.after
  pub puts : answer.fault ≡ None → sink.faults' ≡ sink.faults

-- What the answer to words without a form means: the line of usage, and nothing was loaded.
pub record IsUsage (sink : SinkView) (words : List (List ℕ)) (answer : Answer) : Type 0 where
  pub is_fault : answer.fault ≡ Some Usage
  pub refused : IsRefused sink words Usage answer
