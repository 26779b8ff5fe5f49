-- What an answer to `verify KERNEL SPEC [--conflicts N] --cert FILE` means: the report, and the certificate that is saved behind it.

use Rattle.std.specs.Prelude.{ℕ, ◌≡◌, ◌≢◌, ◌⊎◌, List, map, Option, Some, None, IsSome, if◌then◌else◌}
use Rattle.hk_io.specs.Faults.{Rose}
use Rattle.hk_io.specs.Held.{Files, held_under}
use Rattle.hk_io.specs.Shown.{shown_with}
use Rattle.ir_ast.specs.Program.{ModuleView}
use Rattle.spec_tree.specs.Plain.{Spec}
use Rattle.hk_verdict.specs.Report.{report_text}
use Rattle.hk_decide.specs.Opening.{IsOpening}
use Rattle.hk_cert_text.specs.Certificate.{certificate_text, entry_of}
use Rattle.hk_verify.specs.declared.answer.Answer.{Answer}
use Rattle.hk_verify.specs.declared.answer.TopFault.{TopFault}
use Rattle.hk_verify.specs.declared.answer.TopFault.TheVariants.{Usage, Read, Long, Kernel as OfKernel, Spec as OfSpec, Cert as OfCert, Cnf as OfCnf, Call as OfCall, Memory, Write}
use Rattle.hk_verify.specs.Inputs.{AreRead, CountsLoads, seen}
use Rattle.hk_verify.specs.Lines.{is_faulted, verdict_status}
use Rattle.hk_verify.specs.Verdicts.{AreKept, AreRight}
use Rattle.hk_verify.specs.Answers.{SinkView, IsCut, IsEnded, IsRefused}

-- What a call that saves sees of the shelf: the files, where it tells of them, and its count of faults, before and after.
pub record SavingView : Type 0 where
  pub held : Option Files
  pub held' : Option Files
  pub before : ℕ
  pub after : ℕ

-- ---- the shelf

-- The files under other names are as before.
abbrev pub KeepsOthers : SavingView → List ℕ → Type 0
KeepsOthers shelf cert = (other : List ℕ) → other ≢ cert → held_under shelf.held' other ≡ held_under shelf.held other

-- The text is saved under the name.
pub record IsSaved (shelf : SavingView) (cert text : List ℕ) : Type 0 where
  pub holds : IsSome shelf.held → held_under shelf.held' cert ≡ Some text
  pub others : KeepsOthers shelf cert
  pub still : shelf.after ≡ shelf.before

-- The save failed, and was tried once: one fault was counted, and the files are as before, where the shelf tells of them.
pub record IsUnsaved (shelf : SavingView) : Type 0 where
  pub failed : Rose shelf.before shelf.after
  pub same : shelf.held' ≡ shelf.held

-- Nothing was saved.
pub record IsUntouched (shelf : SavingView) : Type 0 where
  pub same : shelf.held' ≡ shelf.held
  pub still : shelf.after ≡ shelf.before

-- The status where memory was refused for the certificate: a rejection or a failed opening counts more.
abbrev pub wanting_status : Answer → ℕ
wanting_status answer = if is_faulted answer.init answer.verdicts then 1 else 7

-- What saving the certificate of a report leaves, by the answer's fault.
abbrev pub SavesWith : SavingView → ModuleView → Spec → List ℕ → Answer → Answer → Option TopFault → Type 0
SavesWith shelf m spec cert given answer None = IsSaved shelf cert (certificate_text m spec (map entry_of given.verdicts)) × (answer.status ≡ given.status)
SavesWith shelf m spec cert given answer (Some Write) = IsUnsaved shelf × (answer.status ≡ 6)
SavesWith shelf m spec cert given answer (Some Memory) = IsUntouched shelf × (answer.status ≡ wanting_status given)
SavesWith shelf m spec cert given answer (Some Usage) = ⊥
SavesWith shelf m spec cert given answer (Some (Read w)) = ⊥
SavesWith shelf m spec cert given answer (Some (Long w)) = ⊥
SavesWith shelf m spec cert given answer (Some (OfKernel f)) = ⊥
SavesWith shelf m spec cert given answer (Some (OfSpec f)) = ⊥
SavesWith shelf m spec cert given answer (Some (OfCert f)) = ⊥
SavesWith shelf m spec cert given answer (Some (OfCnf f)) = ⊥
SavesWith shelf m spec cert given answer (Some (OfCall f)) = ⊥

pub record Saves (shelf : SavingView) (m : ModuleView) (spec : Spec) (cert : List ℕ) (given answer : Answer) : Type 0 where
  pub saves : SavesWith shelf m spec cert given answer answer.fault
  pub init : answer.init ≡ given.init
  pub verdicts : answer.verdicts ≡ given.verdicts

-- ---- the whole

-- Every handler has its verdict, each is right, each acceptance has one proof for each obligation, and the sink shows the
-- report of them.
pub record IsProved (sink : SinkView) (budget : ℕ) (m : ModuleView) (spec : Spec) (answer : Answer) : Type 0 where
  pub opening : IsOpening m spec answer.init
  pub right : AreRight budget m spec spec.transitions answer.verdicts
  pub kept : AreKept spec spec.transitions answer.verdicts
  pub says : sink.shown' ≡ shown_with sink.shown (report_text m spec answer.init answer.verdicts)
  pub still : sink.faults' ≡ sink.faults

-- The report is shown whole, and behind it the certificate of its verdicts was saved.
pub record IsWhole (shelf : SavingView) (sink : SinkView) (budget : ℕ) (m : ModuleView) (spec : Spec) (cert : List ℕ) (answer : Answer) : Type 0 where
  pub proved : IsProved sink budget m spec answer
  pub saved : IsSaved shelf cert (certificate_text m spec (map entry_of answer.verdicts))
  pub status : answer.status ≡ verdict_status answer.init answer.verdicts

-- A put failed, and nothing was saved.
pub record IsReportCut (shelf : SavingView) (sink : SinkView) (budget : ℕ) (m : ModuleView) (spec : Spec) (answer : Answer) : Type 0 where
  pub cut : IsCut sink budget m spec answer
  pub untouched : IsUntouched shelf

-- The report is shown whole, and the save behind it failed.
pub record IsSaveCut (shelf : SavingView) (sink : SinkView) (budget : ℕ) (m : ModuleView) (spec : Spec) (answer : Answer) : Type 0 where
  pub proved : IsProved sink budget m spec answer
  pub unsaved : IsUnsaved shelf
  pub status : answer.status ≡ 6

-- The report is shown whole, and memory was refused for the certificate.
pub record IsWanting (shelf : SavingView) (sink : SinkView) (budget : ℕ) (m : ModuleView) (spec : Spec) (answer : Answer) : Type 0 where
  pub proved : IsProved sink budget m spec answer
  pub untouched : IsUntouched shelf
  pub status : answer.status ≡ wanting_status answer

-- What a report and its certificate leave, by the answer's fault.
abbrev pub CertifiesWith : SavingView → SinkView → ℕ → ModuleView → Spec → List ℕ → Answer → Option TopFault → Type 0
CertifiesWith shelf sink budget m spec cert answer None = IsWhole shelf sink budget m spec cert answer
CertifiesWith shelf sink budget m spec cert answer (Some Write) = IsReportCut shelf sink budget m spec answer ⊎ IsSaveCut shelf sink budget m spec answer
CertifiesWith shelf sink budget m spec cert answer (Some Memory) = IsWanting shelf sink budget m spec answer
CertifiesWith shelf sink budget m spec cert answer (Some Usage) = ⊥
CertifiesWith shelf sink budget m spec cert answer (Some (Read w)) = ⊥
CertifiesWith shelf sink budget m spec cert answer (Some (Long w)) = ⊥
CertifiesWith shelf sink budget m spec cert answer (Some (OfKernel f)) = ⊥
CertifiesWith shelf sink budget m spec cert answer (Some (OfSpec f)) = ⊥
CertifiesWith shelf sink budget m spec cert answer (Some (OfCert f)) = ⊥
CertifiesWith shelf sink budget m spec cert answer (Some (OfCnf f)) = ⊥
CertifiesWith shelf sink budget m spec cert answer (Some (OfCall f)) = ⊥

-- The handlers were decided, or memory was refused before the line of the opening.
pub record IsUnbegun (shelf : SavingView) (sink : SinkView) (words : List (List ℕ)) (answer : Answer) : Type 0 where
  pub is_fault : answer.fault ≡ Some Memory
  pub refused : IsRefused sink words Memory answer
  pub untouched : IsUntouched shelf

abbrev pub ReportsAndSaves : SavingView → SinkView → List (List ℕ) → ℕ → ModuleView → Spec → List ℕ → Answer → Type 0
ReportsAndSaves shelf sink words budget m spec cert answer = CertifiesWith shelf sink budget m spec cert answer answer.fault ⊎ IsUnbegun shelf sink words answer

-- The texts were read, and this is their report with its certificate.
pub record IsCertified (shelf : SavingView) (sink : SinkView) (kernel_name spec_name : List ℕ) (budget : ℕ) (cert : List ℕ) (answer : Answer) : Type 0 where
  pub module_ : ModuleView
  pub spec : Spec
  pub read : AreRead shelf.held kernel_name spec_name module_ spec
  pub certifies : CertifiesWith shelf sink budget module_ spec cert answer answer.fault

-- The call ended before the line of the opening, and nothing was saved; the count of faults rose just where a load failed.
pub record IsUncertified (shelf : SavingView) (sink : SinkView) (words : List (List ℕ)) (kernel_name spec_name : List ℕ) (answer : Answer) : Type 0 where
  pub ended : IsEnded (seen shelf.held shelf.before shelf.after) sink words kernel_name spec_name answer
  pub same : shelf.held' ≡ shelf.held
  pub loads : CountsLoads answer.fault shelf.before shelf.after

-- What the answer to `verify KERNEL SPEC [--conflicts N] --cert FILE` means.
abbrev pub MeansCertified : SavingView → SinkView → List (List ℕ) → List ℕ → List ℕ → ℕ → List ℕ → Answer → Type 0
MeansCertified shelf sink words kernel_name spec_name budget cert answer =
    IsCertified shelf sink kernel_name spec_name budget cert answer ⊎ IsUncertified shelf sink words kernel_name spec_name answer
