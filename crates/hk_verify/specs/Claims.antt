-- What the answers to `check KERNEL SPEC CERT` and `replay KERNEL SPEC CERT` mean, and the cause of each.

use Rattle.std.specs.Prelude.{ℕ, ◌≡◌, ◌⊎◌, [], ◌∷◌, List, Option, Some, None, Bool, if◌then◌else◌, Result, Ok, Err, length, ⊤}
use Rattle.hk_io.specs.Held.{Files}
use Rattle.ir_ast.specs.Program.{ModuleView}
use Rattle.ir_layout.specs.Layouts.{LayoutView, IsLayoutOf}
use Rattle.ir_ast.specs.ProgramView.{view_module}
use Rattle.spec_tree.specs.Plain.{Spec}
use Rattle.spec_tree.specs.View.{view_spec}
use Rattle.hk_cert_read.specs.declared.certificate.Certificate.{Certificate}
use Rattle.hk_verify.specs.declared.claims.Claimed.{Claimed}
use Rattle.hk_verdict.specs.declared.verdict.Verdict.{Verdict}
use Rattle.hk_verdict.specs.declared.verdict.InitVerdict.TheVariants.{NotRun}
use Rattle.hk_cert_lines.specs.declared.reason.CertReason.TheVariants.{Q2}
use Rattle.hk_cert.specs.declared.fault.CertFault.{CertFault}
use Rattle.hk_cert.specs.Reading.{certificate_of}
use Rattle.hk_cert_text.specs.declared.entry.Entry.{Entry}
use Rattle.hk_claims.specs.declared.stop.ClaimStop.{ClaimStop}
use Rattle.hk_claims.specs.declared.stop.ClaimStop.TheVariants as stop
use Rattle.hk_claims.specs.Checks as checks
use Rattle.hk_claims.specs.Replays as replays
use Rattle.hk_verify.specs.declared.answer.Answer.{Answer}
use Rattle.hk_verify.specs.declared.answer.TopFault.{TopFault}
use Rattle.hk_verify.specs.declared.answer.TopFault.TheVariants.{Usage, Read, Long, Kernel as OfKernel, Spec as OfSpec, Cert as OfCert, Cnf as OfCnf, Call as OfCall, Memory, Write}
use Rattle.hk_verify.specs.Whole.{IsWhole}
use Rattle.hk_verify.specs.Specifications.{IsTheSpec}
use Rattle.hk_verify.specs.Inputs.{Asked, ShelfView, AreLoaded, IsLoadingFault, ReadsTo, asked, kernel_limit, spec_limit, proof_limit}
use Rattle.hk_verify.specs.Lines.{fault_text, fault_status}
use Rattle.hk_verify.specs.Answers.{SinkView, IsRefused, Says}

-- ---- what was read

-- The files of both commands, in the order in which they are loaded; a certificate has at most as many bytes as a proof.
abbrev pub claim_files : List ℕ → List ℕ → List ℕ → List Asked
claim_files kernel spec cert = asked 1 kernel kernel_limit ∷ asked 2 spec spec_limit ∷ asked 3 cert proof_limit ∷ []

-- The three texts were loaded and read: the kernel's spells this module, the next one this specification for it, and the
-- last one these entries for both.
pub record AreClaimed (held : Option Files) (kernel_name spec_name cert_name : List ℕ) (m : ModuleView) (spec : Spec) (entries : List Entry) : Type 0 where
  pub kernel_text : List ℕ
  pub spec_text : List ℕ
  pub cert_text : List ℕ
  pub loaded : AreLoaded held (claim_files kernel_name spec_name cert_name) (kernel_text ∷ spec_text ∷ cert_text ∷ [])
  pub the_kernel : IsWhole kernel_text m
  pub the_spec : IsTheSpec m spec_text spec
  pub the_entries : (l : LayoutView) → IsLayoutOf m l → certificate_of m l.objects spec cert_text ≡ Ok entries

-- The kernel or the specification is refused.
pub record RefusesTexts (held : Option Files) (kernel_name spec_name cert_name : List ℕ) (fault : TopFault) : Type 0 where
  pub kernel_text : List ℕ
  pub spec_text : List ℕ
  pub cert_text : List ℕ
  pub loaded : AreLoaded held (claim_files kernel_name spec_name cert_name) (kernel_text ∷ spec_text ∷ cert_text ∷ [])
  pub refused : ReadsTo kernel_text spec_text (Err fault)

-- The certificate is refused, at its first line that fails, with its least reason.
pub record RefusesCert (held : Option Files) (kernel_name spec_name cert_name : List ℕ) (fault : CertFault) : Type 0 where
  pub kernel_text : List ℕ
  pub spec_text : List ℕ
  pub cert_text : List ℕ
  pub module_ : ModuleView
  pub spec : Spec
  pub loaded : AreLoaded held (claim_files kernel_name spec_name cert_name) (kernel_text ∷ spec_text ∷ cert_text ∷ [])
  pub the_kernel : IsWhole kernel_text module_
  pub the_spec : IsTheSpec module_ spec_text spec
  pub refused : (l : LayoutView) → IsLayoutOf module_ l → certificate_of module_ l.objects spec cert_text ≡ Err fault

-- What reading a certificate gives: its entries, or its first line that fails.
abbrev pub ReadsCert : Result (List Entry) CertFault → Result Certificate TopFault → Type 0
ReadsCert answer (Ok certificate) = answer ≡ Ok certificate.entries
ReadsCert answer (Err (OfCert f)) = answer ≡ Err f
ReadsCert answer (Err Memory) = ⊤
ReadsCert answer (Err Usage) = ⊥
ReadsCert answer (Err (Read w)) = ⊥
ReadsCert answer (Err (Long w)) = ⊥
ReadsCert answer (Err (OfKernel f)) = ⊥
ReadsCert answer (Err (OfSpec f)) = ⊥
ReadsCert answer (Err (OfCnf f)) = ⊥
ReadsCert answer (Err (OfCall f)) = ⊥
ReadsCert answer (Err Write) = ⊥

-- A certificate is refused, or memory.
abbrev pub IsCertStop : TopFault → Type 0
IsCertStop (OfCert f) = ⊤
IsCertStop Memory = ⊤
IsCertStop Usage = ⊥
IsCertStop (Read w) = ⊥
IsCertStop (Long w) = ⊥
IsCertStop (OfKernel f) = ⊥
IsCertStop (OfSpec f) = ⊥
IsCertStop (OfCnf f) = ⊥
IsCertStop (OfCall f) = ⊥
IsCertStop Write = ⊥

-- What reading the three texts gives: what they spell, or the refusal of the first that spells nothing.
pub record ReadsThree (kernel_text spec_text cert_text : List ℕ) (claimed : Claimed) : Type 0 where
  pub the_kernel : IsWhole kernel_text (view_module claimed.inputs.kernel)
  pub the_spec : IsTheSpec (view_module claimed.inputs.kernel) spec_text (view_spec claimed.inputs.spec)
  pub the_entries : (l : LayoutView) → IsLayoutOf (view_module claimed.inputs.kernel) l → certificate_of (view_module claimed.inputs.kernel) l.objects (view_spec claimed.inputs.spec) cert_text ≡ Ok claimed.certificate.entries

pub record RefusesThird (kernel_text spec_text cert_text : List ℕ) (fault : CertFault) : Type 0 where
  pub module_ : ModuleView
  pub spec : Spec
  pub the_kernel : IsWhole kernel_text module_
  pub the_spec : IsTheSpec module_ spec_text spec
  pub refused : (l : LayoutView) → IsLayoutOf module_ l → certificate_of module_ l.objects spec cert_text ≡ Err fault

abbrev pub TriesToRead : List ℕ → List ℕ → List ℕ → Result Claimed TopFault → Type 0
TriesToRead kernel_text spec_text cert_text (Ok claimed) = ReadsThree kernel_text spec_text cert_text claimed
TriesToRead kernel_text spec_text cert_text (Err (OfKernel f)) = ReadsTo kernel_text spec_text (Err (OfKernel f))
TriesToRead kernel_text spec_text cert_text (Err (OfSpec f)) = ReadsTo kernel_text spec_text (Err (OfSpec f))
TriesToRead kernel_text spec_text cert_text (Err (OfCert f)) = RefusesThird kernel_text spec_text cert_text f
TriesToRead kernel_text spec_text cert_text (Err Memory) = ⊤
TriesToRead kernel_text spec_text cert_text (Err Usage) = ⊥
TriesToRead kernel_text spec_text cert_text (Err (Read w)) = ⊥
TriesToRead kernel_text spec_text cert_text (Err (Long w)) = ⊥
TriesToRead kernel_text spec_text cert_text (Err (OfCnf f)) = ⊥
TriesToRead kernel_text spec_text cert_text (Err (OfCall f)) = ⊥
TriesToRead kernel_text spec_text cert_text (Err Write) = ⊥

-- Why a call ended before its first handler. Want of memory is the one free answer.
abbrev pub HasClaimCause : ShelfView → List ℕ → List ℕ → List ℕ → TopFault → Type 0
HasClaimCause shelf kernel spec cert Usage = ⊥
HasClaimCause shelf kernel spec cert (Read w) = IsLoadingFault shelf (claim_files kernel spec cert) (Read w)
HasClaimCause shelf kernel spec cert (Long w) = IsLoadingFault shelf (claim_files kernel spec cert) (Long w)
HasClaimCause shelf kernel spec cert (OfKernel f) = RefusesTexts shelf.held kernel spec cert (OfKernel f)
HasClaimCause shelf kernel spec cert (OfSpec f) = RefusesTexts shelf.held kernel spec cert (OfSpec f)
HasClaimCause shelf kernel spec cert (OfCert f) = RefusesCert shelf.held kernel spec cert f
HasClaimCause shelf kernel spec cert (OfCnf f) = ⊥
HasClaimCause shelf kernel spec cert (OfCall f) = ⊥
HasClaimCause shelf kernel spec cert Memory = ⊤
HasClaimCause shelf kernel spec cert Write = ⊥

-- The call ended before its first handler, with a fault that has its cause.
pub record IsClaimEnded (shelf : ShelfView) (sink : SinkView) (words : List (List ℕ)) (kernel_name spec_name cert_name : List ℕ) (answer : Answer) : Type 0 where
  pub fault : TopFault
  pub is_fault : answer.fault ≡ Some fault
  pub cause : HasClaimCause shelf kernel_name spec_name cert_name fault
  pub refused : IsRefused sink words fault answer

-- The line of a fault stands behind what was shown before it, with the fault's status.
pub record EndsBehind (sink : SinkView) (between : Option (List ℕ)) (words : List (List ℕ)) (fault : TopFault) (answer : Answer) : Type 0 where
  pub says : Says (record { shown = between; shown' = sink.shown'; faults = sink.faults; faults' = sink.faults' }) (fault_text words fault)
  pub status : answer.status ≡ fault_status fault

-- ---- `check`

-- How a check ends early, by why it stopped: after a failed put no line is put, else that of the fault.
pub record EndsWith (sink : SinkView) (words : List (List ℕ)) (fault : TopFault) (verdicts : List Verdict) (answer : Answer) : Type 0 where
  pub is_fault : answer.fault ≡ Some fault
  pub ends : EndsBehind sink sink.shown words fault answer
  pub init : answer.init ≡ NotRun
  pub verdicts_are : answer.verdicts ≡ verdicts

pub record EndsCut (sink : SinkView) (verdicts : List Verdict) (answer : Answer) : Type 0 where
  pub is_fault : answer.fault ≡ Some Write
  pub status : answer.status ≡ 6
  pub init : answer.init ≡ NotRun
  pub verdicts_are : answer.verdicts ≡ verdicts
  pub none_shown : sink.shown' ≡ sink.shown
  pub none_failed : sink.faults' ≡ sink.faults

abbrev pub EndsCheck : SinkView → List (List ℕ) → ClaimStop → List Verdict → Answer → Type 0
EndsCheck sink words stop.Write verdicts answer = EndsCut sink verdicts answer
EndsCheck sink words stop.Memory verdicts answer = EndsWith sink words Memory verdicts answer
EndsCheck sink words (stop.NoSuch line) verdicts answer = EndsWith sink words (OfCert (record { line = line; reason = Q2 })) verdicts answer

-- Every handler has its line: its proofs hold, or the first that does not is named, or the certificate has no acceptance for
-- it; the verdicts are those of the acceptances.
pub record IsChecked (sink : SinkView) (m : ModuleView) (spec : Spec) (entries : List Entry) (answer : Answer) : Type 0 where
  pub checked : checks.AreChecked m spec entries answer.verdicts sink.shown sink.shown'
  pub still : sink.faults' ≡ sink.faults
  pub status : answer.status ≡ checks.check_status (length spec.transitions) answer.verdicts

-- A put failed, and nothing was put behind it.
pub record IsCheckCut (sink : SinkView) (m : ModuleView) (spec : Spec) (entries : List Entry) (answer : Answer) : Type 0 where
  pub cut : checks.IsCut m spec entries answer.verdicts sink.shown sink.shown' sink.faults sink.faults'
  pub status : answer.status ≡ 6

-- Memory was refused for a handler, behind the lines of those before it.
pub record IsCheckWanting (sink : SinkView) (words : List (List ℕ)) (m : ModuleView) (spec : Spec) (entries : List Entry) (answer : Answer) : Type 0 where
  pub between : Option (List ℕ)
  pub wanting : checks.IsWanting m spec entries answer.verdicts sink.shown between
  pub ends : EndsBehind sink between words Memory answer

-- An instance names nothing, behind the lines of the handlers before its own: its line is the certificate's fault.
pub record IsCheckUnnamed (sink : SinkView) (words : List (List ℕ)) (m : ModuleView) (spec : Spec) (entries : List Entry) (fault : CertFault) (answer : Answer) : Type 0 where
  pub reason : fault.reason ≡ Q2
  pub between : Option (List ℕ)
  pub unnamed : checks.IsUnnamed m spec entries fault.line answer.verdicts sink.shown between
  pub ends : EndsBehind sink between words (OfCert fault) answer

-- What checking a certificate leaves, by the answer's fault.
abbrev pub ChecksWith : SinkView → List (List ℕ) → ModuleView → Spec → List Entry → Answer → Option TopFault → Type 0
ChecksWith sink words m spec entries answer None = IsChecked sink m spec entries answer
ChecksWith sink words m spec entries answer (Some Write) = IsCheckCut sink m spec entries answer
ChecksWith sink words m spec entries answer (Some Memory) = IsCheckWanting sink words m spec entries answer ⊎ IsRefused sink words Memory answer
ChecksWith sink words m spec entries answer (Some (OfCert f)) = IsCheckUnnamed sink words m spec entries f answer
ChecksWith sink words m spec entries answer (Some Usage) = ⊥
ChecksWith sink words m spec entries answer (Some (Read w)) = ⊥
ChecksWith sink words m spec entries answer (Some (Long w)) = ⊥
ChecksWith sink words m spec entries answer (Some (OfKernel f)) = ⊥
ChecksWith sink words m spec entries answer (Some (OfSpec f)) = ⊥
ChecksWith sink words m spec entries answer (Some (OfCnf f)) = ⊥
ChecksWith sink words m spec entries answer (Some (OfCall f)) = ⊥

pub record Checks (sink : SinkView) (words : List (List ℕ)) (m : ModuleView) (spec : Spec) (entries : List Entry) (answer : Answer) : Type 0 where
  pub checks_with : ChecksWith sink words m spec entries answer answer.fault
  pub init : answer.init ≡ NotRun

-- The certificate was read, and its acceptances were checked.
pub record IsCheckReported (shelf : ShelfView) (sink : SinkView) (words : List (List ℕ)) (kernel_name spec_name cert_name : List ℕ) (answer : Answer) : Type 0 where
  pub module_ : ModuleView
  pub spec : Spec
  pub entries : List Entry
  pub read : AreClaimed shelf.held kernel_name spec_name cert_name module_ spec entries
  pub checks : Checks sink words module_ spec entries answer

-- What the answer to `check KERNEL SPEC CERT` means.
abbrev pub MeansCheck : ShelfView → SinkView → List (List ℕ) → List ℕ → List ℕ → List ℕ → Answer → Type 0
MeansCheck shelf sink words kernel_name spec_name cert_name answer =
    IsCheckReported shelf sink words kernel_name spec_name cert_name answer ⊎ IsClaimEnded shelf sink words kernel_name spec_name cert_name answer

-- ---- `replay`

-- Every rejection has its line, by whether its case violates its obligation.
pub record IsReplayed (sink : SinkView) (m : ModuleView) (spec : Spec) (entries : List Entry) (answer : Answer) : Type 0 where
  pub unconfirmed : Bool
  pub replayed : replays.AreReplayed m spec entries unconfirmed sink.shown sink.shown'
  pub still : sink.faults' ≡ sink.faults
  pub status : answer.status ≡ (if unconfirmed then 1 else 0)

-- A put failed, and nothing was put behind it.
pub record IsReplayCut (sink : SinkView) (m : ModuleView) (spec : Spec) (entries : List Entry) (answer : Answer) : Type 0 where
  pub cut : replays.IsCut m spec entries sink.shown sink.shown' sink.faults sink.faults'
  pub status : answer.status ≡ 6

-- Memory was refused, behind the lines of the rejections before.
pub record IsReplayWanting (sink : SinkView) (words : List (List ℕ)) (m : ModuleView) (spec : Spec) (entries : List Entry) (answer : Answer) : Type 0 where
  pub between : Option (List ℕ)
  pub wanting : replays.IsWanting m spec entries sink.shown between
  pub ends : EndsBehind sink between words Memory answer

-- What replaying a certificate leaves, by the answer's fault.
abbrev pub ReplaysWith : SinkView → List (List ℕ) → ModuleView → Spec → List Entry → Answer → Option TopFault → Type 0
ReplaysWith sink words m spec entries answer None = IsReplayed sink m spec entries answer
ReplaysWith sink words m spec entries answer (Some Write) = IsReplayCut sink m spec entries answer
ReplaysWith sink words m spec entries answer (Some Memory) = IsReplayWanting sink words m spec entries answer
ReplaysWith sink words m spec entries answer (Some Usage) = ⊥
ReplaysWith sink words m spec entries answer (Some (Read w)) = ⊥
ReplaysWith sink words m spec entries answer (Some (Long w)) = ⊥
ReplaysWith sink words m spec entries answer (Some (OfKernel f)) = ⊥
ReplaysWith sink words m spec entries answer (Some (OfSpec f)) = ⊥
ReplaysWith sink words m spec entries answer (Some (OfCert f)) = ⊥
ReplaysWith sink words m spec entries answer (Some (OfCnf f)) = ⊥
ReplaysWith sink words m spec entries answer (Some (OfCall f)) = ⊥

pub record Replays (sink : SinkView) (words : List (List ℕ)) (m : ModuleView) (spec : Spec) (entries : List Entry) (answer : Answer) : Type 0 where
  pub replays_with : ReplaysWith sink words m spec entries answer answer.fault
  pub init : answer.init ≡ NotRun
  pub verdicts : answer.verdicts ≡ []

-- The certificate was read, and its rejections were run again.
pub record IsReplayReported (shelf : ShelfView) (sink : SinkView) (words : List (List ℕ)) (kernel_name spec_name cert_name : List ℕ) (answer : Answer) : Type 0 where
  pub module_ : ModuleView
  pub spec : Spec
  pub entries : List Entry
  pub read : AreClaimed shelf.held kernel_name spec_name cert_name module_ spec entries
  pub replays : Replays sink words module_ spec entries answer

-- What the answer to `replay KERNEL SPEC CERT` means.
abbrev pub MeansReplay : ShelfView → SinkView → List (List ℕ) → List ℕ → List ℕ → List ℕ → Answer → Type 0
MeansReplay shelf sink words kernel_name spec_name cert_name answer =
    IsReplayReported shelf sink words kernel_name spec_name cert_name answer ⊎ IsClaimEnded shelf sink words kernel_name spec_name cert_name answer
