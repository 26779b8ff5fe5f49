-- What an answer to `run KERNEL FUNCTION [ARG ..]` means: the end of the run of the text that was loaded, or the first refusal.

use Rattle.std.specs.Prelude.{ℕ, ◌+◌, ◌≡◌, ◌⊎◌, List, [], ◌∷◌, ◌++◌, Option, Some, None, option_map, Result, Ok, Err, ⊤, codes}
use Rattle.std.specs.Fmt.{decimal}
use Rattle.hk_io.specs.Faults.{Rose}
use Rattle.hk_io.specs.Held.{Files}
use Rattle.hk_io.specs.Shown.{shown_with, ShowsPrefix}
use Rattle.ir_ast.specs.Program.{ModuleView}
use Rattle.ir_ast.specs.declared.fault.KernelFault.{KernelFault}
use Rattle.ir_layout.specs.Initial.{initial_memory}
use Rattle.ir_check.specs.Answers.{find_body}
use Rattle.ir_value.specs.declared.value.StuckReason.{StuckReason}
use Rattle.ir_value.specs.declared.value.StuckReason.TheVariants.{U1, U2, U3, U4, U5, U6, U7, U8, U9, U10, U11, U12, U13, U14, U15, U16, U17}
use Rattle.ir_kernel.specs.Ends.{IsEndOfRun}
use Rattle.ir_kernel.specs.declared.passing.Misfit.{Misfit}
use Rattle.ir_kernel.specs.declared.passing.Misfit.TheVariants.{Unknown, Count, Argument, Pointer}
use Rattle.ir_kernel.specs.Passing.{misfit}
use Rattle.ir_spelled.specs.declared.running.Ending.{Ending}
use Rattle.ir_spelled.specs.declared.running.Ending.TheVariants as ending
use Rattle.ir_spelled.specs.Endings.{end_of}
use Rattle.hk_rows.specs.Rows.{memory_text}
use Rattle.hk_rows.specs.Texts.{line}
use Rattle.hk_verdict.specs.declared.verdict.InitVerdict.TheVariants.{NotRun}
use Rattle.hk_verify.specs.declared.answer.Answer.{Answer}
use Rattle.hk_verify.specs.declared.answer.CallFault.{CallFault}
use Rattle.hk_verify.specs.declared.answer.CallReason.{CallReason}
use Rattle.hk_verify.specs.declared.answer.CallReason.TheVariants.{A1, A2, A3}
use Rattle.hk_verify.specs.declared.answer.TopFault.{TopFault}
use Rattle.hk_verify.specs.declared.answer.TopFault.TheVariants.{Usage, Read, Long, Kernel as OfKernel, Spec as OfSpec, Cert as OfCert, Cnf as OfCnf, Call as OfCall, Memory, Write}
use Rattle.hk_verify.specs.Inputs.{ShelfView, AreLoaded, IsLoadingFault, run_files}
use Rattle.hk_verify.specs.Answers.{SinkView, IsRefused}
use Rattle.hk_verify.specs.Whole.{IsWhole, RefusesWhole}

-- The word that is why a function is not run, counted from 0, and the reason. The word 2 names the function, and the word 3 is the
-- first argument.
abbrev pub call_of : Misfit → ℕ × CallReason
call_of Unknown = (2, A1)
call_of Count = (2, A2)
call_of (Argument k) = (3 + k, A3)
call_of Pointer = (2, A3)

-- The fault of a misfit. Memory may be wanted.
abbrev pub FaultOf : Misfit → TopFault → Type 0
FaultOf why (OfCall f) = call_of why ≡ (f.word, f.reason)
FaultOf why Memory = ⊤
FaultOf why Usage = ⊥
FaultOf why (Read w) = ⊥
FaultOf why (Long w) = ⊥
FaultOf why (OfKernel f) = ⊥
FaultOf why (OfSpec f) = ⊥
FaultOf why (OfCert f) = ⊥
FaultOf why (OfCnf f) = ⊥
FaultOf why Write = ⊥

-- Why the function of a name is not run with these arguments; none where it is.
abbrev pub call_fault : ModuleView → List ℕ → List ℕ → Option (ℕ × CallReason)
call_fault m function arguments = option_map call_of (misfit m function arguments)

-- The run of the function of a name from the initial memory ends so: it returns, or it is stuck.
pub record IsRunOf (m : ModuleView) (function arguments : List ℕ) (end : Ending) : Type 0 where
  pub place : ℕ
  pub found : find_body m.functions function ≡ Some place
  pub ends : IsEndOfRun m place arguments (initial_memory m) (end_of end)

-- What calling the function of a name gives: the end of its run, or why it is not run.
abbrev pub Calls : ModuleView → List ℕ → List ℕ → Result Ending TopFault → Type 0
Calls m function arguments (Ok end) = (call_fault m function arguments ≡ None) × IsRunOf m function arguments end
Calls m function arguments (Err (OfCall f)) = call_fault m function arguments ≡ Some (f.word, f.reason)
Calls m function arguments (Err Memory) = ⊤
Calls m function arguments (Err Usage) = ⊥
Calls m function arguments (Err (Read w)) = ⊥
Calls m function arguments (Err (Long w)) = ⊥
Calls m function arguments (Err (OfKernel f)) = ⊥
Calls m function arguments (Err (OfSpec f)) = ⊥
Calls m function arguments (Err (OfCert f)) = ⊥
Calls m function arguments (Err (OfCnf f)) = ⊥
Calls m function arguments (Err Write) = ⊥

-- ---- lines

-- A reason why a run is stuck as it is printed.
abbrev pub stuck_code : StuckReason → List ℕ
stuck_code U1 = codes "U1"
stuck_code U2 = codes "U2"
stuck_code U3 = codes "U3"
stuck_code U4 = codes "U4"
stuck_code U5 = codes "U5"
stuck_code U6 = codes "U6"
stuck_code U7 = codes "U7"
stuck_code U8 = codes "U8"
stuck_code U9 = codes "U9"
stuck_code U10 = codes "U10"
stuck_code U11 = codes "U11"
stuck_code U12 = codes "U12"
stuck_code U13 = codes "U13"
stuck_code U14 = codes "U14"
stuck_code U15 = codes "U15"
stuck_code U16 = codes "U16"
stuck_code U17 = codes "U17"

abbrev pub returned_line : Option ℕ → List ℕ
returned_line None = line (codes "returns" ∷ [])
returned_line (Some n) = line (codes "returns " ∷ decimal n ∷ [])

abbrev pub returned_text : ModuleView → Option ℕ → List (List ℕ) → List ℕ
returned_text m value memory = returned_line value ++ memory_text m.globals memory

abbrev pub stuck_line : StuckReason → ℕ → List ℕ
stuck_line reason l = line (codes "stuck " ∷ stuck_code reason ∷ codes " " ∷ decimal l ∷ [])

-- The lines of a run: what it returns and the rows of the memory then, or where it is stuck.
abbrev pub end_text : ModuleView → Ending → List ℕ
end_text m (ending.Returned value memory) = returned_text m value memory
end_text m (ending.Stuck reason l) = stuck_line reason l

-- The status of a run.
abbrev pub end_status : Ending → ℕ
end_status (ending.Returned value memory) = 0
end_status (ending.Stuck reason l) = 1

-- ---- answers

-- The lines are shown whole.
pub record IsEndTold (sink : SinkView) (m : ModuleView) (e : Ending) (answer : Answer) : Type 0 where
  pub says : sink.shown' ≡ shown_with sink.shown (end_text m e)
  pub still : sink.faults' ≡ sink.faults
  pub status : answer.status ≡ end_status e

-- A put of the lines failed, and nothing was put behind it.
pub record IsEndCut (sink : SinkView) (m : ModuleView) (e : Ending) (answer : Answer) : Type 0 where
  pub failed : Rose sink.faults sink.faults'
  pub cut : ShowsPrefix sink.shown sink.shown' (end_text m e)
  pub status : answer.status ≡ 6

-- What telling the end leaves, by the answer's fault.
abbrev pub TellsEndWith : SinkView → ModuleView → Ending → Answer → Option TopFault → Type 0
TellsEndWith sink m e answer None = IsEndTold sink m e answer
TellsEndWith sink m e answer (Some Write) = IsEndCut sink m e answer
TellsEndWith sink m e answer (Some Usage) = ⊥
TellsEndWith sink m e answer (Some (Read w)) = ⊥
TellsEndWith sink m e answer (Some (Long w)) = ⊥
TellsEndWith sink m e answer (Some (OfKernel f)) = ⊥
TellsEndWith sink m e answer (Some (OfSpec f)) = ⊥
TellsEndWith sink m e answer (Some (OfCert f)) = ⊥
TellsEndWith sink m e answer (Some (OfCnf f)) = ⊥
TellsEndWith sink m e answer (Some (OfCall f)) = ⊥
TellsEndWith sink m e answer (Some Memory) = ⊥

pub record TellsEnd (sink : SinkView) (m : ModuleView) (e : Ending) (answer : Answer) : Type 0 where
  pub tells : TellsEndWith sink m e answer answer.fault
  pub init : answer.init ≡ NotRun
  pub verdicts : answer.verdicts ≡ []

-- The kernel's text was loaded, it spells this module, the function takes the arguments, and its run ends so.
pub record IsRan (held : Option Files) (kernel function arguments : List ℕ) (m : ModuleView) (e : Ending) : Type 0 where
  pub text : List ℕ
  pub loaded : AreLoaded held (run_files kernel) (text ∷ [])
  pub whole : IsWhole text m
  pub called : call_fault m function arguments ≡ None
  pub ran : IsRunOf m function arguments e

-- The kernel's text spells no kernel.
pub record RefusesText (held : Option Files) (kernel : List ℕ) (fault : KernelFault) : Type 0 where
  pub text : List ℕ
  pub loaded : AreLoaded held (run_files kernel) (text ∷ [])
  pub refused : RefusesWhole text fault

-- The kernel's text spells this module, and the function is not run.
pub record RefusesCall (held : Option Files) (kernel function arguments : List ℕ) (fault : CallFault) : Type 0 where
  pub text : List ℕ
  pub module_ : ModuleView
  pub loaded : AreLoaded held (run_files kernel) (text ∷ [])
  pub whole : IsWhole text module_
  pub is : call_fault module_ function arguments ≡ Some (fault.word, fault.reason)

-- Why the call ended before its line. Want of memory is the one free answer.
abbrev pub HasRunCause : ShelfView → List ℕ → List ℕ → List ℕ → TopFault → Type 0
HasRunCause shelf kernel function arguments (Read w) = IsLoadingFault shelf (run_files kernel) (Read w)
HasRunCause shelf kernel function arguments (Long w) = IsLoadingFault shelf (run_files kernel) (Long w)
HasRunCause shelf kernel function arguments (OfKernel f) = RefusesText shelf.held kernel f
HasRunCause shelf kernel function arguments (OfCall f) = RefusesCall shelf.held kernel function arguments f
HasRunCause shelf kernel function arguments Memory = ⊤
HasRunCause shelf kernel function arguments Usage = ⊥
HasRunCause shelf kernel function arguments (OfSpec f) = ⊥
HasRunCause shelf kernel function arguments (OfCert f) = ⊥
HasRunCause shelf kernel function arguments (OfCnf f) = ⊥
HasRunCause shelf kernel function arguments Write = ⊥

-- The function was run, and the end of its run put.
pub record IsRunTold (shelf : ShelfView) (sink : SinkView) (kernel function arguments : List ℕ) (answer : Answer) : Type 0 where
  pub module_ : ModuleView
  pub end_ : Ending
  pub ran : IsRan shelf.held kernel function arguments module_ end_
  pub tells : TellsEnd sink module_ end_ answer

-- The call ended before its line, with a fault that has its cause.
pub record IsNotRun (shelf : ShelfView) (sink : SinkView) (words : List (List ℕ)) (kernel function arguments : List ℕ) (answer : Answer) : Type 0 where
  pub fault : TopFault
  pub is_fault : answer.fault ≡ Some fault
  pub cause : HasRunCause shelf kernel function arguments fault
  pub refused : IsRefused sink words fault answer

-- What the answer to `run KERNEL FUNCTION [ARG ..]` means.
abbrev pub MeansRun : ShelfView → SinkView → List (List ℕ) → List ℕ → List ℕ → List ℕ → Answer → Type 0
MeansRun shelf sink words kernel function arguments answer =
    IsRunTold shelf sink kernel function arguments answer ⊎ IsNotRun shelf sink words kernel function arguments answer
