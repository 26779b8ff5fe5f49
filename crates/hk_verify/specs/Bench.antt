-- What an answer to `bench N` means: the counts of right verdicts for the generated texts, or the cause of a fault.

use Rattle.std.specs.Prelude.{ℕ, ◌≡◌, ◌⊎◌, List, [], ◌∷◌, Option, Some, None, Err, codes, length, count_by, if◌then◌else◌}
use Rattle.std.specs.List.{flat_map, list_any}
use Rattle.std.specs.Fmt.{decimal}
use Rattle.hk_io.specs.Faults.{Rose}
use Rattle.hk_io.specs.Shown.{shown_with, ShowsPrefix}
use Rattle.ir_ast.specs.Program.{ModuleView}
use Rattle.spec_tree.specs.Plain.{Spec}
use Rattle.hk_gen.specs.Workload.{kernel_text, spec_text}
use Rattle.hk_rows.specs.Texts.{line}
use Rattle.hk_verdict.specs.declared.verdict.Verdict.{Verdict}
use Rattle.hk_verdict.specs.declared.verdict.InitVerdict.TheVariants.{NotRun}
use Rattle.hk_verify.specs.declared.kinds.Counts.{Counts}
use Rattle.hk_verify.specs.declared.answer.Answer.{Answer}
use Rattle.hk_verify.specs.declared.answer.TopFault.{TopFault}
use Rattle.hk_verify.specs.declared.answer.TopFault.TheVariants.{Usage, Read, Long, Kernel as OfKernel, Spec as OfSpec, Cert as OfCert, Cnf as OfCnf, Call as OfCall, Memory, Write}
use Rattle.hk_verify.specs.Words.{usual_conflicts}
use Rattle.hk_verify.specs.Whole.{IsWhole}
use Rattle.hk_verify.specs.Specifications.{IsTheSpec}
use Rattle.hk_verify.specs.Inputs.{ReadsTo}
use Rattle.hk_verify.specs.Lines.{is_acceptance, is_rejection, is_unknown, is_memory}
use Rattle.hk_verify.specs.Verdicts.{AreRight}
use Rattle.hk_verify.specs.Answers.{SinkView, IsRefused}

-- A word and a number, on a line.
abbrev pub count_line : List ℕ × ℕ → List ℕ
count_line count = line (count.0 ∷ decimal count.1 ∷ [])

-- How many verdicts there are, and how many of each kind.
abbrev pub counts_of : List Verdict → Counts
counts_of verdicts = record {
  handlers = length verdicts;
  accepted = count_by is_acceptance verdicts;
  rejected = count_by is_rejection verdicts;
  unknown = count_by is_unknown verdicts;
  memory = count_by is_memory verdicts;
}

-- The rows of counts in their order, a word and a number each.
abbrev pub count_rows : Counts → List (List ℕ × ℕ)
count_rows counts =
    (codes "handlers ", counts.handlers)
    ∷ (codes "accept ", counts.accepted)
    ∷ (codes "reject ", counts.rejected)
    ∷ (codes "unknown ", counts.unknown)
    ∷ (codes "memory ", counts.memory)
    ∷ []

-- Their lines.
abbrev pub counts_text : Counts → List ℕ
counts_text counts = flat_map count_line (count_rows counts)

-- The lines of a workload.
abbrev pub bench_text : List Verdict → List ℕ
bench_text verdicts = counts_text (counts_of verdicts)

-- The status of a workload whose lines are shown: a rejection and a handler that was not decided are counts like any other.
abbrev pub bench_status : List Verdict → ℕ
bench_status verdicts = if list_any is_memory verdicts then 7 else 0

-- The lines are shown whole.
pub record IsCounted (sink : SinkView) (answer : Answer) : Type 0 where
  pub says : sink.shown' ≡ shown_with sink.shown (bench_text answer.verdicts)
  pub still : sink.faults' ≡ sink.faults
  pub status : answer.status ≡ bench_status answer.verdicts

-- The put of a line failed, and nothing was put behind it.
pub record IsUncounted (sink : SinkView) (answer : Answer) : Type 0 where
  pub failed : Rose sink.faults sink.faults'
  pub cut : ShowsPrefix sink.shown sink.shown' (bench_text answer.verdicts)
  pub status : answer.status ≡ 6

-- What counting the verdicts leaves, by the answer's fault.
abbrev pub CountsWith : SinkView → Answer → Option TopFault → Type 0
CountsWith sink answer None = IsCounted sink answer
CountsWith sink answer (Some Write) = IsUncounted sink answer
CountsWith sink answer (Some Usage) = ⊥
CountsWith sink answer (Some (Read w)) = ⊥
CountsWith sink answer (Some (Long w)) = ⊥
CountsWith sink answer (Some (OfKernel f)) = ⊥
CountsWith sink answer (Some (OfSpec f)) = ⊥
CountsWith sink answer (Some (OfCert f)) = ⊥
CountsWith sink answer (Some (OfCnf f)) = ⊥
CountsWith sink answer (Some (OfCall f)) = ⊥
CountsWith sink answer (Some Memory) = ⊥

-- Right verdicts for the kernel and the specification that the generated texts spell, one for each handler in order.
pub record AreDecided (n : ℕ) (verdicts : List Verdict) : Type 0 where
  pub module_ : ModuleView
  pub spec : Spec
  pub the_kernel : IsWhole (kernel_text n) module_
  pub the_spec : IsTheSpec module_ (spec_text n) spec
  pub right : AreRight usual_conflicts module_ spec spec.transitions verdicts

-- Why the call ended before its first line: the refusal of a generated text, as for one that is loaded, or want of memory.
abbrev pub HasBenchCause : ℕ → TopFault → Type 0
HasBenchCause n fault = ReadsTo (kernel_text n) (spec_text n) (Err fault)

-- The workload was decided, and its counts put.
pub record IsBenched (sink : SinkView) (n : ℕ) (answer : Answer) : Type 0 where
  pub decided : AreDecided n answer.verdicts
  pub counts : CountsWith sink answer answer.fault
  pub init : answer.init ≡ NotRun

-- The call ended before its first line, with a fault that has its cause.
pub record IsUnbenched (sink : SinkView) (words : List (List ℕ)) (n : ℕ) (answer : Answer) : Type 0 where
  pub fault : TopFault
  pub is_fault : answer.fault ≡ Some fault
  pub cause : HasBenchCause n fault
  pub refused : IsRefused sink words fault answer

-- What the answer to `bench N` means.
abbrev pub MeansBench : SinkView → List (List ℕ) → ℕ → Answer → Type 0
MeansBench sink words n answer = IsBenched sink n answer ⊎ IsUnbenched sink words n answer
