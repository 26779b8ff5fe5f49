-- What the parts of a run and of a transition tell, from what was told of each.
use Rattle.std.proofs.Common.{ℕ, List, ◌∙◌}
use Rattle.hk_term.specs.Meaning.{Reading}
use Rattle.hk_term.specs.declared.node.Node.{Node}
use Rattle.ir_ast.specs.Program.{ModuleView}
use Rattle.ir_kernel.specs.declared.ends.RunEnd.{RunEnd}
use Rattle.ir_kernel.specs.declared.ends.RunEnd.TheVariants.{Returned, Stuck, Lost}
use Rattle.hk_symvalue.specs.Growth.{Extends}
use Rattle.hk_symvalue.specs.Meaning.{IsTruth}
use Rattle.hk_symmem.specs.Guarded.{MemoryView}
use Rattle.spec_tree.specs.Plain.{Transition, Spec}
use Rattle.spec_tree.specs.Meaning.{Memory}
use Rattle.spec_tree.specs.Sorted.{field_sorts}
use Rattle.hk_symmem.specs.Origins.{Origin, start_memory}
use Rattle.hk_symspec.specs.States.{free_state}
use Rattle.hk_case.specs.declared.Obligation.{Obligation}
use Rattle.hk_case.specs.declared.Obligation.TheVariants as owed
use Rattle.hk_case.specs.Obligations.{IsObligation}
use Rattle.hk_case.specs.Violation.{specified}
use Rattle.hk_oblig.specs.declared.parts.RunParts.{RunParts}
use Rattle.hk_oblig.specs.Telling.{TellsEnd, TellsRun, TellsStep}
use Rattle.hk_oblig.specs.declared.parts.StepParts.{StepParts}
use Rattle.hk_oblig.specs.declared.parts.Parts.TheVariants.{Run, Step}
use Rattle.hk_oblig.specs.Cases.{arguments_at}
use Rattle.hk_oblig.specs.GoalTruths.{HasGoal}
use Rattle.hk_oblig.specs.Asking.{IsOfRun, IsReady, IsTermOf}
use Rattle.hk_oblig.specs.Under.{IsMemoryAt, TellBehind, TellFirst, TellOut, TellOutEnd}
use Rattle.hk_oblig.proofs.Growing.{true_stays, result_stays}

module _ (m : ModuleView) (old new : List Node) (grown : Extends old new) (v : Reading) (p : RunParts) (s : Spec) (t : Transition) (memory : Memory) (args : List ℕ) (behind : MemoryView) where
  end_told : IsTruth old p.undefined → IsTermOf old p.result
      → ((after : Memory) → IsMemoryAt old behind v after → TellBehind new v s after (specified s t memory args) p.kept p.agree)
      → (end : RunEnd) → TellOutEnd old v p.undefined p.result behind end → TellsEnd new v p s t memory args end
  end_told u r told (Returned returned after) h =
      let b = told after h.1 in
      record { defined = true_stays old new grown p.undefined u v ∙ h.0; kept = b.kept; agree = b.agree; result = result_stays old new grown v p.result returned r h.2 }
  end_told u r told (Stuck reason line) h = true_stays old new grown p.undefined u v ∙ h
  end_told u r told Lost h = h

  pub run_told : IsTruth old p.undefined → IsTermOf old p.result → TellFirst new v s memory (specified s t memory args) p.invariants p.valid p.wanted
      → TellOut m old v t.function memory args p.undefined p.result behind
      → ((after : Memory) → IsMemoryAt old behind v after → TellBehind new v s after (specified s t memory args) p.kept p.agree)
      → TellsRun m new v p s t memory args
  run_told u r first out told = record {
    invariants = first.invariants;
    ends = out.ends;
    end = λ e is. end_told u r told e (out.end e is);
    valid = first.valid;
    wanted = first.wanted;
  }

-- ---- ready for obligations

module _ (m : ModuleView) (origins : List Origin) (s : Spec) (t : Transition) (nodes : List Node) (p : RunParts) where
  pub ready_run : (o : Obligation) → IsOfRun o → (IsObligation s t o → HasGoal nodes (Run p) o)
      → ((v : Reading) → TellsRun m nodes v p s t (start_memory origins v.entry) (arguments_at t.widths v.var)) → IsReady m origins s t (record { terms = nodes; parts = Run p }) o
  ready_run owed.Undefined run goal told = record { goal = goal; told = told }
  ready_run (owed.Invariant i) run goal told = record { goal = goal; told = told }
  ready_run (owed.State f) run goal told = record { goal = goal; told = told }
  ready_run owed.ResultValue run goal told = record { goal = goal; told = told }
  ready_run (owed.Property k) run goal told = absurd run

pub ready_step : (m : ModuleView) (origins : List Origin) (s : Spec) (t : Transition) (nodes : List Node) (p : StepParts) (k : ℕ) → (IsObligation s t (owed.Property k) → HasGoal nodes (Step p) (owed.Property k))
    → ((v : Reading) → TellsStep nodes v p s t (free_state 0 (field_sorts s) v.entry) (arguments_at t.widths v.var)) → IsReady m origins s t (record { terms = nodes; parts = Step p }) (owed.Property k)
ready_step m origins s t nodes p k goal told = record { goal = goal; told = told }
