use Rattle.std.proofs.Common.{◌||◌, Bool, drop}
use Rattle.hk_term.specs.Meaning.{Reading}
use Rattle.ir_machine.specs.Values as machine
use Rattle.hk_symvalue.specs.Growth.{Extends}
use Rattle.hk_symvalue.specs.Meaning.{IsTruth, is_true}
use Rattle.hk_symmem.specs.Guarded.{memory_at}
use Rattle.hk_symstep.specs.Files.{registers_of}
use Rattle.hk_symstep.specs.Steps.{AnswersPasses}
use Rattle.hk_symstep.proofs.arguments.poisoned.Given as goal

abbrev pub invariant-loop-argument : goal.invariant-loop-argument
invariant-loop-argument g l = record {
  frame : Extends l.fn.t l.t;
  truth : IsTruth l.t l.stuck;
  rest : (v : Reading) (s : Bool) → AnswersPasses s (machine.arguments_pass (memory_at l.fn.t l.memory v) (registers_of l.fn.t v l.file) (drop l.argument-index l.arguments))
      → AnswersPasses (is_true l.t l.stuck v || s) (machine.arguments_pass (memory_at l.fn.t l.memory v) (registers_of l.fn.t v l.file) l.arguments);
}
