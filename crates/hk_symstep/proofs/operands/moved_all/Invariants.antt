use Rattle.std.proofs.Common.{◌≡◌, drop}
use Rattle.std.specs.Prelude.{Some}
use Rattle.hk_term.specs.Meaning.{Reading}
use Rattle.ir_machine.specs.Values as machine
use Rattle.hk_symvalue.specs.Growth.{Extends}
use Rattle.hk_symvalue.specs.Meaning.{IsSym, meaning}
use Rattle.hk_symmem.specs.Guarded.{memory_at}
use Rattle.hk_symstep.specs.Files.{registers_of}
use Rattle.hk_symstep.proofs.operands.moved_all.Given as goal

abbrev pub invariant-loop-by : goal.invariant-loop-by
invariant-loop-by g l = record {
  frame : Extends l.fn.t l.t;
  within : IsSym l.t l.value;
  rest : (v : Reading) → machine.moved_all (memory_at l.fn.t l.memory v) (registers_of l.fn.t v l.file) (Some (meaning l.t l.value v)) (drop l.by-index l.moves)
      ≡ machine.moved_all (memory_at l.fn.t l.memory v) (registers_of l.fn.t v l.file) (Some (meaning l.fn.t l.fn.base v)) l.moves;
}
