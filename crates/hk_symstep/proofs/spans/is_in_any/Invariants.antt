use Rattle.std.proofs.Common.{◌≡◌, take}
use Rattle.hk_term.specs.Meaning.{Reading, value}
use Rattle.ir_machine.specs.Values as machine
use Rattle.hk_symvalue.specs.Growth.{Extends}
use Rattle.hk_symvalue.specs.Meaning.{IsTruth, is_true}
use Rattle.hk_symstep.proofs.spans.is_in_any.Given as goal

abbrev pub invariant-loop-span : goal.invariant-loop-span
invariant-loop-span l = record {
  frame : Extends l.fn.t l.t;
  truth : IsTruth l.t l.found;
  so_far : (v : Reading) → is_true l.t l.found v ≡ machine.is_in_any l.width (value l.fn.t l.n v) (take l.span-index l.spans);
}
