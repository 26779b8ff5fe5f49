use Rattle.std.proofs.Common.{◌≡◌}
use Rattle.hk_term.specs.Meaning.{Reading, value}
use Rattle.hk_symvalue.specs.Growth.{Extends}
use Rattle.hk_symvalue.specs.Meaning.{is_true}
use Rattle.hk_symmem.specs.Guarded.{memory_at, IsOver}
use Rattle.hk_symaccess.specs.Accesses.{written_up_to}
use Rattle.hk_symaccess.proofs.stores.write_any.Given as goal

abbrev pub invariant-loop-object : goal.invariant-loop-object
invariant-loop-object g l = record {
  frame : Extends l.fn.t l.t;
  origins : l.memory.origins ≡ l.fn.memory.origins;
  over : IsOver l.t l.memory;
  is : (v : Reading) → memory_at l.t l.memory v
      ≡ written_up_to l.object (is_true l.fn.t l.write.go v) (memory_at l.fn.t l.fn.memory v) (value l.fn.t l.write.at.base v) (value l.fn.t l.write.at.offset v) l.write.at.bytes (value l.fn.t l.write.number v);
}
