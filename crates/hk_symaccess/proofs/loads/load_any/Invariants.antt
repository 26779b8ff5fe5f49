use Rattle.std.proofs.Common.{◌≡◌, ◌<◌, ◌+◌, ◌-◌, ◌*◌}
use Rattle.hk_term.specs.Meaning.{Reading, value}
use Rattle.ir_layout.specs.Bytes.{object_of, number_at}
use Rattle.hk_symvalue.specs.Growth.{Extends}
use Rattle.hk_symvalue.specs.Meaning.{IsWord}
use Rattle.hk_symmem.specs.Guarded.{memory_at, IsOver}
use Rattle.hk_symaccess.specs.Accesses.{LiesAt}
use Rattle.hk_symaccess.proofs.loads.load_any.Given as goal

abbrev pub invariant-loop-object : goal.invariant-loop-object
invariant-loop-object g l = record {
  frame : Extends l.fn.t l.t;
  over : IsOver l.t l.memory;
  word : IsWord l.t (8 * l.at.bytes) l.made;
  is : (v : Reading) → LiesAt (memory_at l.fn.t l.memory v) (value l.fn.t l.at.base v) (value l.fn.t l.at.offset v) l.at.bytes → value l.fn.t l.at.base v < l.object + 2
      → value l.t l.made v ≡ number_at l.at.bytes (value l.fn.t l.at.offset v) (object_of (memory_at l.fn.t l.memory v) (value l.fn.t l.at.base v - 2));
}
