use Rattle.std.proofs.Common.{◌≡◌, ◌+◌, ◌*◌, ◌≤◌}
use Rattle.hk_term.specs.Meaning.{Reading, value}
use Rattle.ir_layout.specs.Bytes.{number_at}
use Rattle.hk_symmem.specs.Origins.{cells, object_from}
use Rattle.hk_cells.specs.Growth.{Extends, IsWord}
use Rattle.hk_cells.proofs.cut.number_by_bytes.Given as goal

abbrev pub invariant-loop-byte : goal.invariant-loop-byte
invariant-loop-byte l = record {
  frame : Extends l.fn.t l.t;
  word : IsWord l.t (8 * l.byte) l.made;
  is : (v : Reading) → value l.fn.t l.fn.offset v + l.fn.bytes ≤ l.fn.size
      → value l.t l.made v ≡ number_at l.byte (value l.fn.t l.fn.offset v) (object_from (cells l.fn.size l.fn.cell) (v.entry l.fn.array));
}
