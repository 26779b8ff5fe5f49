use Rattle.std.proofs.Common.{◌≡◌, ◌+◌, ◌*◌, ◌/◌, ◌%◌, ◌≤◌, length}
use Rattle.hk_term.specs.Inputs.{inputs_in}
use Rattle.hk_term.specs.Meaning.{Reading, value}
use Rattle.ir_layout.specs.Bytes.{number_at}
use Rattle.hk_symmem.specs.Origins.{cells, object_from}
use Rattle.hk_cells.specs.Growth.{Extends, IsWord}
use Rattle.hk_cells.proofs.wholes.number_by_cells.Given as goal

abbrev pub invariant-loop-k : goal.invariant-loop-k
invariant-loop-k l = record {
  frame : Extends l.fn.t l.t;
  few : length (inputs_in l.t) ≤ length (inputs_in l.fn.t) + l.k;
  word : IsWord l.t (8 * (l.fn.cell * l.k)) l.made;
  index : IsWord l.t 64 l.index;
  at : (v : Reading) → value l.t l.index v ≡ value l.fn.t l.fn.offset v / l.fn.cell;
  is : (v : Reading) → value l.fn.t l.fn.offset v % l.fn.cell ≡ 0 → value l.fn.t l.fn.offset v + l.fn.bytes ≤ l.fn.size
      → value l.t l.made v ≡ number_at (l.fn.cell * l.k) (value l.fn.t l.fn.offset v) (object_from (cells l.fn.size l.fn.cell) (v.entry l.fn.array));
}
