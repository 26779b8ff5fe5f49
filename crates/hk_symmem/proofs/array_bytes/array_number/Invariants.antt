use Rattle.std.proofs.Common.{◌≡◌, ℕ, ◌+◌, ◌*◌, ◌<◌, ◌≤◌, length}
use Rattle.hk_term.specs.Shape.{width, Grows}
use Rattle.hk_term.specs.Meaning.{Reading, value}
use Rattle.ir_layout.specs.Bytes.{number_at}
use Rattle.hk_symmem.specs.Origins.{cells, object_from}
use Rattle.hk_symmem.proofs.array_bytes.array_number.Given as goal

abbrev pub invariant-loop-byte : goal.invariant-loop-byte
invariant-loop-byte l = record {
  within : l.made < length l.t;
  bits : width l.t l.made ≡ 8 * l.byte;
  is : (v : Reading) → value l.fn.t l.fn.offset v + l.fn.bytes ≤ l.fn.size
      → value l.t l.made v ≡ number_at l.byte (value l.fn.t l.fn.offset v) (object_from (cells l.fn.size 1) (v.entry l.fn.array));
  keeps_widths : (k : ℕ) → k < length l.fn.t → width l.t k ≡ width l.fn.t k;
  keeps_values : (k : ℕ) → k < length l.fn.t → (v : Reading) → value l.t k v ≡ value l.fn.t k v;
  longer : length l.fn.t ≤ length l.t;
  grows : Grows l.fn.t l.t;
}
