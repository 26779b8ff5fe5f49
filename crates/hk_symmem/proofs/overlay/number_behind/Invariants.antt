use Rattle.std.proofs.Common.{◌≡◌, ℕ, ◌*◌, ◌<◌, ◌≤◌, List, length}
use Rattle.hk_term.specs.Shape.{width, Grows}
use Rattle.hk_term.specs.Meaning.{Reading, value}
use Rattle.ir_layout.specs.Bytes.{number_at}
use Rattle.hk_symmem.specs.Guarded.{after_write}
use Rattle.hk_symmem.specs.Reading.{IsRead}
use Rattle.hk_symmem.proofs.overlay.number_behind.Given as goal

abbrev pub invariant-loop-byte : goal.invariant-loop-byte
invariant-loop-byte l = record {
  within : l.made < length l.t;
  size : width l.t l.made ≡ 8 * l.byte;
  is : (v : Reading) (b : List ℕ) → IsRead (value l.fn.t l.fn.offset v) l.fn.bytes b (value l.fn.t l.fn.found v)
      → value l.t l.made v ≡ number_at l.byte (value l.fn.t l.fn.offset v) (after_write l.fn.t v l.fn.w b);
  keeps_widths : (k : ℕ) → k < length l.fn.t → width l.t k ≡ width l.fn.t k;
  keeps_values : (k : ℕ) → k < length l.fn.t → (v : Reading) → value l.t k v ≡ value l.fn.t k v;
  longer : length l.fn.t ≤ length l.t;
  grows : Grows l.fn.t l.t;
}
