use Rattle.std.proofs.Common.{◌≡◌, ℕ, ◌<◌, ◌≤◌, List, length}
use Rattle.std.specs.Prelude.{if◌then◌else◌, nat_eq, slice_index}
use Rattle.hk_term.specs.Shape.{width, Grows}
use Rattle.hk_term.specs.Meaning.{Reading, value}
use Rattle.hk_symmem.specs.Guarded.{with_bytes}
use Rattle.hk_symmem.proofs.overlay.byte_behind.Given as goal

abbrev pub invariant-loop-byte : goal.invariant-loop-byte
invariant-loop-byte l = record {
  within : l.made < length l.t;
  size : width l.t l.made ≡ 8;
  is : (v : Reading) (bytes : List ℕ) → value l.fn.t l.fn.place v < length bytes → value l.fn.t l.fn.found v ≡ slice_index bytes (value l.fn.t l.fn.place v)
      → value l.t l.made v ≡ (if nat_eq (value l.fn.t l.fn.w.guard v) 1 then slice_index (with_bytes l.byte (value l.fn.t l.fn.w.offset v) (value l.fn.t l.fn.w.value v) bytes) (value l.fn.t l.fn.place v) else slice_index bytes (value l.fn.t l.fn.place v));
  keeps_widths : (k : ℕ) → k < length l.fn.t → width l.t k ≡ width l.fn.t k;
  keeps_values : (k : ℕ) → k < length l.fn.t → (v : Reading) → value l.t k v ≡ value l.fn.t k v;
  longer : length l.fn.t ≤ length l.t;
  grows : Grows l.fn.t l.t;
}
