use Rattle.std.proofs.Common.{◌≡◌, ℕ, ◌*◌, ◌<◌, ◌≤◌, List, length, take}
use Rattle.hk_term.specs.Shape.{width, Grows}
use Rattle.hk_term.specs.Meaning.{Reading, value}
use Rattle.hk_symmem.specs.Guarded.{after_writes}
use Rattle.hk_symmem.specs.Reading.{IsRead}
use Rattle.hk_symmem.proofs.fold.behind_all.Given as goal

abbrev pub invariant-loop-w : goal.invariant-loop-w
invariant-loop-w l = record {
  within : l.made < length l.t;
  size : width l.t l.made ≡ 8 * l.fn.bytes;
  is : (v : Reading) (b : List ℕ) → IsRead (value l.fn.t l.fn.offset v) l.fn.bytes b (value l.fn.t l.fn.found v)
      → IsRead (value l.fn.t l.fn.offset v) l.fn.bytes (after_writes l.fn.t v (take l.w-index l.writes) b) (value l.t l.made v);
  keeps_widths : (k : ℕ) → k < length l.fn.t → width l.t k ≡ width l.fn.t k;
  keeps_values : (k : ℕ) → k < length l.fn.t → (v : Reading) → value l.t k v ≡ value l.fn.t k v;
  longer : length l.fn.t ≤ length l.t;
  grows : Grows l.fn.t l.t;
}
