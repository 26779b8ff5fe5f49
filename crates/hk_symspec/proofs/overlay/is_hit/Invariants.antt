use Rattle.std.proofs.Common.{◌≡◌, ℕ, ◌<◌, ◌≤◌, Bool, length}
use Rattle.hk_term.specs.Operations.{bit}
use Rattle.hk_term.specs.Shape.{width, Grows}
use Rattle.hk_term.specs.Meaning.{Reading, value}
use Rattle.hk_symspec.proofs.OverlayLaws.{Matches}
use Rattle.hk_symspec.proofs.overlay.is_hit.Given as goal

abbrev pub invariant-each : goal.invariant-each
invariant-each l = record {
  within : l.made < length l.t;
  size : width l.t l.made ≡ 1;
  matches : (v : Reading) (p : Bool) → value l.fn.t l.fn.guard v ≡ bit p → Matches l.fn.t l.index l.other l.k v p (value l.t l.made v);
  keeps_widths : (k : ℕ) → k < length l.fn.t → width l.t k ≡ width l.fn.t k;
  keeps_values : (k : ℕ) → k < length l.fn.t → (v : Reading) → value l.t k v ≡ value l.fn.t k v;
  longer : length l.fn.t ≤ length l.t;
  grows : Grows l.fn.t l.t;
}
