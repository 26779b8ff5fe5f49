use Rattle.std.proofs.Common.{◌≡◌, ℕ, ◌<◌, ◌≤◌, ◌^◌, Some, length, map, drop}
use Rattle.hk_term.specs.Shape.{width, Grows}
use Rattle.hk_term.specs.Meaning.{Reading, value}
use Rattle.spec_tree.specs.Value.{place_behind}
use Rattle.spec_tree.specs.View.{view_key}
use Rattle.hk_symexpr.specs.Naming.{index_values}
use Rattle.hk_symspec.proofs.bases.place_of.Given as goal

abbrev pub invariant-each : goal.invariant-each
invariant-each l = record {
  within : l.made < length l.t;
  size : width l.t l.made ≡ 64;
  place : (v : Reading) (p : ℕ) → place_behind 0 (map view_key l.keys) (index_values l.fn.t l.index v) ≡ Some p → p < 2 ^ 64
      → place_behind (value l.t l.made v) (drop l.k (map view_key l.keys)) (index_values l.fn.t (drop l.k l.index) v) ≡ Some p;
  keeps_widths : (k : ℕ) → k < length l.fn.t → width l.t k ≡ width l.fn.t k;
  keeps_values : (k : ℕ) → k < length l.fn.t → (v : Reading) → value l.t k v ≡ value l.fn.t k v;
  longer : length l.fn.t ≤ length l.t;
  grows : Grows l.fn.t l.t;
}
