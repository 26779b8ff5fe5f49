use Rattle.std.proofs.Common.{◌≡◌, ℕ, ◌<◌, ◌≤◌, length, map}
use Rattle.hk_term.specs.Shape.{width, Grows}
use Rattle.hk_term.specs.Meaning.{Reading, value}
use Rattle.spec_tree.specs.View.{view_key}
use Rattle.hk_symexpr.specs.Naming.{AreLimited}
use Rattle.hk_symspec.proofs.IndexLaws.{Tests}
use Rattle.hk_symspec.proofs.indices.are_below.Given as goal

abbrev pub invariant-each : goal.invariant-each
invariant-each l = record {
  within : l.made < length l.t;
  size : width l.t l.made ≡ 1;
  tests : (v : Reading) → AreLimited l.fn.t l.index v → Tests l.fn.t (map view_key l.keys) l.index l.k v (value l.t l.made v);
  keeps_widths : (k : ℕ) → k < length l.fn.t → width l.t k ≡ width l.fn.t k;
  keeps_values : (k : ℕ) → k < length l.fn.t → (v : Reading) → value l.t k v ≡ value l.fn.t k v;
  longer : length l.fn.t ≤ length l.t;
  grows : Grows l.fn.t l.t;
}
