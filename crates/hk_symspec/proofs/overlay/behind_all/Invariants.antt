use Rattle.std.proofs.Common.{◌≡◌, ℕ, ◌<◌, ◌≤◌, length, drop}
use Rattle.std.specs.Prelude.{slice_index_or}
use Rattle.hk_term.specs.Shape.{width, Grows}
use Rattle.hk_term.specs.Meaning.{Reading, value}
use Rattle.spec_tree.specs.Sorted.{field_sorts, no_field}
use Rattle.spec_tree.specs.View.{view_spec}
use Rattle.spec_tree.specs.Meaning.{State}
use Rattle.hk_symexpr.specs.Naming.{index_values}
use Rattle.hk_symspec.specs.States.{after_writes}
use Rattle.hk_symspec.specs.Ranges.{IsEntry, IsLong}
use Rattle.hk_symspec.proofs.OverlayLaws.{Overlaid}
use Rattle.hk_symspec.proofs.overlay.behind_all.Given as goal

abbrev pub invariant-each : goal.invariant-each
invariant-each l = record {
  within : l.made < length l.t;
  size : width l.t l.made ≡ (slice_index_or (field_sorts (view_spec l.spec)) l.field no_field).width;
  overlaid : (v : Reading) (state : State) → IsLong (field_sorts (view_spec l.spec)) state → IsEntry (field_sorts (view_spec l.spec)) l.field (index_values l.fn.t l.index v) state (value l.fn.t l.fn.found v)
      → Overlaid (field_sorts (view_spec l.spec)) l.fn.t v l.field (index_values l.fn.t l.index v) (drop l.w-index l.writes) (value l.t l.made v) (after_writes (field_sorts (view_spec l.spec)) l.fn.t v l.writes state);
  keeps_widths : (k : ℕ) → k < length l.fn.t → width l.t k ≡ width l.fn.t k;
  keeps_values : (k : ℕ) → k < length l.fn.t → (v : Reading) → value l.t k v ≡ value l.fn.t k v;
  longer : length l.fn.t ≤ length l.t;
  grows : Grows l.fn.t l.t;
}
