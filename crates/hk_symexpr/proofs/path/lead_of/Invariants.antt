use Rattle.std.proofs.Common.{◌≡◌, ◌<◌, length, drop, true}
use Rattle.hk_term.specs.Shape.{width}
use Rattle.hk_term.specs.Meaning.{Reading, value}
use Rattle.spec_tree.specs.Value.{holds}
use Rattle.spec_tree.specs.View.{view_steps}
use Rattle.hk_symexpr.specs.Sources.{Keeps}
use Rattle.hk_symexpr.specs.Naming.{AreLimited, index_values}
use Rattle.hk_symexpr.specs.Paths.{AreIndexed, led}
use Rattle.hk_symexpr.proofs.path.lead_of.Given as goal

abbrev pub invariant-each : goal.invariant-each
invariant-each l = record {
  inside : l.lead.inside < length l.t;
  truth : width l.t l.lead.inside ≡ 1;
  offset : l.lead.offset < length l.t;
  address : width l.t l.lead.offset ≡ 64;
  keeps : Keeps l.fn.t l.t;
  left : AreIndexed l.fn.t (view_steps (drop l.k l.steps)) (drop l.k l.index);
  is : (v : Reading) → AreLimited l.fn.t l.index v
      → led true l.fn.base (view_steps l.steps) (index_values l.fn.t l.index v)
      ≡ led (holds (value l.t l.lead.inside v)) (value l.t l.lead.offset v) (view_steps (drop l.k l.steps)) (index_values l.fn.t (drop l.k l.index) v);
}
