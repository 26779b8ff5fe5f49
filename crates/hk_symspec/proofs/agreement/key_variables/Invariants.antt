use Rattle.std.proofs.Common.{◌≡◌, ℕ, ◌<◌, ◌≤◌, length, map, take}
use Rattle.hk_term.specs.Shape.{width, Grows}
use Rattle.hk_term.specs.Meaning.{Reading, value}
use Rattle.spec_tree.specs.View.{view_key}
use Rattle.hk_symspec.specs.Standing.{formula_base}
use Rattle.hk_symspec.specs.Agreement.{AreKeyVariables}
use Rattle.hk_symspec.proofs.agreement.key_variables.Given as goal

abbrev pub invariant-each : goal.invariant-each
invariant-each l = record {
  variables : AreKeyVariables l.t formula_base (take l.k (map view_key l.keys)) l.made.items;
  keeps_widths : (k : ℕ) → k < length l.fn.t → width l.t k ≡ width l.fn.t k;
  keeps_values : (k : ℕ) → k < length l.fn.t → (v : Reading) → value l.t k v ≡ value l.fn.t k v;
  longer : length l.fn.t ≤ length l.t;
  grows : Grows l.fn.t l.t;
}
