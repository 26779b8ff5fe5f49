use Rattle.std.proofs.Common.{◌≡◌, ◌<◌, ◌+◌, ◌*◌, List, length, take, drop, All}
use Rattle.hk_term.specs.Shape.{width}
use Rattle.hk_term.specs.Meaning.{Reading}
use Rattle.hk_term.specs.declared.node.Node.{Node}
use Rattle.spec_tree.specs.View.{view_exprs, view_steps}
use Rattle.spec_tree.specs.Sorted.{AreTruths, AreSteps}
use Rattle.hk_symexpr.specs.Sources.{Source, Keeps}
use Rattle.hk_symexpr.specs.Scope.{scope_of}
use Rattle.hk_symexpr.specs.Naming.{context_of}
use Rattle.hk_symexpr.specs.Made.{Lasts, AreLimitsOf, IsAllOf, IsAnyOf, AreSorted, step_trees}
use Rattle.hk_symexpr.proofs.build.+term.Given as goal

abbrev pub decreases-term : goal.decreases-term
decreases-term g l = 4 * goal.size-term g l + 1

abbrev pub decreases-build : goal.decreases-build
decreases-build g l = 4 * goal.size-build g l

abbrev pub decreases-term_knowing : goal.decreases-term_knowing
decreases-term_knowing g l = 4 * goal.size-term_knowing g l + 2

abbrev pub decreases-term_where : goal.decreases-term_where
decreases-term_where g l = 4 * goal.size-term_where g l + 3

abbrev pub decreases-limited : goal.decreases-limited
decreases-limited g l = 4 * goal.size-limited g l + 2

abbrev pub decreases-indices : goal.decreases-indices
decreases-indices g l = 4 * goal.size-indices g l

abbrev pub decreases-step_indices : goal.decreases-step_indices
decreases-step_indices g l = 4 * goal.size-step_indices g l

abbrev pub decreases-entry : goal.decreases-entry
decreases-entry g l = 4 * goal.size-entry g l + 1

abbrev pub decreases-load : goal.decreases-load
decreases-load g l = 4 * goal.size-load g l

abbrev pub decreases-all_hold : goal.decreases-all_hold
decreases-all_hold g l = 4 * goal.size-all_hold g l

abbrev pub decreases-some_hold : goal.decreases-some_hold
decreases-some_hold g l = 4 * goal.size-some_hold g l

abbrev pub decreases-body : goal.decreases-body
decreases-body g l = 4 * goal.size-body g l + 2

abbrev pub invariant-indices-each : goal.invariant-indices-each
invariant-indices-each g l = record {
  keeps : Keeps l.fn.t l.t;
  sorted : AreSorted (context_of (g.R.SymReads.named l.reads) (scope_of l.names)) (view_exprs (drop l.e-index l.items));
  limits : (base : Reading → Source) (old : List Node) → Lasts base old (g.R.SymReads.source l.reads l.fn.t) l.fn.t (scope_of l.names) → AreLimitsOf base (context_of (g.R.SymReads.named l.reads) (scope_of l.names)) old (scope_of l.names) l.t l.made.items (view_exprs (take l.e-index l.items));
}

abbrev pub invariant-step_indices-each : goal.invariant-step_indices-each
invariant-step_indices-each g l = record {
  keeps : Keeps l.fn.t l.t;
  sorted : AreSteps (context_of (g.R.SymReads.named l.reads) (scope_of l.names)) (view_steps (drop l.step-index l.items));
  limits : (base : Reading → Source) (old : List Node) → Lasts base old (g.R.SymReads.source l.reads l.fn.t) l.fn.t (scope_of l.names) → AreLimitsOf base (context_of (g.R.SymReads.named l.reads) (scope_of l.names)) old (scope_of l.names) l.t l.made.items (step_trees (view_steps (take l.step-index l.items)));
}

abbrev pub invariant-all_hold-each : goal.invariant-all_hold-each
invariant-all_hold-each g l = record {
  keeps : Keeps l.fn.t l.t;
  within : l.made < length l.t;
  truth : width l.t l.made ≡ 1;
  known : All (λ k. k.term < length l.t) l.known.items;
  sorted : AreTruths (context_of (g.R.SymReads.named l.reads) (scope_of l.names)) (view_exprs (drop l.e-index l.items));
  all : (base : Reading → Source) (old : List Node) → Lasts base old (g.R.SymReads.source l.reads l.fn.t) l.fn.t (scope_of l.names) → IsAllOf base (context_of (g.R.SymReads.named l.reads) (scope_of l.names)) old (scope_of l.names) l.t l.made l.known.items (view_exprs (take l.e-index l.items));
}

abbrev pub invariant-some_hold-each : goal.invariant-some_hold-each
invariant-some_hold-each g l = record {
  keeps : Keeps l.fn.t l.t;
  within : l.made < length l.t;
  truth : width l.t l.made ≡ 1;
  sorted : AreTruths (context_of (g.R.SymReads.named l.reads) (scope_of l.names)) (view_exprs (drop l.e-index l.items));
  any : (base : Reading → Source) (old : List Node) → Lasts base old (g.R.SymReads.source l.reads l.fn.t) l.fn.t (scope_of l.names) → IsAnyOf base (context_of (g.R.SymReads.named l.reads) (scope_of l.names)) old (scope_of l.names) l.t l.made (view_exprs (take l.e-index l.items));
}
