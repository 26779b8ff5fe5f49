use Rattle.std.proofs.Common.{◌≡◌, ℕ, ◌<◌, List, Some}
use Rattle.std.specs.List.{All, slice_get}
use Rattle.hk_term.specs.declared.bounds.Bound.{Bound}
use Rattle.hk_term.specs.declared.node.Node.TheVariants.{ForAll}
use Rattle.hk_copy.specs.Stands.{IsApart}
use Rattle.hk_term_tests.proofs.copies.is_ready.Given as goal

abbrev pub invariant-loop-k : goal.invariant-loop-k
invariant-loop-k l =
    (j : ℕ) (bound : List Bound) (body : ℕ) → j < l.k → slice_get l.terms j ≡ Some (ForAll bound body) → All (λ e. IsApart bound e.1) l.stands
