-- What is kept of the bound variables that have numbers.
use Rattle.std.specs.Prelude.{ℕ, List, [], ◌∷◌}
use Rattle.hk_term.specs.declared.scope.Link.{Link}
use Rattle.hk_term.specs.declared.scope.Link.TheVariants.{Outermost, Within}

abbrev pub numbers_of : Link → List (ℕ × ℕ)
numbers_of Outermost = []
numbers_of (Within id number outer) = (id, number) ∷ outer.now
