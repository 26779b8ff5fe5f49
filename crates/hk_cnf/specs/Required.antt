-- The clauses of a circuit that are of no gate, in their order.
use Rattle.std.specs.Prelude.{ℕ, ◌-◌, List, [], ◌∷◌, ◌++◌, take, drop, ℤ}
use Rattle.hk_cnf.specs.Circuit.{Gate, Circuit, clauses_end}

-- from a place on, those before, between and behind the clauses of these gates
abbrev pub required_from : ℕ → List (List ℤ) → List Gate → List (List ℤ)
required_from k clauses [] = drop k clauses
required_from k clauses (g ∷ gs) = take (g.1.clause - k) (drop k clauses) ++ required_from (clauses_end g) clauses gs

unfoldable pub required_of : Circuit → List (List ℤ)
required_of c = required_from 0 c.clauses c.gates
