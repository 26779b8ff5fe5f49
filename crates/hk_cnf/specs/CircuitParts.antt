-- What holds of each circuit: gates stand in the order of their variables, and each has its clauses at its place.
use Rattle.std.specs.Prelude.{◌≡◌, ℕ, ◌<◌, ◌≤◌, ◌^◌, List, [], ◌∷◌, length, take, drop, ℤ, reverse}
use Rattle.std.specs.List.{All, AllPairs}
use Rattle.hk_cnf.specs.Clauses.{AreWithin}
use Rattle.hk_cnf.specs.Circuit.{Gate, Circuit, AreOperands, gate_clauses, clauses_end}

-- newest first: each gate fixes a variable below n that is later than those of its operands and of all earlier gates
abbrev pub InOrder : ℕ → List Gate → Type 0
InOrder n [] = Unit {0}
InOrder n (g ∷ gs) = (g.1.output < n) × AreOperands g.1.output g.0 × InOrder g.1.output gs

-- the gate's clauses stand at its place
pub record HasClauses (clauses : List (List ℤ)) (g : Gate) : Type 0 where
  pub there : take (length (gate_clauses g)) (drop g.1.clause clauses) ≡ gate_clauses g
  pub inside : clauses_end g ≤ length clauses

pub record IsCircuit (c : Circuit) : Type 0 where
  pub few : c.vars < 2 ^ 63
  pub within : AreWithin c.vars c.clauses
  pub in_order : InOrder c.vars (reverse c.gates)
  pub placed : All (HasClauses c.clauses) c.gates
  pub apart : AllPairs (λ g h. clauses_end g ≤ h.1.clause) c.gates

-- the gate speaks of the first variables alone
pub record IsGateWithin (vars : ℕ) (g : Gate) : Type 0 where
  pub output : g.1.output < vars
  pub operands : AreOperands vars g.0
