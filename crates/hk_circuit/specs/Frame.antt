-- What stays as a circuit grows.
use Rattle.std.specs.Prelude.{◌≡◌, ◌≤◌, ◌<◌, ℕ, ℤ, Bool, List, All}
use Rattle.hk_cnf.specs.Literal.{IsWithin, place_of}
use Rattle.hk_cnf.specs.Circuit.{Circuit, gate_value}
use Rattle.hk_cnf.specs.CircuitGrowth.{IsGrown, inputs_of}
use Rattle.hk_circuit.specs.Words.{gate_number}

-- the circuit has no fewer variables, its earlier literals and words keep their values, it grew from whatever the old one grew from, and
-- its inputs are the same
pub record Frame (old new : Circuit) : Type 0 where
  pub vars : old.vars ≤ new.vars
  pub keeps : (l : ℤ) → place_of l < old.vars → (v : ℕ → Bool) → gate_value new l v ≡ gate_value old l v
  pub grows : (c : Circuit) → IsGrown c old → IsGrown c new
  pub inputs : inputs_of new ≡ inputs_of old
  pub keeps_words : (ls : List ℤ) → All (IsWithin old.vars) ls → (v : ℕ → Bool) → gate_number new ls v ≡ gate_number old ls v
