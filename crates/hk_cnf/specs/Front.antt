-- What stood before more was added, and what is asked so that a circuit is cut back to it.
use Rattle.std.specs.Prelude.{◌≡◌, ℕ, ◌≤◌, ◌<◌, Bool, length, take, drop, ℤ}
use Rattle.std.specs.List.{All}
use Rattle.hk_cnf.specs.Literal.{place_of}
use Rattle.hk_cnf.specs.Clauses.{AreWithin}
use Rattle.hk_cnf.specs.Circuit.{Circuit, gate_value, clauses_end}
use Rattle.hk_cnf.specs.CircuitParts.{IsGateWithin}

-- the first circuit stands at the front of the second: variables, clauses of any kind and gates are added at its end, and its literals keep their values
pub record IsFront (front whole : Circuit) : Type 0 where
  pub vars : front.vars ≤ whole.vars
  pub values : (l : ℤ) → place_of l < front.vars → (v : ℕ → Bool) → gate_value whole l v ≡ gate_value front l v
  pub clauses : take (length front.clauses) whole.clauses ≡ front.clauses
  pub gates : take (length front.gates) whole.gates ≡ front.gates

-- all that a cut to so many variables, clauses and gates asks of a circuit
pub record CanCut (v k n : ℕ) (c : Circuit) : Type 0 where
  pub vars : v ≤ c.vars
  pub clauses : k ≤ length c.clauses
  pub gates : n ≤ length c.gates
  pub kept_clauses : AreWithin v (take k c.clauses)
  pub kept_gates : All (IsGateWithin v) (take n c.gates)
  pub their_clauses : All (λ g. clauses_end g ≤ k) (take n c.gates)
  pub fresh_or_kept : All (λ g. v ≤ g.1.output) (drop n c.gates)
