-- How the gates are kept: a clause list, the gates by their operations, and the literal that is true.
use Rattle.std.specs.Prelude.{◌≡◌}
use Rattle.hk_cnf.specs.declared.gates.Gates.TheInside.{Inside}
use Rattle.hk_cnf.specs.Circuit.{Circuit, truth_of}
use Rattle.hk_cnf.specs.CircuitParts.{IsCircuit}

abbrev pub circuit_of : Inside → Circuit
circuit_of g = record { vars = g.list.vars; clauses = g.list.clauses; gates = g.gates.entries }

pub record IsKept (g : Inside) : Type 0 where
  pub circuit : IsCircuit (circuit_of g)
  pub truth : g.truth ≡ truth_of g.gates.entries
