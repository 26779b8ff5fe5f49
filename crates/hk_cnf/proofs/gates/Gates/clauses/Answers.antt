use Rattle.std.proofs.Common.{subst}
use Rattle.hk_cnf.specs.CircuitParts.{IsCircuit}
use Rattle.hk_cnf.proofs.Determination.{IsDetermined-circuit, IsMixed-circuit, Mixes-required}
use Rattle.hk_cnf.proofs.OwnClauses.{gate_value-own, required-count, required-satisfied}
use Rattle.hk_cnf.proofs.gates.Gates.clauses.Goals as goal

pub returns-clause-exact : goal.returns-clause-exact
returns-clause-exact c = λ a s l. gate_value-own c.args.self.now a (subst IsCircuit c.self.view_is c.self.invariant.circuit) s l

pub returns-clause-determined : goal.returns-clause-determined
returns-clause-determined c = IsDetermined-circuit c.args.self.now (subst IsCircuit c.self.view_is c.self.invariant.circuit)

pub returns-clause-mixed : goal.returns-clause-mixed
returns-clause-mixed c = IsMixed-circuit c.args.self.now (subst IsCircuit c.self.view_is c.self.invariant.circuit)

pub returns-clause-required : goal.returns-clause-required
returns-clause-required c = Mixes-required c.args.self.now (subst IsCircuit c.self.view_is c.self.invariant.circuit)

pub returns-clause-count : goal.returns-clause-count
returns-clause-count c = required-count c.args.self.now (subst IsCircuit c.self.view_is c.self.invariant.circuit)

pub returns-clause-satisfied : goal.returns-clause-satisfied
returns-clause-satisfied c = λ a. required-satisfied c.args.self.now a (subst IsCircuit c.self.view_is c.self.invariant.circuit)
