use Rattle.std.proofs.Common.{◌+◌, ◌<◌, ◌^◌, arith}
use Rattle.hk_cnf.specs.Circuit.{Circuit}
use Rattle.hk_cnf.specs.GatesView.{circuit_of}
use Rattle.hk_cnf.proofs.KeptGates.{IsCircuit-widened}
use Rattle.hk_cnf.proofs.gates.Gates.add_variable.Goals as goal

pub invariant_of-self : goal.invariant_of-self
invariant_of-self c =
    let old : Circuit = circuit_of c.self.inside in
    let few : old.vars + 1 < 2 ^ 63 = omega (arith, c.vars-vars.ensures.value) in
    record { circuit = IsCircuit-widened old c.vars-vars.result c.widen.new.self c.self.invariant.circuit few c.vars-vars.ensures.value c.widen.ensures; truth = c.self.invariant.truth }

pub returns-clause-after : goal.returns-clause-after
returns-clause-after c =
    let old : Circuit = circuit_of c.self.inside in
    let few : old.vars + 1 < 2 ^ 63 = omega (arith, c.vars-vars.ensures.value) in
    IsCircuit-widened old c.vars-vars.result c.widen.new.self c.self.invariant.circuit few c.vars-vars.ensures.value c.widen.ensures
