use Rattle.std.proofs.Common.{sym, subst, ap, ◌∙◌}
use Rattle.hk_cnf.specs.Circuit.{Circuit, AreOperands, truth_of, truth_with}
use Rattle.hk_cnf.specs.GatesView.{circuit_of}
use Rattle.hk_cnf.proofs.Keys.{truth-push}
use Rattle.hk_cnf.proofs.KeptGates.{outputs-small, IsCircuit-added}
use Rattle.hk_cnf.proofs.gates.Gates.make.Goals as goal

pub find-requires : goal.find-requires
find-requires c = outputs-small (circuit_of c.self.inside) c.self.invariant.circuit

pub invariant_of-self-in-None : goal.invariant_of-self-in-None
invariant_of-self-in-None c =
    let old : Circuit = circuit_of c.self.inside in
    let operands : AreOperands old.vars c.args.op = subst (λ v. AreOperands v.vars c.args.op) (sym c.self.view_is) c.requires in
    let e = c.in_ok-lit-in-None.ensures in
    record {
      circuit = IsCircuit-added old c.args.op c.add.new.list.vars c.add.new.list.clauses c.add.new.gates.entries c.self.invariant.circuit operands e.few e.vars e.clauses e.gates;
      truth =
          c.truth_after-self-inside.ensures
          ∙ ((λ i. truth_with (c.self.invariant.truth i) c.args.op (e.literal i))
          ∙ (sym (truth-push old.gates c.args.op _ (sym c.in-None.ensures)) ∙ ap (λ gs. truth_of gs) (sym e.gates)));
    }

pub returns-in_ok-lit-in-None-clause-after : goal.returns-in_ok-lit-in-None-clause-after
returns-in_ok-lit-in-None-clause-after c =
    let old : Circuit = circuit_of c.self.inside in
    let operands : AreOperands old.vars c.args.op = subst (λ v. AreOperands v.vars c.args.op) (sym c.self.view_is) c.requires in
    let e = c.in_ok-lit-in-None.ensures in
    IsCircuit-added old c.args.op c.add.new.list.vars c.add.new.list.clauses c.add.new.gates.entries c.self.invariant.circuit operands e.few e.vars e.clauses e.gates
