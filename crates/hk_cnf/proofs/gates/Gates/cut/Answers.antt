use Rattle.std.proofs.Common.{◌≡◌, ◌≤◌, sym, subst, ap, ◌∙◌, take, drop, All}
use Rattle.hk_cnf.specs.Clauses.{AreWithin}
use Rattle.hk_cnf.specs.Circuit.{Circuit, gate_value, clauses_end}
use Rattle.hk_cnf.specs.CircuitParts.{IsCircuit, IsGateWithin}
use Rattle.hk_cnf.specs.GatesView.{circuit_of}
use Rattle.hk_cnf.proofs.KeptGates.{fronts, IsCircuit-fronts, values-fronts}
use Rattle.hk_cnf.proofs.gates.Gates.cut.Goals as goal

pub invariant_of-self : goal.invariant_of-self
invariant_of-self c =
    let old : Circuit = circuit_of c.self.inside in
    let back = sym c.self.view_is in
    let kept : IsCircuit (fronts old c.args.to.vars c.args.to.clauses c.args.to.gates) =
    IsCircuit-fronts old c.args.to.vars c.args.to.clauses c.args.to.gates c.self.invariant.circuit
    (subst (λ v. c.args.to.vars ≤ v.vars) back c.requires.vars)
    (subst (λ v. AreWithin c.args.to.vars (take c.args.to.clauses v.clauses)) back c.requires.kept_clauses)
    (subst (λ v. All (IsGateWithin c.args.to.vars) (take c.args.to.gates v.gates)) back c.requires.kept_gates)
    (subst (λ v. All (λ g. clauses_end g ≤ c.args.to.clauses) (take c.args.to.gates v.gates)) back c.requires.their_clauses) in
    record {
      circuit = subst IsCircuit (λ i. record { vars = (ap (λ l. l.vars) (sym c.cut.ensures)) i; clauses = (ap (λ l. l.clauses) (sym c.cut.ensures)) i; gates = sym c.truncate.ensures.entries i }) kept;
      truth = c.find-self-inside.ensures;
    }

pub returns-clause-keeps : goal.returns-clause-keeps
returns-clause-keeps c = λ l b v.
    let old : Circuit = circuit_of c.self.inside in
    let same : record { vars = c.cut.new.self.vars; clauses = c.cut.new.self.clauses; gates = c.truncate.new.self.entries } ≡ fronts old c.args.to.vars c.args.to.clauses c.args.to.gates =
    λ i. record { vars = (ap (λ x. x.vars) c.cut.ensures) i; clauses = (ap (λ x. x.clauses) c.cut.ensures) i; gates = c.truncate.ensures.entries i } in
    ap (λ d. gate_value d l v) same
    ∙ (values-fronts old c.args.to.vars c.args.to.clauses c.args.to.gates
    (subst (λ d. All (λ g. c.args.to.vars ≤ g.1.output) (drop c.args.to.gates d.gates)) (sym c.self.view_is) c.requires.fresh_or_kept) l b v
    ∙ ap (λ d. gate_value d l v) c.self.view_is)

pub returns-clause-back : goal.returns-clause-back
returns-clause-back c = λ d f v k n.
    let old : Circuit = circuit_of c.self.inside in
    let same : record { vars = c.cut.new.self.vars; clauses = c.cut.new.self.clauses; gates = c.truncate.new.self.entries } ≡ fronts old c.args.to.vars c.args.to.clauses c.args.to.gates =
    λ i. record { vars = (ap (λ x. x.vars) c.cut.ensures) i; clauses = (ap (λ x. x.clauses) c.cut.ensures) i; gates = c.truncate.ensures.entries i } in
    same ∙ (ap (λ x. fronts x c.args.to.vars c.args.to.clauses c.args.to.gates) c.self.view_is ∙ (λ i. record { vars = v i; clauses = (ap (λ j. take j c.args.self.now.clauses) k ∙ f.clauses) i; gates = (ap (λ j. take j c.args.self.now.gates) n ∙ f.gates) i }))
