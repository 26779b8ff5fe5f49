use Rattle.std.proofs.Common.{◌≡◌, ◌<◌, ◌^◌, not, ℤ, List, length, subst, ◌∙◌, ap}
use Rattle.hk_cnf.specs.Circuit.{gate_value}
use Rattle.hk_circuit.specs.Words.{bit, gate_number}
use Rattle.hk_circuit.proofs.Negated.{value_negated}
use Rattle.hk_circuit.proofs.WordNumbers.{number-below}
use Rattle.hk_circuit.proofs.WordArithmetic.{sum-value}
use Rattle.hk_circuit.proofs.adder.add.Goals as goal

pub returns-clause-value : goal.returns-clause-value
returns-clause-value c = λ v.
    let e = c.in_ok-sum.ensures in
    let word : List ℤ = c.in_ok-sum.sum.word.items in
    let zero : bit (gate_value c.args.gates.now c.negated.result v) ≡ 0 =
    ap (λ l. bit (gate_value c.args.gates.now l v)) c.negated.ensures.value
    ∙ (ap bit (value_negated c.args.gates.now c.args.truth v c.requires.truth.literal) ∙ ap (λ t. bit (not t)) (c.requires.truth_is v)) in
    sum-value (gate_number c.add_with_carry.new.gates word v) (2 ^ length c.args.a.now) (bit (gate_value c.add_with_carry.new.gates c.in_ok-sum.sum.carry v))
    (gate_number c.args.gates.now c.args.a.now v) (gate_number c.args.gates.now c.args.b.now v) (bit (gate_value c.args.gates.now c.negated.result v)) (e.value v) zero
    (subst (λ n. gate_number c.add_with_carry.new.gates word v < 2 ^ n) e.size (number-below c.add_with_carry.new.gates word v))
