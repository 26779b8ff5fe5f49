use Rattle.std.proofs.Common.{◌≡◌, ◌*◌, ◌%◌, ◌^◌, length, if◌then◌else◌, ◌∙◌, ap}
use Rattle.hk_cnf.specs.Circuit.{gate_value}
use Rattle.hk_circuit.specs.Words.{gate_number}
use Rattle.hk_circuit.proofs.WordArithmetic.{number-zeros}
use Rattle.hk_circuit.proofs.multiply.partial_product.Goals as goal

pub returns-clause-value : goal.returns-clause-value
returns-clause-value c = λ v.
    let start = c.args.gates.now in
    let shifted : gate_number start c.as_slice.result.now v ≡ (gate_number start c.args.a.now v * 2 ^ c.args.by) % 2 ^ length c.args.a.now =
    ap (λ ls. gate_number start ls v) c.as_slice.ensures.value ∙ c.in_ok-shifted.ensures.value start v (c.requires.bottom_is v) in
    let zero : gate_number start c.as_slice-2.result.now v ≡ 0 =
    ap (λ ls. gate_number start ls v) (c.as_slice-2.ensures.value ∙ c.in_ok-zero.ensures) ∙ number-zeros start c.args.bottom _ v (c.requires.bottom_is v) in
    c.in_ok-word.ensures.value v ∙ (λ j. if gate_value start c.args.lit v then shifted j else zero j)
