use Rattle.std.proofs.Common.{◌≡◌, ◌-◌, ◌^◌, bit_xor, length, if◌then◌else◌, ap, ◌∙◌}
use Rattle.hk_cnf.specs.Circuit.{gate_value}
use Rattle.hk_circuit.specs.Words.{gate_number}
use Rattle.hk_circuit.proofs.WordNumbers.{number-below}
use Rattle.hk_circuit.proofs.BitPairs.{number-copies, turned}
use Rattle.hk_circuit.proofs.bitwise.turn_where.Goals as goal

pub returns-clause-value : goal.returns-clause-value
returns-clause-value c = λ v.
    let start = c.args.gates.now in
    let n = length c.args.a.now in
    let copies : gate_number start c.as_slice.result.now v ≡ (if gate_value start c.args.condition v then 2 ^ n - 1 else 0) =
    ap (λ ls. gate_number start ls v) (c.as_slice.ensures.value ∙ c.in_ok-copies.ensures) ∙ number-copies start c.args.condition n v in
    c.in_ok-word.ensures.value v
    ∙ (ap (λ m. bit_xor (gate_number start c.args.a.now v) m) copies
    ∙ turned n (gate_number start c.args.a.now v) (gate_value start c.args.condition v) (number-below start c.args.a.now v))
