use Rattle.std.proofs.Common.{◌≡◌, ◌+◌, ◌-◌, ◌*◌, ◌^◌, if◌then◌else◌, length, ap, ◌∙◌}
use Rattle.hk_cnf.specs.Circuit.{gate_value}
use Rattle.hk_circuit.specs.Words.{gate_number}
use Rattle.hk_circuit.proofs.WordNumbers.{number-below}
use Rattle.hk_circuit.proofs.BitPairs.{number-copies}
use Rattle.hk_circuit.proofs.SignBits.{sign-reading, extended}
use Rattle.hk_circuit.proofs.word.sign_extend.Goals as goal

pub returns-clause-value : goal.returns-clause-value
returns-clause-value c = λ d v.
    let w = length c.args.a.now in
    let s = c.index-a-top.result in
    let a = gate_number d c.args.a.now v in
    let high : gate_number d c.as_slice.result.now v ≡ (if gate_value d s v then 2 ^ (c.args.to - w) - 1 else 0) =
    ap (λ ls. gate_number d ls v) (c.as_slice.ensures.value ∙ c.in_ok-high.ensures) ∙ number-copies d s _ v in
    c.in_ok-word.ensures.value d v
    ∙ (ap (λ n. n * 2 ^ w + a) high
    ∙ extended w c.args.to a (gate_value d s v) c.requires.wider (number-below d c.args.a.now v) (sign-reading d c.args.a.now s v c.requires.some c.index-a-top.is))
