use Rattle.std.proofs.Common.{◌≡◌, ◌+◌, ◌*◌, ◌^◌, ℕ, length, ap, ◌∙◌, arith}
use Rattle.hk_circuit.specs.Words.{gate_number}
use Rattle.hk_circuit.proofs.WordArithmetic.{number-zeros}
use Rattle.hk_circuit.proofs.word.zero_extend.Goals as goal

pub returns-clause-value : goal.returns-clause-value
returns-clause-value c = λ d v e.
    let high : gate_number d c.as_slice.result.now v ≡ 0 =
    ap (λ ls. gate_number d ls v) (c.as_slice.ensures.value ∙ c.in_ok-high.ensures) ∙ number-zeros d c.args.bottom _ v e in
    c.in_ok-word.ensures.value d v
    ∙ (ap (λ n. n * 2 ^ length c.args.a.now + gate_number d c.args.a.now v) high ∙ plain (2 ^ length c.args.a.now) (gate_number d c.args.a.now v))
  where
    plain : (p a : ℕ) → 0 * p + a ≡ a
    plain p a = omega arith
