use Rattle.std.proofs.Common.{◌≡◌, ◌+◌, ◌*◌, ◌^◌, ℕ, length, ◌++◌, ◌∙◌, ap, arith}
use Rattle.hk_circuit.specs.Words.{gate_number}
use Rattle.hk_circuit.proofs.WordArithmetic.{number-append}
use Rattle.hk_circuit.proofs.word.concat.Goals as goal

pub returns-clause-value : goal.returns-clause-value
returns-clause-value c = λ d v.
    ap (λ ls. gate_number d ls v) (c.in_ok-extend_from_slice.ensures.items ∙ ap (λ ls. ls ++ c.args.high.now) c.in_ok-word.ensures.items)
    ∙ (number-append d c.args.low.now c.args.high.now v ∙ turn (gate_number d c.args.low.now v) (2 ^ length c.args.low.now) (gate_number d c.args.high.now v))
  where
    turn : (a p m : ℕ) → a + p * m ≡ m * p + a
    turn a p m = omega arith
