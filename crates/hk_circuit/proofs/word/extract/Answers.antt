use Rattle.std.proofs.Common.{◌≡◌, ◌-◌, ◌%◌, ◌^◌, length, take, drop, ◌∙◌, ap, arith}
use Rattle.std.proofs.lemmas.Grind.{common_steps}
use Rattle.hk_circuit.specs.Words.{gate_number}
use Rattle.hk_circuit.proofs.WordArithmetic.{number-drop, number-take}
use Rattle.hk_circuit.proofs.word.extract.Goals as goal

pub returns-clause-value : goal.returns-clause-value
returns-clause-value c = λ d v.
    let items : c.in_ok-word.word.items ≡ take c.args.bits (drop c.args.low c.args.a.now) = grind (arith, common_steps) in
    let rest : length (drop c.args.low c.args.a.now) ≡ length c.args.a.now - c.args.low = grind (arith, common_steps) in
    ap (λ ls. gate_number d ls v) items
    ∙ (number-take d (drop c.args.low c.args.a.now) c.args.bits v (omega (arith, rest, c.requires))
    ∙ ap (λ n. n % 2 ^ c.args.bits) (number-drop d c.args.a.now c.args.low v (omega (arith, c.requires))))
