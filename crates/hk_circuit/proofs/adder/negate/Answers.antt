use Rattle.std.proofs.Common.{◌≡◌, ◌+◌, ◌-◌, ◌%◌, ◌^◌, not, false, ℕ, length, ◌∙◌, ap, arith}
use Rattle.std.proofs.lemmas.Grind.{common_steps}
use Rattle.hk_cnf.specs.Circuit.{gate_value}
use Rattle.hk_circuit.specs.Words.{gate_number}
use Rattle.hk_circuit.proofs.Negated.{value_negated}
use Rattle.hk_circuit.proofs.WordArithmetic.{number-zeros}
use Rattle.hk_circuit.proofs.adder.negate.Goals as goal

pub returns-clause-value : goal.returns-clause-value
returns-clause-value c = λ v.
    let start = c.args.gates.now in
    let bottom : gate_value start c.negated.result v ≡ false =
    ap (λ l. gate_value start l v) c.negated.ensures.value
    ∙ (value_negated start c.args.truth v c.requires.truth.literal ∙ ap not (c.requires.truth_is v)) in
    let size : length c.as_slice.result.now ≡ length c.args.a.now = grind (arith, common_steps) in
    let zero : gate_number start c.as_slice.result.now v ≡ 0 =
    ap (λ ls. gate_number start ls v) (c.as_slice.ensures.value ∙ c.in_ok-zero.ensures) ∙ number-zeros start c.negated.result _ v bottom in
    c.in_ok-word.ensures.value v
    ∙ ((λ j. (2 ^ size j + zero j - gate_number start c.args.a.now v) % 2 ^ size j)
    ∙ ap (λ n. n % 2 ^ length c.args.a.now) (plain (2 ^ length c.args.a.now) (gate_number start c.args.a.now v)))
  where
    plain : (p n : ℕ) → p + 0 - n ≡ p - n
    plain p n = omega arith
