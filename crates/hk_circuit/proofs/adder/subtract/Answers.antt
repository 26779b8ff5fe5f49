use Rattle.std.proofs.Common.{◌≡◌, ◌<◌, ◌-◌, ◌^◌, ℕ, ℤ, List, All, length, subst, sym, ◌∙◌, ap}
use Rattle.hk_cnf.specs.Literal.{IsWithin}
use Rattle.hk_cnf.specs.Circuit.{gate_value}
use Rattle.hk_circuit.specs.Words.{bit, gate_number}
use Rattle.hk_circuit.proofs.WordNumbers.{number-below}
use Rattle.hk_circuit.proofs.WordArithmetic.{difference-value}
use Rattle.hk_circuit.proofs.adder.subtract.Goals as goal

pub add_with_carry-requires-clause-second : goal.add_with_carry-requires-clause-second
add_with_carry-requires-clause-second c =
    subst (λ ls. All (IsWithin c.args.gates.now.vars) ls) (sym c.as_slice.ensures.value) (c.in_ok-other.ensures.within c.args.gates.now.vars c.requires.second)

pub returns-clause-value : goal.returns-clause-value
returns-clause-value c = λ v.
    let e = c.in_ok-sum.ensures in
    let start = c.args.gates.now in
    let word : List ℤ = c.in_ok-sum.sum.word.items in
    let b : ℕ = gate_number start c.args.b.now v in
    let size : length c.args.b.now ≡ length c.args.a.now = sym c.requires.same in
    let other : gate_number start c.as_slice.result.now v ≡ 2 ^ length c.args.a.now - 1 - b =
    ap (λ ls. gate_number start ls v) c.as_slice.ensures.value
    ∙ (c.in_ok-other.ensures.value start (λ k d h. (c.requires.second k d h).literal) v ∙ ap (λ n. 2 ^ n - 1 - b) size) in
    difference-value (gate_number c.add_with_carry.new.gates word v) (2 ^ length c.args.a.now) (bit (gate_value c.add_with_carry.new.gates c.in_ok-sum.sum.carry v))
    (gate_number start c.args.a.now v) b (gate_number start c.as_slice.result.now v) (bit (gate_value start c.args.truth v)) (e.value v) other (ap bit (c.requires.truth_is v))
    (subst (λ n. b < 2 ^ n) size (number-below start c.args.b.now v))
    (subst (λ n. gate_number c.add_with_carry.new.gates word v < 2 ^ n) e.size (number-below c.add_with_carry.new.gates word v))
