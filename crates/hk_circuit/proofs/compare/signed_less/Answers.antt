use Rattle.std.proofs.Common.{◌≡◌, ◌≤◌, ◌+◌, ◌-◌, ◌*◌, ◌^◌, not, ℕ, Bool, pos, length, take, get_or, if◌then◌else◌, nat_lt, sym, ◌∙◌, ap, arith}
use Rattle.hk_num.specs.Numbers.{bvslt}
use Rattle.hk_cnf.specs.Circuit.{gate_value}
use Rattle.hk_circuit.specs.Words.{bit, gate_number}
use Rattle.hk_circuit.proofs.WordNumbers.{front-below}
use Rattle.hk_circuit.proofs.WordArithmetic.{signed-order, number-top, number-turned}
use Rattle.hk_circuit.proofs.compare.signed_less.Goals as goal

pub returns-clause-value : goal.returns-clause-value
returns-clause-value c = λ v.
    let start = c.args.gates.now in
    let w : ℕ = length c.args.a.now in
    let size : length c.args.b.now ≡ w = sym c.requires.same in
    let x : ℕ = gate_number start (take (w - 1) c.args.a.now) v in
    let y : ℕ = gate_number start (take (w - 1) c.args.b.now) v in
    let h : Bool = gate_value start (get_or c.args.a.now (w - 1) (pos 1)) v in
    let k : Bool = gate_value start (get_or c.args.b.now (w - 1) (pos 1)) v in
    let some : 1 ≤ length c.args.b.now = omega (arith, size, c.requires.some) in
    let first : gate_number start c.as_slice.result.now v ≡ x + 2 ^ (w - 1) * bit (not h) =
    ap (λ ls. gate_number start ls v) (c.as_slice.ensures.value ∙ c.in_ok-first.ensures.items) ∙ number-turned start c.args.a.now start.vars v c.requires.some c.requires.first in
    let second : gate_number start c.as_slice-2.result.now v ≡ y + 2 ^ (w - 1) * bit (not k) =
    ap (λ ls. gate_number start ls v) (c.as_slice-2.ensures.value ∙ c.in_ok-second.ensures.items) ∙ (number-turned start c.args.b.now start.vars v some c.requires.second
    ∙ (λ j. gate_number start (take (size j - 1) c.args.b.now) v + 2 ^ (size j - 1) * bit (not (gate_value start (get_or c.args.b.now (size j - 1) (pos 1)) v)))) in
    let a : gate_number start c.args.a.now v ≡ x + 2 ^ (w - 1) * bit h = number-top start c.args.a.now v c.requires.some in
    let b : gate_number start c.args.b.now v ≡ y + 2 ^ (w - 1) * bit k =
    number-top start c.args.b.now v some ∙ (λ j. gate_number start (take (size j - 1) c.args.b.now) v + 2 ^ (size j - 1) * bit (gate_value start (get_or c.args.b.now (size j - 1) (pos 1)) v)) in
    c.in_ok-below.ensures.value v
    ∙ ((λ j. if c.requires.bottom_is v j then not (nat_lt (gate_number start c.as_slice-2.result.now v) (gate_number start c.as_slice.result.now v)) else nat_lt (first j) (second j))
    ∙ (signed-order w x y h k c.requires.some (front-below start c.args.a.now (w - 1) v (omega arith)) (front-below start c.args.b.now (w - 1) v (omega (arith, size)))
    ∙ (λ j. bvslt w (sym a j) (sym b j))))
