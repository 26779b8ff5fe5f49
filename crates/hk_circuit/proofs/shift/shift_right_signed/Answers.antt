use Rattle.std.proofs.Common.{◌≡◌, ◌-◌, ◌/◌, ◌^◌, ℕ, Bool, length, ap, ◌∙◌, arith}
use Rattle.hk_cnf.specs.Literal.{IsWithin}
use Rattle.hk_cnf.specs.Circuit.{gate_value}
use Rattle.hk_circuit.specs.Words.{gate_number}
use Rattle.hk_circuit.proofs.WordNumbers.{at, number-below, within_more}
use Rattle.hk_circuit.proofs.SignBits.{sign-reading, shifted, turned_by}
use Rattle.hk_circuit.proofs.shift.shift_right_signed.Goals as goal

pub returns-clause-value : goal.returns-clause-value
returns-clause-value c = λ v.
    let start = c.args.gates.now in
    let g1 = c.false_literal.new.gates in let g2 = c.turn_where.new.gates in let g3 = c.shift_right.new.gates in
    let e1 = c.in_ok-bottom.ensures in let e2 = c.in_ok-turned.ensures in let e3 = c.in_ok-moved.ensures in
    let w : ℕ = length c.args.a.now in
    let s = c.index-a-top.result in
    let a : ℕ = gate_number start c.args.a.now v in
    let n : ℕ = gate_number start c.args.amount.now v in
    let x : Bool = gate_value start s v in
    let ws : IsWithin start.vars s = at start.vars c.args.a.now (w - 1) s c.requires.first (omega (arith, c.requires.some)) c.index-a-top.is in
    let x1 : gate_value g1 s v ≡ x = e1.frame.keeps s ws.below v in
    let x2 : gate_value g2 s v ≡ x = e2.frame.keeps s (omega (arith, ws.below, e1.frame.vars)) v ∙ x1 in
    let x3 : gate_value g3 s v ≡ x = e3.frame.keeps s (omega (arith, ws.below, e1.frame.vars, e2.frame.vars)) v ∙ x2 in
    let a1 : gate_number g1 c.args.a.now v ≡ a = e1.frame.keeps_words c.args.a.now c.requires.first v in
    let n2 : gate_number g2 c.args.amount.now v ≡ n =
    e2.frame.keeps_words c.args.amount.now (within_more start.vars g1.vars c.args.amount.now e1.frame.vars c.requires.second) v ∙ e1.frame.keeps_words c.args.amount.now c.requires.second v in
    let turned : gate_number g2 c.as_slice.result.now v ≡ turned_by x w a =
    ap (λ ls. gate_number g2 ls v) c.as_slice.ensures.value ∙ (e2.value v ∙ (λ j. turned_by (x1 j) w (a1 j))) in
    let moved : gate_number g3 c.as_slice-2.result.now v ≡ turned_by x w a / 2 ^ n =
    ap (λ ls. gate_number g3 ls v) c.as_slice-2.ensures.value ∙ (e3.value v ∙ (λ j. turned j / 2 ^ n2 j)) in
    let size : length c.as_slice-2.result.now ≡ w =
    ap length c.as_slice-2.ensures.value ∙ (e3.size ∙ (ap length c.as_slice.ensures.value ∙ e2.size)) in
    c.in_ok-word.ensures.value v
    ∙ ((λ j. turned_by (x3 j) (size j) (moved j))
    ∙ shifted w a n x (number-below start c.args.a.now v) (sign-reading start c.args.a.now s v c.requires.some c.index-a-top.is))
