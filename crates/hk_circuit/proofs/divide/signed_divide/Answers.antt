use Rattle.std.proofs.Common.{◌≡◌, ◌<◌, ◌-◌, ◌^◌, ℕ, ℤ, Bool, List, length, get_or, subst, sym, ◌∙◌, ap, arith}
use Rattle.hk_cnf.specs.Literal.{IsWithin}
use Rattle.hk_cnf.specs.Circuit.{gate_value}
use Rattle.hk_term.specs.Operations.{udiv_value, urem_value}
use Rattle.hk_circuit.specs.Words.{gate_number, differ, negated_by}
use Rattle.hk_circuit.proofs.WordNumbers.{at, within_more, number-below}
use Rattle.hk_circuit.proofs.SignBits.{HasSign, sign-is}
use Rattle.hk_circuit.proofs.SignedDivision.{signed-quotient, signed-remainder}
use Rattle.hk_circuit.proofs.divide.signed_divide.Goals as goal

pub returns-clause-quotient : goal.returns-clause-quotient
returns-clause-quotient c = λ v.
    let start = c.args.gates.now in
    let g1 = c.divide_magnitudes.new.gates in let g2 = c.differ.new.gates in
    let e1 = c.in_ok-divided.ensures in let e2 = c.in_ok-signs.ensures in let e3 = c.in_ok-quotient.ensures in
    let w : ℕ = length c.args.a.now in
    let same : length c.args.b.now ≡ w = sym c.requires.same in
    let first = c.index-a-top.result in let second = c.index-b-top.result in
    let a : ℕ = gate_number start c.args.a.now v in let b : ℕ = gate_number start c.args.b.now v in
    let x : Bool = gate_value start first v in let y : Bool = gate_value start second v in
    let wf : IsWithin start.vars first = at start.vars c.args.a.now (w - 1) first c.requires.first (omega (arith, c.requires.some)) c.index-a-top.is in
    let ws : IsWithin start.vars second = at start.vars c.args.b.now (w - 1) second c.requires.second (omega (arith, c.requires.some, same)) c.index-b-top.is in
    let is : second ≡ get_or c.args.b.now (length c.args.b.now - 1) second = subst (λ n. second ≡ get_or c.args.b.now (n - 1) second) (sym same) c.index-b-top.is in
    let hb : HasSign y w b = subst (λ n. HasSign y n b) same (sign-is start c.args.b.now second v (omega (arith, c.requires.some, same)) is) in
    let bb : b < 2 ^ w = subst (λ n. b < 2 ^ n) same (number-below start c.args.b.now v) in
    let signs : gate_value g2 c.in_ok-signs.signs v ≡ differ x y = e2.value v ∙ (λ j. differ (e1.frame.keeps first wf.below v j) (e1.frame.keeps second ws.below v j)) in
    let size : length c.as_slice.result.now ≡ w = ap length c.as_slice.ensures.value ∙ e1.quotient_size in
    let magnitude : gate_number g2 c.as_slice.result.now v ≡ udiv_value w (negated_by x w a) (negated_by y w b) =
    ap (λ ls. gate_number g2 ls v) c.as_slice.ensures.value ∙ (e2.frame.keeps_words c.in_ok-divided.divided.quotient.items e1.quotient_within v ∙ e1.quotient v) in
    c.in_ok-remainder.ensures.frame.keeps_words c.in_ok-quotient.quotient.items e3.within v
    ∙ (e3.value v
    ∙ ((λ j. negated_by (signs j) (size j) (magnitude j))
    ∙ signed-quotient x y w a b c.requires.some (number-below start c.args.a.now v) bb (sign-is start c.args.a.now first v c.requires.some c.index-a-top.is) hb))

pub returns-clause-remainder : goal.returns-clause-remainder
returns-clause-remainder c = λ v.
    let start = c.args.gates.now in
    let g1 = c.divide_magnitudes.new.gates in let g2 = c.differ.new.gates in let g3 = c.negate_where.new.gates in
    let e1 = c.in_ok-divided.ensures in let e2 = c.in_ok-signs.ensures in let e3 = c.in_ok-quotient.ensures in
    let w : ℕ = length c.args.a.now in
    let same : length c.args.b.now ≡ w = sym c.requires.same in
    let first = c.index-a-top.result in let second = c.index-b-top.result in
    let a : ℕ = gate_number start c.args.a.now v in let b : ℕ = gate_number start c.args.b.now v in
    let x : Bool = gate_value start first v in let y : Bool = gate_value start second v in
    let wf : IsWithin start.vars first = at start.vars c.args.a.now (w - 1) first c.requires.first (omega (arith, c.requires.some)) c.index-a-top.is in
    let is : second ≡ get_or c.args.b.now (length c.args.b.now - 1) second = subst (λ n. second ≡ get_or c.args.b.now (n - 1) second) (sym same) c.index-b-top.is in
    let hb : HasSign y w b = subst (λ n. HasSign y n b) same (sign-is start c.args.b.now second v (omega (arith, c.requires.some, same)) is) in
    let bb : b < 2 ^ w = subst (λ n. b < 2 ^ n) same (number-below start c.args.b.now v) in
    let sign : gate_value g3 first v ≡ x =
    e3.frame.keeps first (omega (arith, wf.below, e1.frame.vars, e2.frame.vars)) v ∙ (e2.frame.keeps first (omega (arith, wf.below, e1.frame.vars)) v ∙ e1.frame.keeps first wf.below v) in
    let rest : List ℤ = c.in_ok-divided.divided.remainder.items in
    let size : length c.as_slice-2.result.now ≡ w = ap length c.as_slice-2.ensures.value ∙ e1.remainder_size in
    let magnitude : gate_number g3 c.as_slice-2.result.now v ≡ urem_value w (negated_by x w a) (negated_by y w b) =
    ap (λ ls. gate_number g3 ls v) c.as_slice-2.ensures.value
    ∙ (e3.frame.keeps_words rest (within_more g1.vars g2.vars rest e2.frame.vars e1.remainder_within) v ∙ (e2.frame.keeps_words rest e1.remainder_within v ∙ e1.remainder v)) in
    c.in_ok-remainder.ensures.value v
    ∙ ((λ j. negated_by (sign j) (size j) (magnitude j))
    ∙ signed-remainder x y w a b c.requires.some (number-below start c.args.a.now v) bb (sign-is start c.args.a.now first v c.requires.some c.index-a-top.is) hb)
