use Rattle.std.proofs.Common.{◌≡◌, ◌*◌, ◌%◌, ◌^◌, ℕ, nat_eq, if◌then◌else◌, length, take, drop, sym, ◌∙◌, ap, arith}
use Rattle.std.proofs.lemmas.List.Elements.{All-drop}
use Rattle.hk_cnf.specs.Literal.{IsWithin}
use Rattle.hk_num.specs.Numbers.{bvshl}
use Rattle.hk_circuit.specs.Words.{gate_number}
use Rattle.hk_circuit.proofs.WordArithmetic.{number-split}
use Rattle.hk_circuit.proofs.FarShifts.{far-left}
use Rattle.hk_circuit.proofs.shift.shift_left.Goals as goal

pub returns-clause-value : goal.returns-clause-value
returns-clause-value c = λ v.
    let start = c.args.gates.now in
    let g = c.move_left-2.new.gates in
    let e = c.in_ok-moved.ensures in
    let k : ℕ = c.stages-near.result in
    let n : ℕ = length c.args.a.now in
    let a : ℕ = gate_number start c.args.a.now v in
    let low : ℕ = gate_number start (take k c.args.amount.now) v in
    let high : ℕ = gate_number start (drop k c.args.amount.now) v in
    let moved : gate_number g c.as_slice.result.now v ≡ bvshl n a low =
    ap (λ ls. gate_number g ls v) c.as_slice.ensures.value ∙ (e.value v ∙ ap (λ ls. bvshl n a (gate_number start ls v)) c.split_at.ensures.front) in
    let above : gate_number g (drop k c.args.amount.now) v ≡ high =
    e.frame.keeps_words (drop k c.args.amount.now) (All-drop (IsWithin start.vars) k c.args.amount.now c.requires.second) v in
    c.in_ok-word-2.ensures.value v
    ∙ ((λ j. if nat_eq (gate_number g (c.split_at.ensures.back j) v) 0 then moved j else 0)
    ∙ (ap (λ m. if nat_eq m 0 then bvshl n a low else 0) above
    ∙ (far-left a n k low high c.stages-near.ensures
    ∙ ap (λ m. (a * 2 ^ m) % 2 ^ n) (sym (number-split start c.args.amount.now k v (omega arith))))))
