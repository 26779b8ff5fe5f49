use Rattle.std.proofs.Common.{◌≡◌, ◌/◌, ◌^◌, false, ℕ, Bool, All, length, take, if◌then◌else◌, subst, sym, ◌∙◌, ap, arith}
use Rattle.hk_cnf.specs.Literal.{IsWithin}
use Rattle.hk_cnf.specs.Circuit.{gate_value}
use Rattle.hk_circuit.specs.Words.{gate_number}
use Rattle.hk_circuit.proofs.Frames.{unchanged, followed}
use Rattle.hk_circuit.proofs.WordNumbers.{at, number-next, number-below}
use Rattle.hk_circuit.proofs.Shifts.{right-none, right-step}
use Rattle.hk_circuit.proofs.shift.move_right.Goals as goal

pub loop-i-init : goal.loop-i-init
loop-i-init c =
    let start = c.args.gates.now in
    let is : c.in_ok-word.word.items ≡ c.args.a.now = c.in_ok-word.ensures.items in
    record {
      frame = unchanged start;
      size = ap length is;
      within = subst (λ ls. All (IsWithin start.vars) ls) (sym is) c.requires.first;
      value = λ v. ap (λ ls. gate_number start ls v) is ∙ right-none start c.args.a.now v;
    }

pub loop-i-preserved : goal.loop-i-preserved
loop-i-preserved c =
    let start = c.args.gates.now in
    let i = c.loop-i.invariant in
    let e = c.in_ok-next.ensures in
    let b = c.index-amount-i.result in
    let wb : IsWithin start.vars b = at start.vars c.args.amount.now c.loop-i.i b c.requires.second (omega arith) c.index-amount-i.is in
    record {
      frame = followed i.frame e.frame;
      size = e.size ∙ (ap length c.as_slice-in-loop-i.ensures.value ∙ (c.in_ok-moved.ensures.size ∙ (ap length c.as_slice.ensures.value ∙ i.size)));
      within = e.within;
      value = λ v.
          let w : ℕ = gate_number c.loop-i.gates c.loop-i.word.items v in
          let x : Bool = gate_value c.loop-i.gates b v in
          let fill : gate_value c.loop-i.gates c.args.bottom v ≡ false = i.frame.keeps c.args.bottom c.requires.bottom.below v ∙ c.requires.bottom_is v in
          let size : length c.as_slice.result.now ≡ length c.args.a.now = ap length c.as_slice.ensures.value ∙ i.size in
          let same : gate_number c.loop-i.gates c.as_slice.result.now v ≡ w = ap (λ ls. gate_number c.loop-i.gates ls v) c.as_slice.ensures.value in
          let moved : gate_number c.loop-i.gates c.as_slice-in-loop-i.result.now v ≡ w / 2 ^ c.stage-by.result =
          ap (λ ls. gate_number c.loop-i.gates ls v) c.as_slice-in-loop-i.ensures.value
          ∙ (c.in_ok-moved.ensures.value c.loop-i.gates v fill ∙ ap (λ n. n / 2 ^ c.stage-by.result) same) in
          let kept : gate_number c.loop-i.gates c.as_slice-in-loop-i-2.result.now v ≡ w = ap (λ ls. gate_number c.loop-i.gates ls v) c.as_slice-in-loop-i-2.ensures.value in
          e.value v
          ∙ ((λ j. if x then moved j else kept j)
          ∙ (right-step (gate_number start c.args.a.now v) (gate_number start (take c.loop-i.i c.args.amount.now) v) w (length c.args.a.now) c.loop-i.i c.stage-by.result x (number-below start c.args.a.now v) (i.value v) c.stage-by.ensures
          ∙ ap (λ n. gate_number start c.args.a.now v / 2 ^ n) (sym (number-next start c.loop-i.gates c.args.amount.now c.loop-i.i b v (omega arith) c.index-amount-i.is (i.frame.keeps b wb.below v)))));
    }
