use Rattle.std.proofs.Common.{◌||◌, not, nat_eq, ℕ, Bool, take, sym, ◌∙◌, ap, arith}
use Rattle.hk_cnf.specs.Literal.{IsWithin}
use Rattle.hk_cnf.specs.Circuit.{gate_value}
use Rattle.hk_circuit.specs.Words.{gate_number}
use Rattle.hk_circuit.proofs.Frames.{followed}
use Rattle.hk_circuit.proofs.WordNumbers.{at, number-next}
use Rattle.hk_circuit.proofs.FarShifts.{nonzero-step}
use Rattle.hk_circuit.proofs.compare.is_nonzero.Goals as goal

pub loop-i-preserved : goal.loop-i-preserved
loop-i-preserved c =
    let i = c.loop-i.invariant in
    let e = c.in_ok-any.ensures in
    let start = c.args.gates.now in
    let x = c.index-a-i.result in
    let k : ℕ = c.loop-i.i in
    let wx : IsWithin start.vars x = at start.vars c.args.a.now k x c.requires.word (omega arith) c.index-a-i.is in
    record {
      frame = followed i.frame e.frame;
      within = e.within;
      value = λ v.
          let b : Bool = gate_value c.loop-i.gates x v in
          e.value v
          ∙ (ap (λ t. t || b) (i.value v)
          ∙ (nonzero-step (gate_number start (take k c.args.a.now) v) k b
          ∙ ap (λ n. not (nat_eq n 0)) (sym (number-next start c.loop-i.gates c.args.a.now k x v (omega arith) c.index-a-i.is (i.frame.keeps x wx.below v)))));
    }
