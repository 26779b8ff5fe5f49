use Rattle.std.proofs.Common.{◌≡◌, ◌+◌, ◌*◌, ◌^◌, ◌&&◌, not, Bool, take, neg_ℤ, eqb, sym, ◌∙◌, ap, arith}
use Rattle.hk_cnf.specs.Literal.{IsWithin}
use Rattle.hk_cnf.specs.Circuit.{gate_value}
use Rattle.hk_circuit.specs.Words.{bit, gate_number, differ}
use Rattle.hk_circuit.proofs.Frames.{followed}
use Rattle.hk_circuit.proofs.Negated.{value_negated}
use Rattle.hk_circuit.proofs.WordNumbers.{at, number-next, front-below, equal-step}
use Rattle.hk_circuit.proofs.compare.equal.Goals as goal

pub loop-i-preserved : goal.loop-i-preserved
loop-i-preserved c =
    let i = c.loop-i.invariant in
    let d = c.in_ok-differ.ensures in
    let e = c.in_ok-same.ensures in
    let start = c.args.gates.now in
    let a = c.index-a-i.result in let b = c.index-b-i.result in
    let wa : IsWithin start.vars a = at start.vars c.args.a.now c.loop-i.i a c.requires.first (omega arith) c.index-a-i.is in
    let wb : IsWithin start.vars b = at start.vars c.args.b.now c.loop-i.i b c.requires.second (omega arith) c.index-b-i.is in
    record {
      frame = followed (followed i.frame d.frame) e.frame;
      within = e.within;
      value = λ v.
          let x : Bool = gate_value c.loop-i.gates a v in let y : Bool = gate_value c.loop-i.gates b v in
          let na : gate_number start (take (c.loop-i.i + 1) c.args.a.now) v ≡ gate_number start (take c.loop-i.i c.args.a.now) v + 2 ^ c.loop-i.i * bit x = number-next start c.loop-i.gates c.args.a.now c.loop-i.i a v (omega arith) c.index-a-i.is (i.frame.keeps a wa.below v) in
          let nb : gate_number start (take (c.loop-i.i + 1) c.args.b.now) v ≡ gate_number start (take c.loop-i.i c.args.b.now) v + 2 ^ c.loop-i.i * bit y = number-next start c.loop-i.gates c.args.b.now c.loop-i.i b v (omega arith) c.index-b-i.is (i.frame.keeps b wb.below v) in
          let last : gate_value c.xor.new.gates (neg_ℤ c.in_ok-differ.differ) v ≡ not (differ x y) = value_negated c.xor.new.gates c.in_ok-differ.differ v d.within.literal ∙ ap not (d.value v) in
          let first : gate_value c.xor.new.gates c.loop-i.same v ≡ (gate_value start c.args.truth v && eqb (gate_number start (take c.loop-i.i c.args.a.now) v) (gate_number start (take c.loop-i.i c.args.b.now) v)) = d.frame.keeps c.loop-i.same i.within.below v ∙ i.value v in
          e.value v
          ∙ ((λ j. first j && (ap (λ l. gate_value c.xor.new.gates l v) c.negated.ensures.value ∙ last) j)
          ∙ (equal-step (gate_value start c.args.truth v) x y (gate_number start (take c.loop-i.i c.args.a.now) v) (gate_number start (take c.loop-i.i c.args.b.now) v) (2 ^ c.loop-i.i) (front-below start c.args.a.now c.loop-i.i v (omega arith)) (front-below start c.args.b.now c.loop-i.i v (omega arith))
          ∙ (λ j. gate_value start c.args.truth v && eqb (sym na j) (sym nb j))));
    }
