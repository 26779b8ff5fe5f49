use Rattle.std.proofs.Common.{◌≡◌, ◌+◌, ◌*◌, ◌^◌, Bool, All, take, ◌++◌, ◌∷◌, [], if◌then◌else◌, subst, sym, ◌∙◌, ap, arith}
use Rattle.hk_cnf.specs.Literal.{IsWithin}
use Rattle.std.proofs.lemmas.List.{take_all}
use Rattle.hk_cnf.specs.Circuit.{gate_value}
use Rattle.hk_circuit.specs.Words.{bit, gate_number}
use Rattle.hk_circuit.proofs.Frames.{followed}
use Rattle.hk_circuit.proofs.WordNumbers.{at, within-push, size-push, number-pushed, number-next, choose-step}
use Rattle.hk_circuit.proofs.choice.choose_words.Goals as goal

pub loop-i-preserved : goal.loop-i-preserved
loop-i-preserved c =
    let i = c.loop-i.invariant in
    let e = c.in_ok-lit.ensures in
    let start = c.args.gates.now in
    let a = c.index-a-i.result in let b = c.index-b-i.result in
    let grown : c.push.new.self.items ≡ c.loop-i.word.items ++ c.in_ok-lit.lit ∷ [] = c.in_ok-push.ensures.items in
    let wa : IsWithin start.vars a = at start.vars c.args.a.now c.loop-i.i a c.requires.first (omega arith) c.index-a-i.is in
    let wb : IsWithin start.vars b = at start.vars c.args.b.now c.loop-i.i b c.requires.second (omega arith) c.index-b-i.is in
    record {
      frame = followed i.frame e.frame;
      size = size-push c.loop-i.word.items c.push.new.self.items c.in_ok-lit.lit c.loop-i.i grown i.size;
      within = subst (λ w. All (IsWithin c.choose.new.gates.vars) w) (sym grown) (within-push c.loop-i.gates.vars c.choose.new.gates.vars c.loop-i.word.items c.in_ok-lit.lit e.frame.vars i.within e.within);
      value = λ v.
          let x : Bool = gate_value c.loop-i.gates a v in let y : Bool = gate_value c.loop-i.gates b v in
          let t : gate_value c.loop-i.gates c.args.condition v ≡ gate_value start c.args.condition v = i.frame.keeps c.args.condition c.requires.condition.below v in
          let na : gate_number start (take (c.loop-i.i + 1) c.args.a.now) v ≡ gate_number start (take c.loop-i.i c.args.a.now) v + 2 ^ c.loop-i.i * bit x = number-next start c.loop-i.gates c.args.a.now c.loop-i.i a v (omega arith) c.index-a-i.is (i.frame.keeps a wa.below v) in
          let nb : gate_number start (take (c.loop-i.i + 1) c.args.b.now) v ≡ gate_number start (take c.loop-i.i c.args.b.now) v + 2 ^ c.loop-i.i * bit y = number-next start c.loop-i.gates c.args.b.now c.loop-i.i b v (omega arith) c.index-b-i.is (i.frame.keeps b wb.below v) in
          ap (λ w. gate_number c.choose.new.gates w v) grown
          ∙ (number-pushed c.loop-i.gates c.choose.new.gates c.loop-i.gates.vars c.loop-i.i c.loop-i.word.items c.in_ok-lit.lit v i.size i.within e.frame.keeps
          ∙ (choose-step (gate_value start c.args.condition v) x y (gate_value c.choose.new.gates c.in_ok-lit.lit v) (gate_number start (take c.loop-i.i c.args.a.now) v) (gate_number start (take c.loop-i.i c.args.b.now) v) (gate_number c.loop-i.gates c.loop-i.word.items v) (2 ^ c.loop-i.i)
          (i.value v) (e.value v ∙ ap (λ z. if z then x else y) t)
          ∙ (λ j. if gate_value start c.args.condition v then sym na j else sym nb j)));
    }

pub returns-in_err-push-clause-frame : goal.returns-in_err-push-clause-frame
returns-in_err-push-clause-frame c = followed c.loop-i.invariant.frame c.in_ok-lit.ensures.frame

pub returns-clause-value : goal.returns-clause-value
returns-clause-value c = λ v.
    let ta = take_all c.loop-i.i c.args.a.now (omega arith) in
    let tb = take_all c.loop-i.i c.args.b.now (omega (arith, c.requires.same)) in
    let start = c.args.gates.now in
    c.loop-i.invariant.value v ∙ (λ j. if gate_value start c.args.condition v then gate_number start (ta j) v else gate_number start (tb j) v)
