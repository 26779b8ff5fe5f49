use Rattle.std.proofs.Common.{◌≡◌, ◌+◌, ◌*◌, ◌^◌, All, ◌++◌, ◌∷◌, [], subst, sym, ◌∙◌, ap, length, arith}
use Rattle.hk_cnf.specs.Literal.{IsWithin}
use Rattle.std.proofs.lemmas.List.{take_all}
use Rattle.hk_cnf.specs.Circuit.{gate_value}
use Rattle.hk_circuit.specs.Words.{bit, gate_number}
use Rattle.hk_circuit.proofs.Frames.{followed}
use Rattle.hk_circuit.proofs.WordNumbers.{add-step, within-push, size-push, at}
use Rattle.hk_circuit.proofs.adder.add_with_carry.Goals as goal

pub loop-i-preserved : goal.loop-i-preserved
loop-i-preserved c =
    let i = c.loop-i.invariant in
    let e = c.in_ok-digit.ensures in
    let grown : c.push.new.self.items ≡ c.loop-i.word.items ++ c.in_ok-digit.digit.sum ∷ [] = c.in_ok-push.ensures.items in
    record {
      frame = followed i.frame e.frame;
      size = size-push c.loop-i.word.items c.push.new.self.items c.in_ok-digit.digit.sum c.loop-i.i grown i.size;
      word_within = subst (λ w. All (IsWithin c.full_add.new.gates.vars) w) (sym grown) (within-push c.loop-i.gates.vars c.full_add.new.gates.vars c.loop-i.word.items c.in_ok-digit.digit.sum e.frame.vars i.word_within e.sum_within);
      carry_within = e.carry_within;
      value = λ v. ap (λ w. gate_number c.full_add.new.gates w v + 2 ^ (c.loop-i.i + 1) * bit (gate_value c.full_add.new.gates c.in_ok-digit.digit.carry v)) grown
          ∙ add-step c.args.gates.now c.loop-i.gates c.full_add.new.gates c.loop-i.i c.loop-i.word.items c.args.a.now c.args.b.now c.index-a-i.result c.index-b-i.result c.loop-i.carry c.in_ok-digit.digit.sum c.in_ok-digit.digit.carry
          (λ u. bit (gate_value c.args.gates.now c.args.carry u)) i.size i.word_within (omega arith) (omega arith) c.index-a-i.is c.index-b-i.is
          (at c.args.gates.now.vars c.args.a.now c.loop-i.i c.index-a-i.result c.requires.first (omega arith) c.index-a-i.is)
          (at c.args.gates.now.vars c.args.b.now c.loop-i.i c.index-b-i.result c.requires.second (omega arith) c.index-b-i.is)
          i.frame.keeps e.frame.keeps e.sum e.carry i.value v;
    }

pub returns-in_err-digit-clause-frame : goal.returns-in_err-digit-clause-frame
returns-in_err-digit-clause-frame c = followed c.loop-i.invariant.frame c.full_add.ensures.frame

pub returns-in_err-push-clause-frame : goal.returns-in_err-push-clause-frame
returns-in_err-push-clause-frame c = followed c.loop-i.invariant.frame c.in_ok-digit.ensures.frame

pub returns-clause-value : goal.returns-clause-value
returns-clause-value c = λ v.
    let ta = take_all c.loop-i.i c.args.a.now (omega arith) in
    let tb = take_all c.loop-i.i c.args.b.now (omega (arith, c.requires.same)) in
    let start = c.args.gates.now in
    let all : length c.args.a.now ≡ c.loop-i.i = omega arith in
    let g = c.loop-i.gates in
    (λ j. gate_number g c.loop-i.word.items v + 2 ^ all j * bit (gate_value g c.loop-i.carry v))
    ∙ c.loop-i.invariant.value v
    ∙ (λ j. gate_number start (ta j) v + gate_number start (tb j) v + bit (gate_value start c.args.carry v))
