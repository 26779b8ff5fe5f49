use Rattle.std.proofs.Common.{◌≡◌, ◌<◌, ◌^◌, length, ◌-◌, arith, drop, sym, ◌∙◌, subst, ap}
use Rattle.hk_blast.specs.Blasted.{word_number}
use Rattle.hk_circuit.specs.Words.{bit}
use Rattle.hk_inst.proofs.Digits.{digit, half, doubled, byte, byte-small, none-left}
use Rattle.hk_inst.proofs.completion.number.Goals as goal

pub loop-i-init : goal.loop-i-init
loop-i-init c = record {
  inside = omega arith;
  is = none-left c.args.values.now c.args.word.now;
  below = subst (λ k. 0 < 2 ^ k) (sym none) (omega arith);
}
  where
    none : length c.args.word.now - length c.args.word.now ≡ 0
    none = omega arith

pub overflow_mul-number : goal.overflow_mul-number
overflow_mul-number c = omega (arith, half c.loop-i.number (length c.args.word.now) c.loop-i.i c.loop-i-test.true c.loop-i.invariant.inside c.requires.short c.loop-i.invariant.below)

pub overflow_add-number : goal.overflow_add-number
overflow_add-number c =
    omega (arith, half c.loop-i.number (length c.args.word.now) c.loop-i.i c.loop-i-test.true c.loop-i.invariant.inside c.requires.short c.loop-i.invariant.below, byte-small c.from.result c.value.result c.from.ensures)

pub loop-i-preserved : goal.loop-i-preserved
loop-i-preserved c = record {
  inside = omega (arith, c.loop-i.invariant.inside);
  is = digit c.args.values.now c.args.word.now c.loop-i.i c.index-word-i.result c.loop-i.number c.from.result c.loop-i-test.true c.loop-i.invariant.inside c.loop-i.invariant.is c.index-word-i.is (c.from.ensures ∙ byte c.value.result ∙ ap bit c.value.ensures);
  below = doubled c.loop-i.number c.from.result (length c.args.word.now) c.loop-i.i c.loop-i-test.true c.loop-i.invariant.inside (byte-small c.from.result c.value.result c.from.ensures) c.loop-i.invariant.below;
}

pub returns-clause-number : goal.returns-clause-number
returns-clause-number c = subst (λ k. c.loop-i.number ≡ word_number c.args.values.now (drop k c.args.word.now)) none c.loop-i.invariant.is
  where
    none : c.loop-i.i ≡ 0
    none = omega (arith, c.loop-i-test.false)

pub returns-clause-below : goal.returns-clause-below
returns-clause-below c = subst (λ k. c.loop-i.number < 2 ^ k) whole c.loop-i.invariant.below
  where
    whole : length c.args.word.now - c.loop-i.i ≡ length c.args.word.now
    whole = omega (arith, c.loop-i-test.false)
