use Rattle.std.proofs.Common.{◌-◌, arith, refl}
use Rattle.hk_term.specs.Tables.{number_at}
use Rattle.hk_blast.specs.Blasted.{word_in}
use Rattle.hk_inst.specs.Inputs.{number_in}
use Rattle.hk_inst.proofs.SetNumbers.{variable-next}
use Rattle.hk_inst.proofs.completion.variables.Goals as goal

pub loop-i-preserved : goal.loop-i-preserved
loop-i-preserved c = record {
  inside = omega (arith, c.loop-i.invariant.inside);
  each = variable-next c.args.terms.now (number_in c.args.bits.now c.args.values.now) c.args.bits.now c.loop-i.i (c.loop-i.i - 1) (c.at-t.result, word_in c.args.bits.now c.at-t.result) c.node.result.now (number_in c.args.bits.now c.args.values.now c.at-t.result) (number_at c.loop-i.vars) (number_at c.set_variable.new.vars)
      (omega (arith, c.loop-i-test.true)) c.at-t.ensures.entry c.node.ensures.at refl c.loop-i.invariant.each c.in_ok-set_variable.ensures;
}
