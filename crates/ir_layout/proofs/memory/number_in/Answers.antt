use Rattle.std.proofs.Common.{arith, ◌∙◌, lit<}
use Rattle.ir_layout.proofs.ByteSteps.{load_more, load_fits, load_bounded}
use Rattle.ir_layout.proofs.memory.number_in.Goals as goal

pub loop-left-preserved : goal.loop-left-preserved
loop-left-preserved c = (
  omega (arith, c.loop-left.invariant.0),
  load_more c.args.bytes c.loop-left.left c.args.offset c.loop-left.number c.from.result c.args.items.now c.loop-left-test.true c.loop-left.invariant.0 c.loop-left.invariant.1 (c.from.ensures ∙ c.byte_at.ensures),
  load_fits c.args.bytes c.loop-left.left c.loop-left.number c.from.result c.loop-left-test.true c.loop-left.invariant.0 c.loop-left.invariant.2 (omega (arith, c.from.ensures, c.byte_at.type_inv)),
)

pub overflow_mul-number : goal.overflow_mul-number
overflow_mul-number c = omega (arith, load_bounded c.args.bytes c.loop-left.left c.loop-left.number 0 c.loop-left-test.true c.loop-left.invariant.0 c.requires.width c.loop-left.invariant.2 (lit< tt))

pub overflow_add-number : goal.overflow_add-number
overflow_add-number c = omega (arith, load_bounded c.args.bytes c.loop-left.left c.loop-left.number c.from.result c.loop-left-test.true c.loop-left.invariant.0 c.requires.width c.loop-left.invariant.2 (omega (arith, c.from.ensures, c.byte_at.type_inv)))
