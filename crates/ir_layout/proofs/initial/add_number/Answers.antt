use Rattle.std.proofs.Common.{◌++◌, ◌+◌, ◌-◌, ◌/◌, ◌∙◌, ap}
use Rattle.ir_layout.specs.Writing.{signed_bytes}
use Rattle.ir_layout.proofs.Growing.{number_more}
use Rattle.ir_layout.proofs.initial.add_number.Goals as goal

pub loop-at-preserved : goal.loop-at-preserved
loop-at-preserved c =
    ap (λ xs. xs ++ signed_bytes c.args.below (c.args.count - (c.loop-at._at + 1)) (c.loop-at.rest / 256)) c.in_ok-push.ensures.items
    ∙ number_more c.args.below c.args.count c.loop-at._at c.loop-at.rest c.low_byte.result c.loop-at.out.items _ c.loop-at-test.true c.low_byte.ensures c.loop-at.invariant
