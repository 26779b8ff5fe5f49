use Rattle.std.proofs.Common.{◌++◌, ◌+◌, ◌-◌, ◌∙◌, ap}
use Rattle.std.specs.Prelude.{replicate}
use Rattle.ir_layout.proofs.Growing.{zeros_more}
use Rattle.ir_layout.proofs.initial.add_zeros.Goals as goal

pub loop-at-preserved : goal.loop-at-preserved
loop-at-preserved c =
    ap (λ xs. xs ++ replicate (c.args.count - (c.loop-at._at + 1)) 0) c.in_ok-push.ensures.items
    ∙ zeros_more c.args.count c.loop-at._at c.loop-at.out.items _ c.loop-at-test.true c.loop-at.invariant
