use Rattle.std.proofs.Common.{false, length, replicate, ap, ◌∙◌}
use Rattle.ir_resolve.proofs.Flags.{all_slots}
use Rattle.ir_resolve.proofs.local.slots_in.Goals as goal

pub returns : goal.returns
returns c =
    all_slots c.args.function.now c.in_ok-slots.slots.items c.add_blocks.new.slots.items c.blocks_in.result.now
    (c.in_ok-slots.ensures ∙ ap (λ ps. replicate (length ps) false) c.as_slice.ensures.value) c.in_ok-add_blocks.ensures c.blocks_in.ensures
