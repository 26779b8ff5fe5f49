use Rattle.std.proofs.Common.{map}
use Rattle.ir_ast.specs.ProgramView.{view_block, view_entries, view_function}
use Rattle.ir_type.proofs.NameWalks.{entry_viewed}
use Rattle.ir_check.proofs.LengthLaws.{own_more}
use Rattle.ir_check.proofs.calls.own_lengths.Goals as goal

pub loop-place-preserved : goal.loop-place-preserved
loop-place-preserved c =
    let e = entry_viewed view_function c.args.functions.now c.loop-place.place c.at.result.now c.at.ensures in
    own_more (view_entries view_function c.args.functions.now) c.loop-place.place e.0 (view_function c.at.result.now) (map view_block c.blocks_of-blocks.result.now)
    c.in-Some.count c.loop-place.own.items c.push.new.self.items e.1 c.blocks_of-blocks.ensures c.in-Some.ensures c.loop-place.invariant c.in_ok-push-in-Some.ensures.items
