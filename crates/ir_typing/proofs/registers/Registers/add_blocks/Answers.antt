use Rattle.std.proofs.Common.{ap}
use Rattle.std.proofs.lemmas.List.{take_all}
use Rattle.ir_ast.specs.ProgramView.{view_entries, view_type_entry}
use Rattle.ir_ast.specs.declared.instr.Block.{Block}
use Rattle.ir_whole.specs.Numbers.{types_of}
use Rattle.ir_typing.specs.Kept.{of_instrs, of_blocks}
use Rattle.ir_typing.proofs.Keeping.{adds_then, adds_as, more_set}
use Rattle.ir_typing.proofs.registers.Registers.add_blocks.Goals as goal

pub each-preserved : goal.each-preserved
each-preserved c = record {
  own = c.add_instrs.ensures.own;
  adds = adds_then (view_entries view_type_entry c.args.types.now) (types_of c.args.numbers.now) (types_of c.each.numbers) (types_of c.add_instrs.new.numbers) _ _ _
      c.args.self.now c.each.self c.add_instrs.new.self
      (more_set (λ (b : Block). of_instrs b.instrs.items.items) c.args.blocks.now c.each.block-index c.block-item.result c.each-test.true c.block-item.is)
      c.each.invariant.adds
      (adds_as (view_entries view_type_entry c.args.types.now) (types_of c.each.numbers) (types_of c.add_instrs.new.numbers) (of_instrs c.as_slice.result.now) (of_instrs c.block-item.result.instrs.items.items)
      c.each.self c.add_instrs.new.self (ap of_instrs c.as_slice.ensures.value) c.in_ok-add_instrs.ensures.adds);
}

pub returns-clause-adds : goal.returns-clause-adds
returns-clause-adds c =
    adds_as (view_entries view_type_entry c.args.types.now) (types_of c.args.numbers.now) (types_of c.each.numbers) _ _ c.args.self.now c.each.self
    (ap of_blocks (take_all c.each.block-index c.args.blocks.now c.each-test.false)) c.each.invariant.adds
