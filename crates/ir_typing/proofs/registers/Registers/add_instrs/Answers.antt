use Rattle.std.proofs.Common.{ap}
use Rattle.std.proofs.lemmas.List.{take_all}
use Rattle.ir_ast.specs.ProgramView.{view_entries, view_type_entry, view_instr}
use Rattle.ir_ast.specs.declared.instr.Instr.{Instr}
use Rattle.ir_whole.specs.Numbers.{types_of}
use Rattle.ir_typing.specs.Registers.{set_by}
use Rattle.ir_typing.specs.Kept.{of_instrs}
use Rattle.ir_typing.proofs.Keeping.{adds_then, adds_as, more_set}
use Rattle.ir_typing.proofs.registers.Registers.add_instrs.Goals as goal

pub each-preserved : goal.each-preserved
each-preserved c = record {
  own = c.add_instr.ensures.own;
  adds = adds_then (view_entries view_type_entry c.args.types.now) (types_of c.args.numbers.now) (types_of c.each.numbers) (types_of c.add_instr.new.numbers) _ _ _
      c.args.self.now c.each.self c.add_instr.new.self
      (more_set (λ (i : Instr). set_by (view_instr i)) c.args.instrs.now c.each.instr-index c.instr-item.result c.each-test.true c.instr-item.is)
      c.each.invariant.adds c.in_ok-add_instr.ensures.adds;
}

pub returns-clause-adds : goal.returns-clause-adds
returns-clause-adds c =
    adds_as (view_entries view_type_entry c.args.types.now) (types_of c.args.numbers.now) (types_of c.each.numbers) _ _ c.args.self.now c.each.self
    (ap of_instrs (take_all c.each.instr-index c.args.instrs.now c.each-test.false)) c.each.invariant.adds
