use Rattle.std.proofs.Common.{ap}
use Rattle.std.proofs.lemmas.List.{take_all}
use Rattle.ir_ast.specs.View.{view_type}
use Rattle.ir_ast.specs.ProgramView.{view_entries, view_type_entry}
use Rattle.ir_ast.specs.declared.types.IrType.{IrType}
use Rattle.std.specs.Prelude.{ℕ, List}
use Rattle.ir_whole.specs.Numbers.{types_of}
use Rattle.ir_typing.specs.Registers.{value_of}
use Rattle.ir_typing.specs.Kept.{of_parameters}
use Rattle.ir_typing.proofs.Keeping.{adds_then, adds_as, more_mapped}
use Rattle.ir_typing.proofs.registers.Registers.add_parameters.Goals as goal

pub each-preserved : goal.each-preserved
each-preserved c = record {
  own = c.add_parameter.ensures.own;
  adds = adds_then (view_entries view_type_entry c.args.types.now) (types_of c.args.numbers.now) (types_of c.each.numbers) (types_of c.add_parameter.new.numbers) _ _ _
      c.args.self.now c.each.self c.add_parameter.new.self
      (more_mapped (λ (p : IrType × List ℕ). (p.1, value_of (view_type p.0))) c.args.parameters.now c.each.parameter-index c.parameter-item.result c.each-test.true c.parameter-item.is)
      c.each.invariant.adds c.in_ok-add_parameter.ensures.adds;
}

pub returns-clause-adds : goal.returns-clause-adds
returns-clause-adds c =
    adds_as (view_entries view_type_entry c.args.types.now) (types_of c.args.numbers.now) (types_of c.each.numbers) _ _ c.args.self.now c.each.self
    (ap of_parameters (take_all c.each.parameter-index c.args.parameters.now c.each-test.false)) c.each.invariant.adds
