use Rattle.std.proofs.Common.{[], subst}
use Rattle.ir_ast.specs.ProgramView.{view_entries, view_type_entry}
use Rattle.ir_whole.specs.Numbers.{types_of}
use Rattle.ir_typing.specs.Kinds.{AreKept}
use Rattle.ir_typing.specs.Kept.{of_parameters}
use Rattle.ir_typing.proofs.Keeping.{begins, registers_are}
use Rattle.ir_typing.proofs.registers.registers_in.Goals as goal

pub returns-clause-kept : goal.returns-clause-kept
returns-clause-kept c =
    subst (λ rs. AreKept (view_entries view_type_entry c.args.types.now) (types_of c.add_blocks.new.numbers) rs c.add_blocks.new.self.places c.add_blocks.new.self.kinds.items)
    (registers_are c.args.function.now c.as_slice.result.now c.blocks_in.result.now c.as_slice.ensures.value c.blocks_in.ensures)
    (c.in_ok-add_blocks.ensures.adds (of_parameters c.as_slice.result.now)
    (c.in_ok-add_parameters.ensures.adds [] (begins (view_entries view_type_entry c.args.types.now) (types_of c.args.numbers.now) c.new.result c.new-2.result.items c.new.ensures c.new-2.ensures.items)))
