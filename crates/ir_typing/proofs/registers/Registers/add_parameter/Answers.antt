use Rattle.std.proofs.Common.{option_map, ap}
use Rattle.ir_ast.specs.View.{view_type}
use Rattle.ir_ast.specs.ProgramView.{view_entries, view_type_entry}
use Rattle.ir_whole.specs.Numbers.{types_of}
use Rattle.ir_typing.specs.Registers.{value_of}
use Rattle.ir_typing.specs.declared.held.Held.TheVariants.{Value}
use Rattle.ir_typing.proofs.KindSteps.{grows_none}
use Rattle.ir_typing.proofs.Keeping.{adds_one}
use Rattle.ir_typing.proofs.registers.Registers.add_parameter.Goals as goal

pub returns-clause-adds : goal.returns-clause-adds
returns-clause-adds c = adds_one (view_entries view_type_entry c.args.types.now) (types_of c.args.numbers.now) (types_of c.number.new.self) c.args.parameter.now.1
    (value_of (view_type c.args.parameter.now.0)) (Value c.in_ok-number.number) c.args.self.now c.add.new.self (c.number.ensures.grows (types_of c.args.numbers.now) (grows_none (types_of c.args.numbers.now)))
    (ap (option_map value_of) c.in_ok-number.ensures.number) c.in_ok-add.ensures.places c.in_ok-add.ensures.kinds c.in_ok-add.ensures.small
