use Rattle.std.proofs.Common.{◌∙◌, ap}
use Rattle.std.proofs.lemmas.Option.{get_or_from_slice_get}
use Rattle.ir_ast.specs.Plain.{opaque}
use Rattle.ir_ast.specs.View.{view_type}
use Rattle.ir_ast.specs.ProgramView.{view_entries, view_type_entry}
use Rattle.ir_type.specs.Whole.{meant, is_pointer}
use Rattle.ir_whole.specs.Numbers.{types_of}
use Rattle.ir_kernel.proofs.passing.is_pointer_type.Goals as goal

pub returns-clause-pointer : goal.returns-clause-pointer
returns-clause-pointer c =
    c.is_pointer.ensures
    ∙ ap is_pointer (get_or_from_slice_get (types_of c.number.new.self) c.in_ok-number.number (meant (view_entries view_type_entry c.args.types.now) (view_type c.args.over.now)) opaque c.in_ok-number.ensures.number)
