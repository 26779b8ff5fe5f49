use Rattle.std.proofs.Common.{sym, ◌∙◌}
use Rattle.ir_ast.specs.ProgramView.{view_type_entry}
use Rattle.ir_type.proofs.Views.{place_viewed}
use Rattle.ir_type.proofs.names.place_of_type.Goals as goal

pub returns : goal.returns
returns c = c.get.ensures.place ∙ sym (place_viewed view_type_entry c.args.types.now c.args.name.now)
