use Rattle.ir_ast.specs.ProgramView.{view_module}
use Rattle.ir_resolve.proofs.Codes.{object_there}
use Rattle.ir_resolve.proofs.program.object_at.Goals as goal

pub returns : goal.returns
returns c =
    object_there c.args.kernel.now c.args.place c.at.result.now c.object_align.result c.at.ensures
    (c.object_align.ensures.align (view_module c.args.kernel.now) c.requires.layout)
