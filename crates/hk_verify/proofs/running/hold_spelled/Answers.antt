use Rattle.ir_ast.specs.ProgramView.{view_module}
use Rattle.hk_verify.proofs.running.hold_spelled.Goals as goal

pub returns : goal.returns
returns c = c.texts_are_spelled.ensures c.args.text.now (view_module c.args.kernel.now) c.requires.spelled
