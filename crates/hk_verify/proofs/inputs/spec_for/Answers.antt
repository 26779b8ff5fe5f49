use Rattle.ir_ast.specs.ProgramView.{view_module}
use Rattle.spec_ast.specs.View as raws
use Rattle.spec_tree.specs.View.{view_spec}
use Rattle.hk_verify.proofs.SpecReading.{found, stopped_at_lines, stopped_at_text}
use Rattle.hk_verify.proofs.inputs.spec_for.Goals as goal

pub returns-in-Ok-elaborated-clause-found : goal.returns-in-Ok-elaborated-clause-found
returns-in-Ok-elaborated-clause-found c =
    found (view_module c.args.kernel.now) c.args.text.now (raws.view_spec c.in-Ok.raw) (view_spec c.in-Ok-elaborated.spec) c.in-Ok.ensures.only c.in-Ok.ensures.answer c.in-Ok-elaborated.ensures.elaborated

pub returns-in-Ok-clause-fault : goal.returns-in-Ok-clause-fault
returns-in-Ok-clause-fault c =
    stopped_at_lines (view_module c.args.kernel.now) c.args.text.now (raws.view_spec c.in-Ok.raw) c.in-Err-elaborated.stop c.in-Ok.ensures.only c.in-Ok.ensures.first c.in-Ok.ensures.answer
    c.in-Err-elaborated.ensures.elaborated

pub returns-clause-fault : goal.returns-clause-fault
returns-clause-fault c =
    stopped_at_text (view_module c.args.kernel.now) c.args.text.now c.in-Err.stop c.in-Err.ensures.only c.in-Err.ensures.first c.in-Err.ensures.answer
