use Rattle.ir_ast.specs.ProgramView.{view_module}
use Rattle.spec_tree.specs.View.{view_spec, view_transition}
use Rattle.hk_oblig.proofs.LayoutLaws.{objects_are}
use Rattle.hk_oblig.proofs.Executing.{takes_so, widths_are, all_there, start_over, behind_over, out_told}
use Rattle.hk_oblig.proofs.run.executed.Goals as goal

pub execute_to_result-requires-clause-fit : goal.execute_to_result-requires-clause-fit
execute_to_result-requires-clause-fit g c =
    takes_so (view_module c.args.kernel.now) (view_transition c.args.transition.now) _ c.requires.handled (widths_are c.args.t.now c.args.transition.now.widths c.args.args.now c.requires.args)

pub execute_to_result-requires-clause-arguments : goal.execute_to_result-requires-clause-arguments
execute_to_result-requires-clause-arguments g c = all_there c.args.t.now c.args.transition.now.widths c.args.args.now c.requires.args

pub returns-clause-start : goal.returns-clause-start
returns-clause-start g c =
    let l = c.layout.result.now in
    start_over (view_spec c.args.spec.now) l.objects c.args.t.now c.execute_to_result.new.t c.args.start.now
    (objects_are (view_module c.args.kernel.now) (view_spec c.args.spec.now) l c.requires.fits c.layout.ensures) c.execute_to_result.ensures.frame c.requires.over c.in_ok-run.ensures.first

pub returns-clause-behind : goal.returns-clause-behind
returns-clause-behind g c =
    let l = c.layout.result.now in
    behind_over (view_spec c.args.spec.now) l.objects c.execute_to_result.new.t c.in_ok-run.run'.memory
    (objects_are (view_module c.args.kernel.now) (view_spec c.args.spec.now) l c.requires.fits c.layout.ensures) c.in_ok-run.ensures.over c.in_ok-run.ensures.objects

pub returns-clause-told : goal.returns-clause-told
returns-clause-told g c = λ v m ns h k.
    out_told (view_module c.args.kernel.now) c.args.t.now c.execute_to_result.new.t c.args.transition.now.function c.args.args.now c.args.start.now c.in_ok-run.run'.undefined c.in_ok-run.run'.result c.in_ok-run.run'.memory
    c.in_ok-run.ensures.there c.in_ok-run.ensures.ends v m ns h k
