use Rattle.std.proofs.Common.{sym, subst}
use Rattle.ir_ast.specs.ProgramView.{view_module}
use Rattle.spec_tree.specs.View.{view_spec}
use Rattle.hk_oblig.specs.Asking.{IsReady}
use Rattle.hk_oblig.proofs.Readiness.{prepared_so}
use Rattle.hk_oblig.proofs.handler.prepare.Goals as goal

pub returns-clause-prepared : goal.returns-clause-prepared
returns-clause-prepared c = λ t at.
    let m = view_module c.args.kernel.now in
    let s = view_spec c.args.spec.now in
    let run = c.in_ok-run.run' in
    let step = c.in_ok-step.step in
    prepared_so m s t c.in_ok-kept.kept run step c.in_ok-run.ensures.listed c.in_ok-step.ensures.listed
    (λ o of_run. subst (λ xs. IsReady m xs s t run o) (sym c.in_ok-kept.ensures) (c.in_ok-run.ensures.ready t at o of_run))
    (λ k. c.in_ok-step.ensures.ready t at m c.in_ok-kept.kept k)
