use Rattle.ir_ast.specs.ProgramView.{view_module}
use Rattle.spec_tree.specs.View.{view_spec}
use Rattle.hk_check.proofs.Judgements.{tried_at}
use Rattle.hk_check.proofs.trying.try_proof.Goals as goal

pub returns-in_ok-try_log-in-Refuted-clause-tried : goal.returns-in_ok-try_log-in-Refuted-clause-tried
returns-in_ok-try_log-in-Refuted-clause-tried c = λ l t laid found.
    let s = view_spec c.args.spec.now in
    let origins = c.args.prepared.now.origins in
    let stand = c.requires.origins l laid in
    tried_at (view_module c.args.kernel.now) l.objects origins s t c.args.o c.in_ok-question-in-Refuted.question stand (c.in_ok-question-in-Refuted.ensures.asks t found) c.args.proof.now _ _ _ c.in-Refuted.is
    (λ d shape. c.cases_are_of_readings.ensures.any l.objects origins s t c.args.o d stand shape) c.in_ok-try_log-in-Refuted.ensures
