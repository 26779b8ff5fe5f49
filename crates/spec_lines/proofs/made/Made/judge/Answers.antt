use Rattle.spec_ast.specs.View.{view_item}
use Rattle.spec_take.specs.Found.{view_findings}
use Rattle.spec_lines.specs.View.{view_here, view_text}
use Rattle.spec_lines.proofs.Arranged.{told_early, told_late}
use Rattle.spec_lines.proofs.made.Made.judge.Goals as goal

pub returns-in-Some-clause-reason : goal.returns-in-Some-clause-reason
returns-in-Some-clause-reason c =
    told_early (view_text c.args.here.now.scope.kernel.now c.args.text.now) (view_here c.args.here.now) (view_item c.args.item.now) (view_findings c.in_ok-found.found)
    c.in_ok-reason.field-0 c.in-Some.reason c.in_ok-found.ensures c.in_ok-reason.ensures c.in-Some.is

pub returns-in-None-clause-reason : goal.returns-in-None-clause-reason
returns-in-None-clause-reason c =
    told_late (view_text c.args.here.now.scope.kernel.now c.args.text.now) (view_here c.args.here.now) (view_item c.args.item.now) (view_findings c.in_ok-found.found)
    c.in_ok-reason.field-0 c.judge_late.result c.in_ok-found.ensures c.in_ok-reason.ensures c.in-None.is c.judge_late.ensures.reason
