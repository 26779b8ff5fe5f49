use Rattle.std.proofs.Common.{rules}
use Rattle.std.specs.Prelude.{IsTrue}
use Rattle.ir_ast.specs.ProgramView.{view_module}
use Rattle.spec_tree.specs.View.{view_spec}
use Rattle.hk_decide_tests.proofs.Few.{few_none, few_more, few_all}
use Rattle.hk_decide_tests.proofs.given.may_all_stand.Goals as goal

pub each-init : goal.each-init
each-init c = λ l t laid found. few_none l.objects (view_spec c.args.spec.now) t c.args.owed.now c.args.given.now

pub each-preserved : goal.each-preserved
each-preserved c = λ l t laid found.
    let yes : IsTrue c.may_stand.result = search rules in
    few_more l.objects (view_spec c.args.spec.now) t c.args.owed.now c.args.given.now c.each.place _ _ (c.proof_at-proof.ensures _) (λ is. c.may_stand.ensures l t laid found yes is) (c.each.invariant l t laid found)

pub returns : goal.returns
returns c = λ l t laid found is.
    few_all l.objects (view_spec c.args.spec.now) t c.args.owed.now c.args.given.now c.each.place c.each-test.false (c.requires.owed t found) (c.each.invariant l t laid found)
