use Rattle.std.proofs.Common.{sym, subst}
use Rattle.hk_settle.specs.Answers.{goal_test}
use Rattle.ir_ast.specs.ProgramView.{view_module}
use Rattle.hk_symmem.specs.Origins.{AreOriginsOf}
use Rattle.spec_tree.specs.View.{view_spec}
use Rattle.hk_oblig.specs.Asking.{Asks}
use Rattle.hk_decide.proofs.Settlements.{refuted, violated, exact_for, spent_is}
use Rattle.hk_decide.proofs.trying.try_one.Goals as goal

pub returns-in-Refuted-clause-tried : goal.returns-in-Refuted-clause-tried
returns-in-Refuted-clause-tried c = λ l t laid found.
    let s = view_spec c.args.spec.now in
    let origins = c.args.prepared.now.origins in
    let stand = c.requires.origins l laid in
    refuted (view_module c.args.kernel.now) l.objects origins s t c.args.o c.in_ok-question.question c.in_ok-instances.field-0 stand (c.in_ok-question.ensures.asks t found) c.in-Refuted.instances c.in-Refuted.log
    (λ d shape. c.cases_are_of_readings.ensures.any l.objects origins s t c.args.o d stand shape) c.in-Refuted.is c.in_ok-instances.ensures.refuted c.in_ok-instances.ensures.none

pub returns-in_ok-case-in-True-clause-tried : goal.returns-in_ok-case-in-True-clause-tried
returns-in_ok-case-in-True-clause-tried c = λ l t laid found.
    let m = view_module c.args.kernel.now in
    let s = view_spec c.args.spec.now in
    let origins = c.question.new.self.origins in
    let same = sym c.question.ensures.origins in
    let q = c.in_ok-question.question in (
      c.in_ok-case-in-True.ensures.shape l t laid found,
      violated m l.objects origins s t c.args.o q c.in_ok-instances.field-0 (subst (λ os. AreOriginsOf l.objects os) same (c.requires.origins l laid))
          (subst (λ os. Asks m os s t c.args.o (goal_test q)) same (c.in_ok-question.ensures.asks t found)) c.in-True.valuation c.in_ok-case-in-True.case c.in-True.is c.in_ok-instances.ensures.holds (c.in_ok-case-in-True.ensures.case t found),
    )

pub returns-in_ok-try_spent-in-Spent-clause-tried :
    goal.returns-in_ok-try_spent-in-Spent-clause-tried
returns-in_ok-try_spent-in-Spent-clause-tried c = λ l t laid found.
    let settled = c.in_ok-instances.field-0 in
    c.in_ok-try_spent-in-Spent.ensures c.args.budget l t laid found
    (exact_for (view_module c.args.kernel.now) l.objects c.args.prepared.now.origins (view_spec c.args.spec.now) t c.args.o c.in_ok-question.question settled (c.requires.origins l laid) (c.in_ok-question.ensures.asks t found)
    c.in-Spent.instances c.in-Spent.clauses c.in-Spent.log c.in-Spent.is c.in_ok-instances.ensures.exact)
    (spent_is c.args.budget settled c.in-Spent.instances c.in-Spent.clauses c.in-Spent.log c.in-Spent.is c.in_ok-instances.ensures.spent)
