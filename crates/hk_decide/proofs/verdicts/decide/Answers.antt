use Rattle.std.proofs.Common.{◌≡◌, true, false, length, ap, sym, subst, ◌∙◌, arith}
use Rattle.ir_ast.specs.ProgramView.{view_module}
use Rattle.hk_symmem.specs.Origins.{AreOriginsOf}
use Rattle.spec_tree.specs.View.{view_spec}
use Rattle.hk_decide.specs.Right.{IfAccepted}
use Rattle.hk_decide.proofs.Trials.{owed_at, stands_first, stands_on, refuted, all_stand, kept_first, kept_on, all_kept, small_is_decided}
use Rattle.hk_decide.proofs.verdicts.decide.Goals as goal

pub each-init : goal.each-init
each-init c = record {
  stands = λ l t laid found. stands_first c.args.budget (view_module c.args.kernel.now) l.objects (view_spec c.args.spec.now) t c.at_first-standing.result c.at_first-standing.ensures;
  kept = kept_first c.args.keep c.at_first-standing.result c.at_first-standing.ensures;
  prepared = c.in_ok-prepared.ensures.prepared;
  origins = c.in_ok-prepared.ensures.origins;
}

pub try_one-requires-clause-owed : goal.try_one-requires-clause-owed
try_one-requires-clause-owed c = λ t found.
    (c.each.obligation-index, owed_at (view_spec c.args.spec.now) t c.as_slice-obligation-items.result.now c.each.obligation-index _ (c.as_slice-obligation-items.ensures ∙ c.in_ok-owed.ensures t found) c.each-test.true)

pub returns-in-Some-clause-right : goal.returns-in-Some-clause-right
returns-in-Some-clause-right c = λ l t laid found.
    refuted c.args.budget (view_module c.args.kernel.now) l.objects (view_spec c.args.spec.now) t c.as_slice-obligation-items.result.now c.each.obligation-index _ c.each.standing c.in_ok-tried.tried c.in_ok-case.field-0 c.in-Some.case
    (c.as_slice-obligation-items.ensures ∙ c.in_ok-owed.ensures t found) c.each-test.true (c.each.invariant.stands l t laid found) (c.in_ok-tried.ensures.tried l t laid found) c.in-Some.is c.in_ok-case.ensures.violated

pub each-preserved : goal.each-preserved
each-preserved c = record {
  stands = λ l t laid found.
      stands_on c.args.budget (view_module c.args.kernel.now) l.objects (view_spec c.args.spec.now) t c.as_slice-obligation-items.result.now c.each.obligation-index _ c.args.keep c.each.standing c.note.new.standing c.in_ok-tried.tried c.in_ok-case.field-0
      c.each-test.true (c.each.invariant.stands l t laid found) c.each.invariant.kept (c.in_ok-tried.ensures.tried l t laid found) c.in-None.is c.in_ok-case.ensures.passed c.in_ok-case.ensures.noted;
  kept = kept_on c.args.keep c.each.obligation-index c.each.standing c.note.new.standing c.in_ok-tried.tried c.in_ok-case.field-0 c.each.invariant.kept c.in-None.is c.in_ok-case.ensures.passed c.in_ok-case.ensures.noted;
  prepared = c.in_ok-tried.ensures.prepared;
  origins = λ l laid. subst (λ os. AreOriginsOf l.objects os) (sym c.in_ok-tried.ensures.origins) (c.each.invariant.origins l laid);
}

pub returns-clause-right : goal.returns-clause-right
returns-clause-right c = λ l t laid found.
    c.verdict_of.ensures.right c.args.budget (view_module c.args.kernel.now) l.objects (view_spec c.args.spec.now) t
    (all_stand c.args.budget (view_module c.args.kernel.now) l.objects (view_spec c.args.spec.now) t c.as_slice-obligation-items.result.now c.each.obligation-index c.each.standing
    (c.as_slice-obligation-items.ensures ∙ c.in_ok-owed.ensures t found) c.each-test.false (c.each.invariant.stands l t laid found))

pub returns-clause-small : goal.returns-clause-small
returns-clause-small c = λ l t laid found small.
    small_is_decided c.args.budget (view_module c.args.kernel.now) l.objects (view_spec c.args.spec.now) t c.verdict_of.result c.verdict_of.ensures.decided
    (c.verdict_of.ensures.right c.args.budget (view_module c.args.kernel.now) l.objects (view_spec c.args.spec.now) t
    (all_stand c.args.budget (view_module c.args.kernel.now) l.objects (view_spec c.args.spec.now) t c.as_slice-obligation-items.result.now c.each.obligation-index c.each.standing
    (c.as_slice-obligation-items.ensures ∙ c.in_ok-owed.ensures t found) c.each-test.false (c.each.invariant.stands l t laid found))) small

pub returns-clause-kept : goal.returns-clause-kept
returns-clause-kept c = λ t found keep.
    let count = length c.as_slice-obligation-items.result.now in
    let end : c.each.obligation-index ≡ count = omega (arith, c.each-test.false, c.each.auto.obligation-index-end) in
    subst (λ n. IfAccepted (λ proofs. length proofs ≡ n) c.verdict_of.result) (ap length (c.as_slice-obligation-items.ensures ∙ c.in_ok-owed.ensures t found))
    (c.verdict_of.ensures.kept count (all_kept c.args.keep true c.each.obligation-index count c.each.standing keep end c.each.invariant.kept))

pub returns-clause-unkept : goal.returns-clause-unkept
returns-clause-unkept c = λ keep.
    let count = length c.as_slice-obligation-items.result.now in
    let end : c.each.obligation-index ≡ count = omega (arith, c.each-test.false, c.each.auto.obligation-index-end) in
    c.verdict_of.ensures.unkept count (all_kept c.args.keep false c.each.obligation-index count c.each.standing keep end c.each.invariant.kept)
