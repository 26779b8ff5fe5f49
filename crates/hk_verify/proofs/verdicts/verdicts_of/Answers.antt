use Rattle.std.proofs.Common.{◌+◌, ◌≤◌, length, map, ap, sym, ◌∙◌, subst, rules}
use Rattle.ir_ast.specs.ProgramView.{view_module}
use Rattle.spec_tree.specs.View.{view_spec, view_transition}
use Rattle.hk_verify.proofs.Right.{none_right, one_more_right, all_right}
use Rattle.hk_verify.proofs.verdicts.verdicts_of.Goals as goal

pub loop-place-init : goal.loop-place-init
loop-place-init c = record {
  right = none_right c.args.budget (view_module c.args.kernel.now) (view_spec c.args.spec.now) c.as_slice-transitions.result.now _ c.in_ok-verdicts.ensures.items;
  room = search rules;
  counted = c.in_ok-verdicts.ensures.len;
}

pub loop-place-preserved : goal.loop-place-preserved
loop-place-preserved c = record {
  right = one_more_right c.args.budget (view_module c.args.kernel.now) (view_spec c.args.spec.now) c.as_slice-transitions.result.now c.loop-place.place c.index-transitions-place.result _ _ c.verdict_of-decided.result
      c.loop-place-test.true c.index-transitions-place.is c.push_reserved.ensures.items c.verdict_of-decided.ensures.right c.loop-place.invariant.right;
  room = subst (λ n. length c.as_slice-transitions.result.now ≤ n) (sym c.push_reserved.ensures.capacity) c.loop-place.invariant.room;
  counted = c.push_reserved.ensures.len ∙ ap (λ n. n + 1) c.loop-place.invariant.counted;
}

pub returns : goal.returns
returns c =
    all_right c.args.budget (view_module c.args.kernel.now) (view_spec c.args.spec.now) c.as_slice-transitions.result.now _ c.loop-place.place _ (ap (map view_transition) c.as_slice-transitions.ensures) c.loop-place-test.false
    c.loop-place.invariant.right
