use Rattle.std.proofs.Common.{◌+◌, map, refl, ap, ◌∙◌}
use Rattle.std.proofs.lemmas.Result.{err_from_is_err_and}
use Rattle.ir_ast.specs.ProgramView.{view_module}
use Rattle.spec_tree.specs.View.{view_spec, view_transition}
use Rattle.hk_verify.proofs.Keeping.{none_kept, one_more_kept, all_kept}
use Rattle.hk_verify.proofs.Pushes.{goes_on_at, is_cut_at, none_yet}
use Rattle.hk_verify.proofs.verdicts.decide_all.Goals as goal

pub loop-place-init : goal.loop-place-init
loop-place-init g c = record {
  so_far = none_yet c.args.budget (view_module c.args.kernel.now) (view_spec c.args.spec.now) c.args.verdicts.now.items _ c.requires.empty;
  kept = λ on. none_kept (view_spec c.args.spec.now) c.as_slice-transitions.result.now c.args.verdicts.now.items c.requires.empty;
  room = refl;
  counted = c.requires.unused;
  still = refl;
}

pub returns-in_err-decide_next-clause-cut : goal.returns-in_err-decide_next-clause-cut
returns-in_err-decide_next-clause-cut g c =
    let p = err_from_is_err_and c.from_residual.result c.from_residual.ensures.1 in
    rw p.1 (is_cut_at c.args.budget (view_module c.args.kernel.now) (view_spec c.args.spec.now) c.as_slice-transitions.result.now c.loop-place.place c.index-transitions-place.result _ _ _ _ _
    (ap (map view_transition) c.as_slice-transitions.ensures) c.loop-place-test.true c.index-transitions-place.is c.loop-place.invariant.so_far c.in_err-decide_next.ensures.cut)

pub loop-place-preserved : goal.loop-place-preserved
loop-place-preserved g c = record {
  so_far = goes_on_at c.args.budget (view_module c.args.kernel.now) (view_spec c.args.spec.now) c.as_slice-transitions.result.now c.loop-place.place c.index-transitions-place.result _ _ _ _ _
      (ap (map view_transition) c.as_slice-transitions.ensures) c.loop-place-test.true c.index-transitions-place.is c.loop-place.invariant.so_far c.in_ok-decide_next.ensures.whole;
  kept = λ on. one_more_kept (view_spec c.args.spec.now) c.as_slice-transitions.result.now c.loop-place.place c.index-transitions-place.result _ _ c.loop-place-test.true c.index-transitions-place.is
      (c.decide_next.ensures.kept on) (c.loop-place.invariant.kept on);
  room = c.decide_next.ensures.room ∙ c.loop-place.invariant.room;
  counted = c.decide_next.ensures.counted ∙ ap (λ n. n + 1) c.loop-place.invariant.counted;
  still = c.in_ok-decide_next.ensures.still ∙ c.loop-place.invariant.still;
}

pub returns-clause-kept : goal.returns-clause-kept
returns-clause-kept g c = λ on.
    all_kept (view_spec c.args.spec.now) c.as_slice-transitions.result.now _ c.loop-place.place _ (ap (map view_transition) c.as_slice-transitions.ensures) c.loop-place-test.false (c.loop-place.invariant.kept on)
