use Rattle.std.proofs.Common.{◌∙◌, refl, rules}
use Rattle.std.specs.List.{zip}
use Rattle.ir_ast.specs.ProgramView.{view_module}
use Rattle.spec_tree.specs.View.{view_spec, view_transition}
use Rattle.hk_claims.specs.Fitting.{Fits}
use Rattle.hk_claims.proofs.Turns.{as_many, entry_at, claim_low, claim_at, claims_end}
use Rattle.hk_claims.proofs.Marks.{if_err, on_ok}
use Rattle.hk_claims.proofs.Checked.{none_yet, one_more, whole, stopped}
use Rattle.hk_claims.proofs.checking.check_claims.Goals as goal

pub each-init : goal.each-init
each-init g c = record { so_far = none_yet (view_module c.args.kernel.now) (view_spec c.args.spec.now) c.args.verdicts.now.items _ c.requires.empty; still = refl; room = refl; counted = search rules }

pub bounds-entries-place : goal.bounds-entries-place
bounds-entries-place g c =
    as_many c.args.spec.now.transitions c.as_slice-transitions.result.now c.args.entries.now c.as_slice-transitions.ensures
    (Fits c.layout-layout.result.now.objects (view_spec c.args.spec.now)) c.each.place (c.requires.fit c.layout-layout.result.now c.layout-layout.ensures) c.each-test.true

pub check_next-requires-clause-fit : goal.check_next-requires-clause-fit
check_next-requires-clause-fit g c = λ l laid.
    entry_at c.args.spec.now.transitions c.as_slice-transitions.result.now c.args.entries.now c.as_slice-transitions.ensures
    (Fits l.objects (view_spec c.args.spec.now)) c.each.place _ _ (c.requires.fit l laid) c.each-test.true c.index-transitions-place.is c.index-entries-place.is

pub returns-in-Err-clause-stopped : goal.returns-in-Err-clause-stopped
returns-in-Err-clause-stopped g c =
    let many = as_many c.args.spec.now.transitions c.as_slice-transitions.result.now c.args.entries.now c.as_slice-transitions.ensures
    (Fits c.layout-layout.result.now.objects (view_spec c.args.spec.now)) c.each.place (c.requires.fit c.layout-layout.result.now c.layout-layout.ensures) c.each-test.true in
    stopped (view_module c.args.kernel.now) (view_spec c.args.spec.now) c.args.entries.now c.each.place (view_transition c.index-transitions-place.result, c.index-entries-place.result) _ _ _ _ _ _ _ _ c.in-Err.stop
    (claim_low c.args.spec.now.transitions c.as_slice-transitions.result.now c.args.entries.now c.as_slice-transitions.ensures c.each.place c.each-test.true many)
    (claim_at c.args.spec.now.transitions c.as_slice-transitions.result.now c.args.entries.now c.as_slice-transitions.ensures c.each.place _ _ c.each-test.true many c.index-transitions-place.is c.index-entries-place.is)
    c.each.invariant.so_far c.each.invariant.still (if_err _ _ _ c.in-Err.is c.check_next.ensures.stopped)

pub each-preserved : goal.each-preserved
each-preserved g c =
    let many = as_many c.args.spec.now.transitions c.as_slice-transitions.result.now c.args.entries.now c.as_slice-transitions.ensures
    (Fits c.layout-layout.result.now.objects (view_spec c.args.spec.now)) c.each.place (c.requires.fit c.layout-layout.result.now c.layout-layout.ensures) c.each-test.true in
    record {
      so_far = one_more (view_module c.args.kernel.now) (view_spec c.args.spec.now) _ c.each.place (view_transition c.index-transitions-place.result, c.index-entries-place.result) _ _ _ _ _
          (claim_low c.args.spec.now.transitions c.as_slice-transitions.result.now c.args.entries.now c.as_slice-transitions.ensures c.each.place c.each-test.true many)
          (claim_at c.args.spec.now.transitions c.as_slice-transitions.result.now c.args.entries.now c.as_slice-transitions.ensures c.each.place _ _ c.each-test.true many c.index-transitions-place.is c.index-entries-place.is)
          c.each.invariant.so_far (on_ok _ _ c.in-Ok.is c.check_next.ensures.added);
      still = on_ok _ _ c.in-Ok.is c.check_next.ensures.still ∙ c.each.invariant.still;
      room = c.check_next.ensures.room ∙ c.each.invariant.room;
      counted = search rules;
    }

pub returns-clause-whole : goal.returns-clause-whole
returns-clause-whole g c =
    whole (view_module c.args.kernel.now) (view_spec c.args.spec.now) c.args.entries.now c.each.place _ _ _
    (claims_end c.args.spec.now.transitions c.as_slice-transitions.result.now c.args.entries.now c.as_slice-transitions.ensures c.each.place c.each-test.false) c.each.invariant.so_far
