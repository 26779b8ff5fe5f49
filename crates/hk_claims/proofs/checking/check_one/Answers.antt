use Rattle.ir_ast.specs.ProgramView.{view_module}
use Rattle.spec_tree.specs.View.{view_spec, view_transition}
use Rattle.hk_claims.proofs.Keeps.{there_is, refused_of, no_such_of, refused_low, no_such_low, no_cases, kept_refused, names_nothing}
use Rattle.hk_claims.proofs.checking.check_one.Goals as goal

pub proof_at-requires : goal.proof_at-requires
proof_at-requires c =
    let t = there_is view_transition c.args.spec.now.transitions c.args.place c.requires.there in
    let l = c.layout-layout.result.now in
    refused_low (view_module c.args.kernel.now) l.objects (view_spec c.args.spec.now) t.0 c.args.proofs.now c.as_slice.result.now c.in-Refused.proof _ _ _ _ c.as_slice.ensures
    (refused_of (view_module c.args.kernel.now) l.objects (view_spec c.args.spec.now) t.0 c.args.proofs.now c.in_ok-check.field-0 _ _ _ _ _ c.in-Refused.is (c.in_ok-check.ensures.told l t.0 c.layout-layout.ensures t.1))

pub unreachable-requires : goal.unreachable-requires
unreachable-requires c =
    let t = there_is view_transition c.args.spec.now.transitions c.args.place c.requires.there in
    let l = c.layout-layout.result.now in
    no_cases (view_module c.args.kernel.now) l.objects (view_spec c.args.spec.now) t.0 c.args.proofs.now c.as_slice.result.now c.in-Refused.proof _ _ _ _ _ c.as_slice.ensures (c.proof_at.ensures _) c.in-AllCases.is
    (refused_of (view_module c.args.kernel.now) l.objects (view_spec c.args.spec.now) t.0 c.args.proofs.now c.in_ok-check.field-0 _ _ _ _ _ c.in-Refused.is (c.in_ok-check.ensures.told l t.0 c.layout-layout.ensures t.1))

pub line_of-requires : goal.line_of-requires
line_of-requires c =
    let t = there_is view_transition c.args.spec.now.transitions c.args.place c.requires.there in
    let l = c.layout-layout.result.now in
    no_such_low (view_module c.args.kernel.now) l.objects (view_spec c.args.spec.now) t.0 c.args.proofs.now c.as_slice-in-NoSuch.result.now c.in-NoSuch.proof c.in-NoSuch.instance c.as_slice-in-NoSuch.ensures
    (no_such_of (view_module c.args.kernel.now) l.objects (view_spec c.args.spec.now) t.0 c.args.proofs.now c.in_ok-check.field-0 _ _ c.in-NoSuch.is (c.in_ok-check.ensures.told l t.0 c.layout-layout.ensures t.1))

pub returns-in_ok-keep_refused-in-Refuted-clause-kept : goal.returns-in_ok-keep_refused-in-Refuted-clause-kept
returns-in_ok-keep_refused-in-Refuted-clause-kept c = λ t found.
    kept_refused (view_module c.args.kernel.now) (view_spec c.args.spec.now) t c.args.proofs.now c.as_slice.result.now c.in-Refused.proof _ _ _ _ _ _ _ _ c.layout-layout.result.now c.layout-layout.ensures c.as_slice.ensures
    (c.proof_at.ensures _) c.in-Refuted.is
    (λ k of. refused_of (view_module c.args.kernel.now) k.objects (view_spec c.args.spec.now) t c.args.proofs.now c.in_ok-check.field-0 _ _ _ _ _ c.in-Refused.is (c.in_ok-check.ensures.told k t of found))
    c.in_ok-keep_refused-in-Refuted.ensures

pub returns-in-NoSuch-clause-stop : goal.returns-in-NoSuch-clause-stop
returns-in-NoSuch-clause-stop c = λ t found.
    names_nothing (view_module c.args.kernel.now) (view_spec c.args.spec.now) t c.args.proofs.now c.as_slice-in-NoSuch.result.now c.args.at c.in-NoSuch.proof c.in-NoSuch.instance _ c.as_slice-in-NoSuch.ensures
    (λ k of. no_such_of (view_module c.args.kernel.now) k.objects (view_spec c.args.spec.now) t c.args.proofs.now c.in_ok-check.field-0 _ _ c.in-NoSuch.is (c.in_ok-check.ensures.told k t of found)) c.line_of.ensures
