use Rattle.std.proofs.Common.{[], length, ap, sym, subst, ◌∙◌, arith}
use Rattle.ir_ast.specs.ProgramView.{view_module}
use Rattle.hk_symmem.specs.Origins.{AreOriginsOf}
use Rattle.spec_tree.specs.View.{view_spec, view_transition}
use Rattle.hk_check.proofs.Turns.{there_is, none_first, owed_at, few_at, shown_more, all_shown, refused_at, violated_at, no_such_at}
use Rattle.hk_check.proofs.checking.check.Goals as goal

pub each-init : goal.each-init
each-init c = record {
  shown = λ l t laid found. none_first (view_module c.args.kernel.now) l.objects (view_spec c.args.spec.now) t;
  prepared = c.in_ok-prepared.ensures.prepared;
  origins = c.in_ok-prepared.ensures.origins;
}

pub proof_at-proof-requires : goal.proof_at-proof-requires
proof_at-proof-requires c =
    let t = there_is view_transition c.args.spec.now.transitions c.args.h c.requires.there in
    let many = ap length (c.as_slice-owed.ensures ∙ c.in_ok-list.ensures t.0 t.1) ∙ sym (c.requires.count t.0 t.1) ∙ sym (ap length c.as_slice-given.ensures) in
    omega (arith, many, c.each-test.true)

pub try_proof-requires-clause-owed : goal.try_proof-requires-clause-owed
try_proof-requires-clause-owed c = λ t found.
    owed_at (view_module c.args.kernel.now) [] (view_spec c.args.spec.now) t c.as_slice-owed.result.now c.as_slice-given.result.now c.args.proofs.now
    (c.as_slice-owed.ensures ∙ c.in_ok-list.ensures t found) c.as_slice-given.ensures (c.requires.count t found) c.each.place _ c.each-test.true

pub try_proof-requires-clause-small : goal.try_proof-requires-clause-small
try_proof-requires-clause-small c = λ is l t laid found.
    few_at (view_module c.args.kernel.now) l.objects (view_spec c.args.spec.now) t c.as_slice-owed.result.now c.as_slice-given.result.now c.args.proofs.now
    (c.as_slice-owed.ensures ∙ c.in_ok-list.ensures t found) c.as_slice-given.ensures (c.requires.count t found) c.each.place _ _ c.each-test.true (c.requires.few l t laid found) (c.proof_at-proof.ensures _) is

pub returns-in-Refused : goal.returns-in-Refused
returns-in-Refused c = record {
  told = λ l t laid found.
      refused_at (view_module c.args.kernel.now) l.objects (view_spec c.args.spec.now) t c.as_slice-owed.result.now c.as_slice-given.result.now c.args.proofs.now
      (c.as_slice-owed.ensures ∙ c.in_ok-list.ensures t found) c.as_slice-given.ensures (c.requires.count t found) c.each.place _ _ c.in_ok-try_proof.field-0 _ c.in-Refused.row c.in-Refused.reason c.each-test.true
      (c.each.invariant.shown l t laid found) (c.proof_at-proof.ensures _) c.in-Refused.is (c.in_ok-try_proof.ensures.tried l t laid found);
}

pub returns-in-Violated : goal.returns-in-Violated
returns-in-Violated c = record {
  told = λ l t laid found.
      violated_at (view_module c.args.kernel.now) l.objects (view_spec c.args.spec.now) t c.as_slice-owed.result.now c.as_slice-given.result.now c.args.proofs.now
      (c.as_slice-owed.ensures ∙ c.in_ok-list.ensures t found) c.as_slice-given.ensures (c.requires.count t found) c.each.place _ _ c.in_ok-try_proof.field-0 _ c.each-test.true
      (c.each.invariant.shown l t laid found) (c.proof_at-proof.ensures _) c.in-Violated.is (c.in_ok-try_proof.ensures.tried l t laid found);
}

pub returns-in-NoSuch : goal.returns-in-NoSuch
returns-in-NoSuch c = record {
  told = λ l t laid found.
      no_such_at (view_module c.args.kernel.now) l.objects (view_spec c.args.spec.now) t c.as_slice-owed.result.now c.as_slice-given.result.now c.args.proofs.now
      (c.as_slice-owed.ensures ∙ c.in_ok-list.ensures t found) c.as_slice-given.ensures (c.requires.count t found) c.each.place _ _ c.in_ok-try_proof.field-0 _ c.each-test.true
      (c.each.invariant.shown l t laid found) (c.proof_at-proof.ensures _) c.in-NoSuch.is (c.in_ok-try_proof.ensures.tried l t laid found);
}

pub each-preserved : goal.each-preserved
each-preserved c = record {
  shown = λ l t laid found.
      shown_more (view_module c.args.kernel.now) l.objects (view_spec c.args.spec.now) t c.as_slice-owed.result.now c.as_slice-given.result.now c.args.proofs.now
      (c.as_slice-owed.ensures ∙ c.in_ok-list.ensures t found) c.as_slice-given.ensures (c.requires.count t found) c.each.place _ _ c.in_ok-try_proof.field-0 c.each-test.true
      (c.each.invariant.shown l t laid found) (c.proof_at-proof.ensures _) c.in-Shown.is (c.in_ok-try_proof.ensures.tried l t laid found);
  prepared = c.in_ok-try_proof.ensures.prepared;
  origins = λ l laid. subst (λ os. AreOriginsOf l.objects os) (sym c.in_ok-try_proof.ensures.origins) (c.each.invariant.origins l laid);
}

pub returns : goal.returns
returns c = record {
  told = λ l t laid found.
      all_shown (view_module c.args.kernel.now) l.objects (view_spec c.args.spec.now) t c.as_slice-owed.result.now c.as_slice-given.result.now c.args.proofs.now
      (c.as_slice-owed.ensures ∙ c.in_ok-list.ensures t found) c.as_slice-given.ensures (c.requires.count t found) c.each.place c.each-test.false (c.each.invariant.shown l t laid found);
}
