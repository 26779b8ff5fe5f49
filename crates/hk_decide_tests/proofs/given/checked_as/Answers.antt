use Rattle.std.proofs.Common.{rules, ◌≡◌, length, ap, sym, ◌∙◌, subst}
use Rattle.std.specs.Prelude.{IsTrue}
use Rattle.spec_tree.specs.View.{view_spec}
use Rattle.hk_check.specs.Told.{AreFew}
use Rattle.hk_decide_tests.proofs.given.checked_as.Goals as goal

pub may_all_stand-requires-clause-owed : goal.may_all_stand-requires-clause-owed
may_all_stand-requires-clause-owed c = λ t found. c.as_slice-owed.ensures ∙ c.in_ok-list.ensures t found

pub check-requires-clause-count : goal.check-requires-clause-count
check-requires-clause-count c = λ t found.
    let same : length c.as_slice-given.result.now ≡ length c.as_slice-owed.result.now = search rules in
    sym (ap length c.as_slice-given.ensures) ∙ same ∙ ap length (c.as_slice-owed.ensures ∙ c.in_ok-list.ensures t found)

pub check-requires-clause-few : goal.check-requires-clause-few
check-requires-clause-few c = λ l t laid found.
    let yes : IsTrue c.may_all_stand.result = search rules in
    subst (AreFew l.objects (view_spec c.args.spec.now) t) c.as_slice-given.ensures (c.may_all_stand.ensures l t laid found yes)
