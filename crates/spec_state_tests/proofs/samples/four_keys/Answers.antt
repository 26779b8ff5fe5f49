use Rattle.std.proofs.Common.{rules, ◌≡◌, sym, subst}
use Rattle.spec_tree.specs.Sorted.{IsWellSorted}
use Rattle.spec_tree.specs.View.{view_spec}
use Rattle.spec_state_tests.specs.Samples as sample
use Rattle.spec_state_tests.proofs.Sorted.{four_keys_sorted}
use Rattle.spec_state_tests.proofs.samples.four_keys.Goals as goal

pub returns-clause-sorted : goal.returns-clause-sorted
returns-clause-sorted c =
    let e : view_spec c.spec_of.result ≡ sample.four_keys = search rules in
    subst IsWellSorted (sym e) four_keys_sorted
