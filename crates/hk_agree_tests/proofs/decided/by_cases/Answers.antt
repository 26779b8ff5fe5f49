use Rattle.std.proofs.Common.{rules, ◌<◌, length}
use Rattle.spec_tree.specs.View.{view_spec}
use Rattle.hk_inputs.proofs.Owing.{owed_at}
use Rattle.hk_agree_tests.proofs.decided.by_cases.Goals as goal

pub try_cases-requires-clause-owed : goal.try_cases-requires-clause-owed
try_cases-requires-clause-owed c = λ t found.
    let low : c.each.place < length c.args.owed.now = search rules in
    (c.each.place, owed_at (view_spec c.args.spec.now) t c.args.owed.now c.each.place _ (c.requires.owed t found) low)
