use Rattle.std.proofs.Common.{rules, ◌<◌, ◌∙◌, length}
use Rattle.spec_tree.specs.View.{view_spec}
use Rattle.hk_inputs.proofs.Owing.{owed_at}
use Rattle.hk_decide_tests.proofs.asked.question_at.Goals as goal

pub question-requires-clause-owed : goal.question-requires-clause-owed
question-requires-clause-owed c = λ t found.
    let low : c.args.place < length c.as_slice-items.result.now = search rules in
    (c.args.place, owed_at (view_spec c.args.inputs.now.spec) t c.as_slice-items.result.now c.args.place _ (c.as_slice-items.ensures ∙ c.in_ok-owed.ensures t found) low)
