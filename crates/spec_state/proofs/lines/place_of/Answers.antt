use Rattle.spec_tree.specs.View.{view_expr_list}
use Rattle.spec_number.specs.Evaluation.{context_of}
use Rattle.spec_state.proofs.Points.{indices_sorted}
use Rattle.spec_state.proofs.lines.place_of.Goals as goal

pub numbers_of-requires-clause-sorted : goal.numbers_of-requires-clause-sorted
numbers_of-requires-clause-sorted c =
    indices_sorted (context_of c.args.reading.now c.args.frame.now) c.requires.sorted.0.keys (view_expr_list c.args.at.now) c.requires.sorted.2
