use Rattle.ir_ast.specs.ProgramView.{view_entries, view_type_entry}
use Rattle.ir_measure.proofs.Shaping.{opaque_first, nothing_measured}
use Rattle.ir_measure.proofs.shapes.Shapes.of.Goals as goal

pub returns : goal.returns
returns c = record {
  own = c.in_ok-numbers.ensures;
  sound = record {
    first = opaque_first (view_entries view_type_entry c.args.types.now) c.in_ok-numbers.numbers c.in_ok-numbers.ensures;
    measured = nothing_measured (view_entries view_type_entry c.args.types.now) c.in_ok-numbers.numbers c.in_ok-measures.measures.items c.in_ok-numbers.ensures c.in_ok-measures.ensures;
  };
}
