use Rattle.std.proofs.Common.{◌∙◌, ap, map}
use Rattle.spec_ast.specs.View.{view_expr}
use Rattle.spec_lines.proofs.Trees.{trees_listed}
use Rattle.spec_lines.proofs.equation.trees_of.Goals as goal

pub returns : goal.returns
returns c = ap (map view_expr) c.as_slice.ensures.value ∙ trees_listed c.args.es.now
