use Rattle.ir_ast.specs.ProgramView.{view_module}
use Rattle.ir_typing.specs.Scoped.{function_in}
use Rattle.ir_measure.specs.Shaped.{type_in}
use Rattle.ir_resolve.proofs.Moves.{all_moves}
use Rattle.ir_resolve.proofs.operands.add_moves.Goals as goal

pub returns-in_ok-add_parts-in-len1-up-clause-moves : goal.returns-in_ok-add_parts-in-len1-up-clause-moves
returns-in_ok-add_parts-in-len1-up-clause-moves c =
    all_moves (view_module c.args.context.now.kernel.now) (function_in c.args.context.now.scope.now) c.args.flags (type_in c.args.shapes.now c.args.over) (type_in c.add_first.new.shapes c.args.over) c.args.indices.now
    c.as_slice.result.now c.index-item.result _ _ _ _ c.as_slice.ensures.value c.in-len1-up.len_at_least c.index-item.is
    (c.in_ok-add_first-in-len1-up.ensures.keeps c.args.over c.requires.within)
    c.in_ok-push.ensures.ok c.in_ok-add_first-in-len1-up.ensures.moves c.in_ok-add_parts-in-len1-up.ensures.moves
