use Rattle.std.proofs.Common.{sym, ◌∙◌}
use Rattle.ir_typed.proofs.SpelledLaws.{one_on, one_not}
use Rattle.ir_typed.proofs.spelling.are_functions_spelled.Goals as goal

pub returns-then-not-is_body_spelled : goal.returns-then-not-is_body_spelled
returns-then-not-is_body_spelled c =
    sym (one_not c.args.functions.now c.each.place c.at.result.now c.at.ensures (sym c.is_body_spelled.ensures ∙ c.if-not-is_body_spelled.true)) ∙ c.each.invariant

pub each-preserved : goal.each-preserved
each-preserved c =
    one_on c.args.functions.now c.each.place c.at.result.now c.at.ensures (sym c.is_body_spelled.ensures ∙ c.if-not-is_body_spelled.false) ∙ c.each.invariant
