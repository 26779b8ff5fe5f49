use Rattle.std.proofs.Common.{sym, ◌∙◌, ap, length, rules}
use Rattle.ir_ast.specs.ProgramView.{view_entries, view_type_entry}
use Rattle.ir_typing.proofs.Typing.{list_is}
use Rattle.ir_typing.proofs.ValueLaws.{other_count}
use Rattle.ir_typing.proofs.values.+values.Goals as goal

pub same_indices-returns-then-indices-others-clause-same : goal.same_indices-returns-then-indices-others-clause-same
same_indices-returns-then-indices-others-clause-same t c =
    rw (list_is c.args.first.now, list_is c.args.second.now)
    (other_count (view_entries view_type_entry c.args.types.now) c.args.first.now.items.items c.args.second.now.items.items
    (λ h. c.if-indices-others.true (ap length c.as_slice-indices.ensures.value ∙ h ∙ sym (ap length c.as_slice-others.ensures.value))))

pub same_indices-each-init : goal.same_indices-each-init
same_indices-each-init t c = rw (list_is c.args.first.now, list_is c.args.second.now) (search rules)
