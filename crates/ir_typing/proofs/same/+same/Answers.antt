use Rattle.std.proofs.Common.{sym, ◌∙◌, ap, length}
use Rattle.ir_typing.proofs.SameSteps.{other_length, list_is}
use Rattle.ir_typing.proofs.same.+same.Goals as goal

pub same_lists-returns-then-parts-others : goal.same_lists-returns-then-parts-others
same_lists-returns-then-parts-others t c =
    rw (list_is c.args.first.now, list_is c.args.second.now)
    (other_length c.args.first.now.items.items c.args.second.now.items.items
    (λ h. c.if-parts-others.true (ap length c.as_slice-parts.ensures.value ∙ h ∙ sym (ap length c.as_slice-others.ensures.value))))
