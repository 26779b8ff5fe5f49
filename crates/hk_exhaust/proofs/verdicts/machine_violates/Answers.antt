use Rattle.std.proofs.Common.{rules, ◌≡◌, true, subst}
use Rattle.ir_ast.specs.ProgramView.{view_module}
use Rattle.spec_tree.specs.View.{view_spec, view_transition}
use Rattle.spec_tree.specs.Meaning as meaning
use Rattle.hk_exhaust.specs.Answers.{Tells}
use Rattle.hk_exhaust.proofs.Telling.{falls_told}
use Rattle.hk_exhaust.proofs.verdicts.machine_violates.Goals as goal

pub returns : goal.returns
returns c =
    let s = view_spec c.args.handler.now.spec.now in
    let t = view_transition c.args.handler.now.transition.now in
    let held : c.in_ok-held.held ≡ true = search rules in
    falls_told (view_module c.args.kernel.now) s t c.args.o c.args.memory.now c.args.args.now c.in_ok-end.end c.in_ok-missed.missed
    (subst (λ b. Tells b (meaning.Invariant s c.args.memory.now)) held c.in_ok-held.ensures)
    c.in_ok-end.ensures.end c.in_ok-missed.ensures
