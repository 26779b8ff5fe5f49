use Rattle.std.proofs.Common.{subst}
use Rattle.ir_ast.specs.ProgramView.{view_module}
use Rattle.spec_tree.specs.View.{view_spec, view_transition}
use Rattle.hk_case.specs.declared.Case.TheVariants.{Machine}
use Rattle.hk_exhaust.specs.Handlers.{HasShape}
use Rattle.hk_exhaust.proofs.Telling.{can_call}
use Rattle.hk_exhaust.proofs.verdicts.machine_case.Goals as goal

pub machine_violates-requires-clause-call : goal.machine_violates-requires-clause-call
machine_violates-requires-clause-call c =
    let h = c.args.handler.now in
    let shape = subst (λ o. HasShape h.spec.now h.transition.now o (Machine c.args.memory.now c.args.args.now)) c.in-Undefined.is c.requires.shape in
    can_call (view_module c.args.kernel.now) (view_spec h.spec.now) h.place (view_transition h.transition.now) c.args.args.now c.requires.fits c.requires.handler.there shape.1

pub machine_violates-requires-in-Invariant-clause-call : goal.machine_violates-requires-in-Invariant-clause-call
machine_violates-requires-in-Invariant-clause-call c =
    let h = c.args.handler.now in
    let shape = subst (λ o. HasShape h.spec.now h.transition.now o (Machine c.args.memory.now c.args.args.now)) c.in-Invariant.is c.requires.shape in
    can_call (view_module c.args.kernel.now) (view_spec h.spec.now) h.place (view_transition h.transition.now) c.args.args.now c.requires.fits c.requires.handler.there shape.1

pub machine_violates-requires-in-State-clause-call : goal.machine_violates-requires-in-State-clause-call
machine_violates-requires-in-State-clause-call c =
    let h = c.args.handler.now in
    let shape = subst (λ o. HasShape h.spec.now h.transition.now o (Machine c.args.memory.now c.args.args.now)) c.in-State.is c.requires.shape in
    can_call (view_module c.args.kernel.now) (view_spec h.spec.now) h.place (view_transition h.transition.now) c.args.args.now c.requires.fits c.requires.handler.there shape.1

pub machine_violates-requires-in-ResultValue-clause-call : goal.machine_violates-requires-in-ResultValue-clause-call
machine_violates-requires-in-ResultValue-clause-call c =
    let h = c.args.handler.now in
    let shape = subst (λ o. HasShape h.spec.now h.transition.now o (Machine c.args.memory.now c.args.args.now)) c.in-ResultValue.is c.requires.shape in
    can_call (view_module c.args.kernel.now) (view_spec h.spec.now) h.place (view_transition h.transition.now) c.args.args.now c.requires.fits c.requires.handler.there shape.1
