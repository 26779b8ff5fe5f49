use Rattle.std.proofs.Common.{◌≡◌, ◌∙◌, true, false, nat_eq, sym, subst}
use Rattle.hk_term.specs.Meaning.{value}
use Rattle.ir_ast.specs.ProgramView.{view_module}
use Rattle.spec_tree.specs.View.{view_spec, view_transition}
use Rattle.hk_oblig.specs.Asking.{Asks, IsPrepared, PreparedView, is_property}
use Rattle.hk_oblig.proofs.Owing.{some_there}
use Rattle.hk_oblig.proofs.Readiness.{step_grown, run_grown}
use Rattle.hk_oblig.proofs.Answering.{step_goal, run_goal, step_asks, run_asks}
use Rattle.hk_oblig.proofs.handler.Prepared.question.Goals as goal

pub ask-requires-clause-parts : goal.ask-requires-clause-parts
ask-requires-clause-parts c =
    let m = view_module c.args.kernel.now in
    let s = view_spec c.args.spec.now in
    let p : PreparedView = record { origins = c.self.inside.reads; run = c.self.inside.run; step = c.self.inside.step } in
    let t = some_there view_transition c.args.spec.now.transitions c.args.h c.requires.there in
    let ready : IsPrepared m s t.0 p = subst (IsPrepared m s t.0) (sym c.self.view_is) (c.requires.prepared t.0 t.1) in
    ready.step.parts

pub ask-requires-clause-there : goal.ask-requires-clause-there
ask-requires-clause-there c =
    let m = view_module c.args.kernel.now in
    let s = view_spec c.args.spec.now in
    let p : PreparedView = record { origins = c.self.inside.reads; run = c.self.inside.run; step = c.self.inside.step } in
    let t = some_there view_transition c.args.spec.now.transitions c.args.h c.requires.there in
    let ready : IsPrepared m s t.0 p = subst (IsPrepared m s t.0) (sym c.self.view_is) (c.requires.prepared t.0 t.1) in
    let is : is_property c.args.o ≡ true = sym c.is_property.ensures ∙ c.if-is_property.true in
    step_goal m s t.0 p c.args.o ready is (c.requires.owed t.0 t.1)

pub returns-in_err-question-clause-prepared : goal.returns-in_err-question-clause-prepared
returns-in_err-question-clause-prepared c = λ t at.
    let m = view_module c.args.kernel.now in
    let s = view_spec c.args.spec.now in
    let p : PreparedView = record { origins = c.self.inside.reads; run = c.self.inside.run; step = c.self.inside.step } in
    let ready : IsPrepared m s t p = subst (IsPrepared m s t) (sym c.self.view_is) (c.requires.prepared t at) in
    step_grown m s t p c.ask.new.listed c.ask.ensures.grown c.ask.ensures.parts ready

pub returns-in_ok-question-clause-prepared : goal.returns-in_ok-question-clause-prepared
returns-in_ok-question-clause-prepared c = λ t at.
    let m = view_module c.args.kernel.now in
    let s = view_spec c.args.spec.now in
    let p : PreparedView = record { origins = c.self.inside.reads; run = c.self.inside.run; step = c.self.inside.step } in
    let ready : IsPrepared m s t p = subst (IsPrepared m s t) (sym c.self.view_is) (c.requires.prepared t at) in
    step_grown m s t p c.ask.new.listed c.ask.ensures.grown c.ask.ensures.parts ready

pub returns-in_ok-question-clause-asks : goal.returns-in_ok-question-clause-asks
returns-in_ok-question-clause-asks c = λ t at.
    let m = view_module c.args.kernel.now in
    let s = view_spec c.args.spec.now in
    let p : PreparedView = record { origins = c.self.inside.reads; run = c.self.inside.run; step = c.self.inside.step } in
    let ready : IsPrepared m s t p = subst (IsPrepared m s t) (sym c.self.view_is) (c.requires.prepared t at) in
    let is : is_property c.args.o ≡ true = sym c.is_property.ensures ∙ c.if-is_property.true in
    subst (λ (v : PreparedView). Asks m v.origins s t c.args.o (λ u. nat_eq (value c.in_ok-question.question.nodes c.in_ok-question.question.goal u) 1)) c.self.view_is
    (step_asks m s t p c.args.o ready c.in_ok-question.question.nodes c.in_ok-question.question.goal is c.in_ok-question.ensures.violates)

pub ask-requires-else-is_property-clause-parts : goal.ask-requires-else-is_property-clause-parts
ask-requires-else-is_property-clause-parts c =
    let m = view_module c.args.kernel.now in
    let s = view_spec c.args.spec.now in
    let p : PreparedView = record { origins = c.self.inside.reads; run = c.self.inside.run; step = c.self.inside.step } in
    let t = some_there view_transition c.args.spec.now.transitions c.args.h c.requires.there in
    let ready : IsPrepared m s t.0 p = subst (IsPrepared m s t.0) (sym c.self.view_is) (c.requires.prepared t.0 t.1) in
    ready.run.parts

pub ask-requires-else-is_property-clause-there : goal.ask-requires-else-is_property-clause-there
ask-requires-else-is_property-clause-there c =
    let m = view_module c.args.kernel.now in
    let s = view_spec c.args.spec.now in
    let p : PreparedView = record { origins = c.self.inside.reads; run = c.self.inside.run; step = c.self.inside.step } in
    let t = some_there view_transition c.args.spec.now.transitions c.args.h c.requires.there in
    let ready : IsPrepared m s t.0 p = subst (IsPrepared m s t.0) (sym c.self.view_is) (c.requires.prepared t.0 t.1) in
    let is : is_property c.args.o ≡ false = sym c.is_property.ensures ∙ c.if-is_property.false in
    run_goal m s t.0 p c.args.o ready is (c.requires.owed t.0 t.1)

pub returns-in_err-question-2-clause-prepared : goal.returns-in_err-question-2-clause-prepared
returns-in_err-question-2-clause-prepared c = λ t at.
    let m = view_module c.args.kernel.now in
    let s = view_spec c.args.spec.now in
    let p : PreparedView = record { origins = c.self.inside.reads; run = c.self.inside.run; step = c.self.inside.step } in
    let ready : IsPrepared m s t p = subst (IsPrepared m s t) (sym c.self.view_is) (c.requires.prepared t at) in
    run_grown m s t p c.ask-else-is_property.new.listed c.ask-else-is_property.ensures.grown c.ask-else-is_property.ensures.parts ready

pub returns-in_ok-question-2-clause-prepared : goal.returns-in_ok-question-2-clause-prepared
returns-in_ok-question-2-clause-prepared c = λ t at.
    let m = view_module c.args.kernel.now in
    let s = view_spec c.args.spec.now in
    let p : PreparedView = record { origins = c.self.inside.reads; run = c.self.inside.run; step = c.self.inside.step } in
    let ready : IsPrepared m s t p = subst (IsPrepared m s t) (sym c.self.view_is) (c.requires.prepared t at) in
    run_grown m s t p c.ask-else-is_property.new.listed c.ask-else-is_property.ensures.grown c.ask-else-is_property.ensures.parts ready

pub returns-in_ok-question-2-clause-asks : goal.returns-in_ok-question-2-clause-asks
returns-in_ok-question-2-clause-asks c = λ t at.
    let m = view_module c.args.kernel.now in
    let s = view_spec c.args.spec.now in
    let p : PreparedView = record { origins = c.self.inside.reads; run = c.self.inside.run; step = c.self.inside.step } in
    let ready : IsPrepared m s t p = subst (IsPrepared m s t) (sym c.self.view_is) (c.requires.prepared t at) in
    let is : is_property c.args.o ≡ false = sym c.is_property.ensures ∙ c.if-is_property.false in
    subst (λ (v : PreparedView). Asks m v.origins s t c.args.o (λ u. nat_eq (value c.in_ok-question-2.question.nodes c.in_ok-question-2.question.goal u) 1)) c.self.view_is
    (run_asks m s t p c.args.o ready c.in_ok-question-2.question.nodes c.in_ok-question-2.question.goal is c.in_ok-question-2.ensures.violates)
