use Rattle.spec_tree.specs.View.{view_spec, view_transition}
use Rattle.hk_oblig.proofs.Owing.{some_there, wanted_listed}
use Rattle.hk_oblig.proofs.Stepping.{step_told}
use Rattle.hk_oblig.proofs.states.step_from.Goals as goal

pub returns-clause-told : goal.returns-clause-told
returns-clause-told g c = λ u at v x ns h k.
    step_told (view_spec c.args.spec.now) u c.args.t.now c.transition_terms.new.t v c.args.state.now c.args.args.now x ns c.in_ok-step.step.valid c.in_ok-step.step.state c.in_ok-step.step.result
    (c.in_ok-step.ensures.value u at v h.steady k.steady) (c.in_ok-step.ensures.steady v h.steady k.steady) h k

pub returns-clause-result : goal.returns-clause-result
returns-clause-result g c =
    let found = some_there view_transition c.args.spec.now.transitions c.args.h c.requires.there in
    wanted_listed c.transition_terms.new.t found.0 c.in_ok-step.step.result (c.in_ok-step.ensures.result found.0 found.1)
