use Rattle.hk_symvalue.proofs.Frames.{followed}
use Rattle.spec_tree.specs.View.{view_spec}
use Rattle.spec_tree.specs.Meaning.{abstraction, invariant_holds}
use Rattle.hk_oblig.proofs.Growing.{kernel_stays, memory_stays, over_stays, state_stays, truths_stay, each_stays}
use Rattle.hk_oblig.proofs.run.behind_terms.Goals as goal

pub abstraction_of-requires-clause-memory : goal.abstraction_of-requires-clause-memory
abstraction_of-requires-clause-memory g c = kernel_stays c.args.t.now c.invariant_terms.new.t c.invariant_terms.ensures.frame (view_spec c.args.spec.now) c.args.memory.now c.requires.memory

pub agreement_terms-requires-clause-second : goal.agreement_terms-requires-clause-second
agreement_terms-requires-clause-second g c =
    let grown = followed c.args.t.now c.invariant_terms.new.t c.abstraction_of.new.t c.invariant_terms.ensures.frame c.abstraction_of.ensures.frame in
    over_stays c.args.t.now c.abstraction_of.new.t grown (view_spec c.args.spec.now) c.args.step.now.state c.requires.step

pub returns-clause-kept : goal.returns-clause-kept
returns-clause-kept g c =
    let grown = followed c.invariant_terms.new.t c.abstraction_of.new.t c.agreement_terms.new.t c.abstraction_of.ensures.frame c.agreement_terms.ensures.frame in
    truths_stay c.invariant_terms.new.t c.agreement_terms.new.t grown c.in_ok-kept.kept c.in_ok-kept.ensures.truths

pub returns-clause-told : goal.returns-clause-told
returns-clause-told g c = λ v after end h k.
    let s = view_spec c.args.spec.now in
    let t0 = c.args.t.now in
    let t1 = c.invariant_terms.new.t in
    let t2 = c.abstraction_of.new.t in
    let t3 = c.agreement_terms.new.t in
    let later = followed t1 t2 t3 c.abstraction_of.ensures.frame c.agreement_terms.ensures.frame in
    let at_first = followed t0 t1 t2 c.invariant_terms.ensures.frame c.abstraction_of.ensures.frame in
    let state = c.in_ok-state.ensures.told v after (memory_stays t0 t1 c.invariant_terms.ensures.frame s c.args.memory.now v after c.requires.memory h) in
    record {
      kept = each_stays t1 t3 later v c.in_ok-kept.kept s.invariants (λ n. invariant_holds s n after) c.in_ok-kept.ensures.truths (c.in_ok-kept.ensures.told v after h);
      agree = c.in_ok-agree.ensures.told v (abstraction s after) end.state state (state_stays t0 t2 at_first s c.args.step.now.state v end.state c.requires.step k);
    }
