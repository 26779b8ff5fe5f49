use Rattle.std.proofs.Common.{sym, ◌∙◌}
use Rattle.hk_symvalue.proofs.Frames.{followed}
use Rattle.spec_tree.specs.View.{view_spec}
use Rattle.spec_tree.specs.Meaning.{abstraction}
use Rattle.hk_oblig.proofs.Growing.{kernel_stays, memory_stays, numbers_stay, terms_stay, truth_stays, true_stays}
use Rattle.hk_oblig.proofs.run.first_terms.Goals as goal

pub abstraction_of-requires-clause-memory : goal.abstraction_of-requires-clause-memory
abstraction_of-requires-clause-memory g c = kernel_stays c.args.t.now c.all_invariants.new.t c.all_invariants.ensures.frame (view_spec c.args.spec.now) c.args.start.now c.requires.start

pub step_from-requires-clause-args : goal.step_from-requires-clause-args
step_from-requires-clause-args g c = λ u at.
    let grown = followed c.args.t.now c.all_invariants.new.t c.abstraction_of.new.t c.all_invariants.ensures.frame c.abstraction_of.ensures.frame in
    terms_stay c.args.t.now c.abstraction_of.new.t grown u.widths c.args.args.now (c.requires.args u at)

pub returns-clause-invariants : goal.returns-clause-invariants
returns-clause-invariants g c =
    let grown = followed c.all_invariants.new.t c.abstraction_of.new.t c.step_from.new.t c.abstraction_of.ensures.frame c.step_from.ensures.frame in
    truth_stays c.all_invariants.new.t c.step_from.new.t grown c.in_ok-invariants.invariants c.in_ok-invariants.ensures.truth

pub returns-clause-told : goal.returns-clause-told
returns-clause-told g c = λ u at v m ns h k.
    let s = view_spec c.args.spec.now in
    let t0 = c.args.t.now in
    let t1 = c.all_invariants.new.t in
    let t2 = c.abstraction_of.new.t in
    let t3 = c.step_from.new.t in
    let first = c.all_invariants.ensures.frame in
    let later = followed t1 t2 t3 c.abstraction_of.ensures.frame c.step_from.ensures.frame in
    let at_first = followed t0 t1 t2 first c.abstraction_of.ensures.frame in
    let x = c.in_ok-state.ensures.told v m (memory_stays t0 t1 first s c.args.start.now v m c.requires.start h) in
    let numbers = numbers_stay t0 t2 at_first u.widths c.args.args.now v ns (c.requires.args u at) k in
    let step = c.in_ok-step.ensures.told u at v (abstraction s m) ns x numbers in
    let held = c.in_ok-invariants.ensures.told v m h in
    let same = true_stays t1 t3 later c.in_ok-invariants.invariants c.in_ok-invariants.ensures.truth v in
    record { invariants = (λ e. held.0 (sym same ∙ e), λ a. same ∙ held.1 a); valid = step.valid; wanted = step.result }

pub returns-clause-state : goal.returns-clause-state
returns-clause-state g c = λ u at v m ns h k.
    let s = view_spec c.args.spec.now in
    let t0 = c.args.t.now in
    let t1 = c.all_invariants.new.t in
    let t2 = c.abstraction_of.new.t in
    let first = c.all_invariants.ensures.frame in
    let at_first = followed t0 t1 t2 first c.abstraction_of.ensures.frame in
    let x = c.in_ok-state.ensures.told v m (memory_stays t0 t1 first s c.args.start.now v m c.requires.start h) in
    let numbers = numbers_stay t0 t2 at_first u.widths c.args.args.now v ns (c.requires.args u at) k in
    (c.in_ok-step.ensures.told u at v (abstraction s m) ns x numbers).state
