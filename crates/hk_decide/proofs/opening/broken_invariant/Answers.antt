use Rattle.std.proofs.Common.{rules, ◌∙◌, ◌<◌, not, length, ap, sym, arith}
use Rattle.std.proofs.lemmas.List.{length-map}
use Rattle.spec_tree.specs.Plain.{Named}
use Rattle.spec_tree.specs.View.{view_spec, view_named}
use Rattle.spec_tree.specs.Meaning.{invariant_holds}
use Rattle.hk_decide.proofs.Firsts.{all_left, one_less, is_first}
use Rattle.hk_decide.proofs.opening.broken_invariant.Goals as goal

pub each-init : goal.each-init
each-init c = all_left (λ (n : Named). not (invariant_holds (view_spec c.args.spec.now) n c.args.memory.now)) (view_spec c.args.spec.now).invariants

pub returns-then-not-branch : goal.returns-then-not-branch
returns-then-not-branch c =
    let there : c.each.i < length c.args.spec.now.invariants = search rules in
    is_first (λ (n : Named). not (invariant_holds (view_spec c.args.spec.now) n c.args.memory.now)) (view_spec c.args.spec.now).invariants c.each.i (omega (arith, there, length-map c.args.spec.now.invariants view_named))
    (λ x found. ap not (sym (c.in_ok-invariant_holds.ensures x found) ∙ c.if-not-branch.true)) c.each.invariant

pub each-preserved : goal.each-preserved
each-preserved c =
    let there : c.each.i < length c.args.spec.now.invariants = search rules in
    one_less (λ (n : Named). not (invariant_holds (view_spec c.args.spec.now) n c.args.memory.now)) (view_spec c.args.spec.now).invariants c.each.i (omega (arith, there, length-map c.args.spec.now.invariants view_named))
    (λ x found. ap not (sym (c.in_ok-invariant_holds.ensures x found) ∙ c.if-not-branch.false)) c.each.invariant
