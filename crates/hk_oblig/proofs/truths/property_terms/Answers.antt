use Rattle.std.proofs.Common.{◌+◌, ℕ, Bool, List, sym, subst}
use Rattle.hk_symvalue.proofs.Frames.{followed}
use Rattle.hk_term.specs.Meaning.{Reading}
use Rattle.spec_tree.specs.View.{view_spec}
use Rattle.spec_tree.specs.Meaning.{State, property_holds}
use Rattle.hk_oblig.specs.Under.{IsStateAt}
use Rattle.hk_oblig.proofs.Growing.{over_stays, state_stays}
use Rattle.hk_oblig.proofs.Gathering.{Gathered, tells_named, one_gathered}
use Rattle.hk_oblig.proofs.truths.property_terms.Goals as goal

pub each-preserved : goal.each-preserved
each-preserved g c =
    let s = view_spec c.args.spec.now in
    let stands : Reading → State → Type 0 = λ v x. IsStateAt s c.args.t.now c.args.state.now v x in
    let tells : State → ℕ → Bool → Type 0 = tells_named s.properties (λ (x : State) n. property_holds s n x) in
    let grown = c.property_at.ensures.frame in
    record {
      frame = followed c.args.t.now c.each.t c.property_at.new.t c.each.invariant.frame grown;
      over = over_stays c.each.t c.property_at.new.t grown s c.args.state.now c.each.invariant.over;
      gathered = subst (λ (l : List ℕ). Gathered c.property_at.new.t stands tells l (c.each.p + 1)) (sym c.in_ok-push.ensures.items)
          (one_gathered c.each.t c.property_at.new.t stands tells c.each.terms.items c.in_ok-term.term c.each.p grown c.each.invariant.gathered c.in_ok-term.ensures.truth
          (λ v x h n at. c.in_ok-term.ensures.told n at v x (state_stays c.args.t.now c.each.t c.each.invariant.frame s c.args.state.now v x c.requires.over h)));
    }
