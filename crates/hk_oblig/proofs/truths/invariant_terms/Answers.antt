use Rattle.std.proofs.Common.{◌+◌, ℕ, Bool, List, sym, subst}
use Rattle.hk_symvalue.proofs.Frames.{followed}
use Rattle.hk_term.specs.Meaning.{Reading}
use Rattle.spec_tree.specs.View.{view_spec}
use Rattle.spec_tree.specs.Meaning.{Memory, invariant_holds}
use Rattle.hk_oblig.specs.Under.{IsMemoryAt}
use Rattle.hk_oblig.proofs.Growing.{kernel_stays, memory_stays}
use Rattle.hk_oblig.proofs.Gathering.{Gathered, tells_named, one_gathered}
use Rattle.hk_oblig.proofs.truths.invariant_terms.Goals as goal

pub each-preserved : goal.each-preserved
each-preserved g c =
    let s = view_spec c.args.spec.now in
    let stands : Reading → Memory → Type 0 = λ v m. IsMemoryAt c.args.t.now c.args.memory.now v m in
    let tells : Memory → ℕ → Bool → Type 0 = tells_named s.invariants (λ (m : Memory) n. invariant_holds s n m) in
    let grown = c.invariant_at.ensures.frame in
    record {
      frame = followed c.args.t.now c.each.t c.invariant_at.new.t c.each.invariant.frame grown;
      over = kernel_stays c.each.t c.invariant_at.new.t grown s c.args.memory.now c.each.invariant.over;
      gathered = subst (λ (l : List ℕ). Gathered c.invariant_at.new.t stands tells l (c.each.i + 1)) (sym c.in_ok-push.ensures.items)
          (one_gathered c.each.t c.invariant_at.new.t stands tells c.each.terms.items c.in_ok-term.term c.each.i grown c.each.invariant.gathered c.in_ok-term.ensures.truth
          (λ v m h n at. c.in_ok-term.ensures.told n at v m (memory_stays c.args.t.now c.each.t c.each.invariant.frame s c.args.memory.now v m c.requires.memory h)));
    }
