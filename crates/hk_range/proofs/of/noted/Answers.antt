use Rattle.std.proofs.Common.{ℕ, sym, subst, get_or}
use Rattle.hk_term.specs.Meaning.{value}
use Rattle.hk_range.specs.Ranges.{InRange}
use Rattle.hk_range.specs.declared.known.Fact.{Fact}
use Rattle.hk_range.proofs.of.noted.Goals as goal

pub loop-fact-preserved : goal.loop-fact-preserved
loop-fact-preserved c = λ v h.
    let P : Fact → Type 0 = λ f. InRange f.range (value c.args.t.now f.term v) in
    let at : P (get_or c.args.facts.now c.loop-fact.fact-index c.fact-item.result) = h c.loop-fact.fact-index c.fact-item.result c.loop-fact-test.true in
    c.narrowed-range.ensures (λ k. value c.args.t.now k v) (c.loop-fact.invariant v h) (subst P (sym c.fact-item.is) at)
