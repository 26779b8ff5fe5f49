use Rattle.std.proofs.Common.{◌≡◌, pos, sym, ◌∙◌, ap}
use Rattle.std.proofs.lemmas.List.{get_or_default}
use Rattle.hk_cnf.specs.Literal.{place_of}
use Rattle.hk_cdcl.specs.Path.{lit_at}
use Rattle.hk_cdcl.proofs.Marking.{lowest-more}
use Rattle.hk_cdcl.proofs.analyze.lowest_of.Goals as goal

pub loop-lit-preserved : goal.loop-lit-preserved
loop-lit-preserved c =
    let is : lit_at c.args.clause.now c.loop-lit.lit-index ≡ c.lit-item.result = get_or_default c.args.clause.now c.loop-lit.lit-index (pos 0) c.lit-item.result c.loop-lit-test.true ∙ sym c.lit-item.is in
    lowest-more c.args.trail.now.lits c.args.below c.args.clause.now c.loop-lit.lit-index c.args.lowest c.loop-lit.lower c.place.result c.lower_of-lower.result c.loop-lit.invariant c.loop-lit-test.true
    (c.requires.set c.loop-lit.lit-index (pos 0) c.loop-lit-test.true) (λ m a b. c.place.ensures m a (b ∙ ap place_of is)) c.lower_of-lower.ensures.less c.lower_of-lower.ensures.lesser c.lower_of-lower.ensures.one
