use Rattle.std.proofs.Common.{◌≡◌, ◌<◌, ◌+◌, true, length, take, set, pos, refl, sym, ◌∙◌, ap, subst, arith}
use Rattle.std.proofs.lemmas.List.{get_or_default}
use Rattle.hk_cnf.specs.Literal.{IsWithin, place_of}
use Rattle.hk_cdcl.specs.Path.{lit_at}
use Rattle.hk_cdcl.specs.Analysis.{Marks}
use Rattle.hk_cdcl.proofs.Marking.{marks-more}
use Rattle.hk_cdcl.proofs.analyze.mark_all.Goals as goal

pub loop-lit-preserved : goal.loop-lit-preserved
loop-lit-preserved c =
    let is : lit_at c.args.clause.now c.loop-lit.lit-index ≡ c.lit-item.result = get_or_default c.args.clause.now c.loop-lit.lit-index (pos 0) c.lit-item.result c.loop-lit-test.true ∙ sym c.lit-item.is in
    let w : IsWithin c.args.trail.now.vars (lit_at c.args.clause.now c.loop-lit.lit-index) = c.requires.within c.loop-lit.lit-index (pos 0) c.loop-lit-test.true in
    let low : place_of (lit_at c.args.clause.now c.loop-lit.lit-index) < c.args.trail.now.vars = w.below in
    let each : length c.args.seen.now ≡ c.args.trail.now.vars = c.requires.each in
    let same : length c.loop-lit.seen ≡ length c.args.seen.now = c.loop-lit.invariant.0.same in
    let b : place_of (lit_at c.args.clause.now c.loop-lit.lit-index) < length c.loop-lit.seen = omega (arith, low, each, same) in
    let e : c.mark_one.new.seen ≡ set c.loop-lit.seen (place_of (lit_at c.args.clause.now c.loop-lit.lit-index)) true = c.in_ok-mark_one.ensures.marks ∙ ap (λ x. set c.loop-lit.seen (place_of x) true) (sym is) in (
      subst (λ s. Marks c.args.seen.now s (take (c.loop-lit.lit-index + 1) c.args.clause.now)) (sym e) (marks-more c.args.seen.now c.loop-lit.seen c.args.clause.now c.loop-lit.lit-index (place_of (lit_at c.args.clause.now c.loop-lit.lit-index)) c.loop-lit.invariant.0 c.loop-lit-test.true refl b),
      λ t. c.in_ok-mark_one.ensures.lower (c.loop-lit.invariant.1 t),
    )
