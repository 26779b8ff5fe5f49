use Rattle.std.proofs.Common.{◌≤◌, ◌<◌, sym, ◌∙◌, subst}
use Rattle.hk_lrat.proofs.Denied.{Denies-none, Denies-more, refused-outside, refused-both}
use Rattle.hk_lrat.proofs.marks.deny.Goals as goal
use Rattle.hk_lrat.proofs.marks.deny.Goals.{then-place-vars-via-then-place-vars, then-place-vars-via-else-place-vars+then-is_marked}

pub loop-lit-init : goal.loop-lit-init
loop-lit-init c = Denies-none c.args.vars c.args.marks.now c.args.row c.requires.two_each c.requires.fresh

pub returns-then-place-vars-clause-answer : goal.returns-then-place-vars-clause-answer
returns-then-place-vars-clause-answer c =
    elim c.then-place-vars.branch [
      | then-place-vars-via-then-place-vars w ↦
          refused-outside c.args.vars c.args.clause.now c.loop-lit.lit-index c.lit-item.result c.loop-lit-test.true c.lit-item.is
          (subst (λ p. c.args.vars ≤ p) c.place.ensures.value w.if-place-vars.true)
      | then-place-vars-via-else-place-vars+then-is_marked w ↦
          refused-both c.args.vars c.loop-lit.marks c.args.row c.args.clause.now c.loop-lit.lit-index c.lit-item.result c.loop-lit.invariant c.loop-lit-test.true c.lit-item.is c.place.ensures.literal
          (subst (λ p. p < c.args.vars) c.place.ensures.value w.if-place-vars.false)
          (sym w.is_marked.ensures ∙ w.if-is_marked.true)
    ]

pub loop-lit-preserved : goal.loop-lit-preserved
loop-lit-preserved c =
    Denies-more c.args.vars c.loop-lit.marks c.mark.new.marks c.args.row c.args.clause.now c.loop-lit.lit-index c.lit-item.result c.negated.result
    (c.loop-lit.auto.marks ∙ c.requires.two_each) c.loop-lit.invariant c.loop-lit-test.true c.lit-item.is c.place.ensures.literal
    (subst (λ p. p < c.args.vars) c.place.ensures.value c.if-place-vars.false)
    (sym c.is_marked.ensures ∙ c.if-is_marked.false)
    c.negated.ensures.value c.mark.ensures
