use Rattle.std.proofs.Common.{◌≡◌, ◌<◌, ◌^◌, ap, sym, subst, ◌∙◌, rules}
use Rattle.hk_num.specs.Numbers.{bvadd}
use Rattle.hk_term.specs.Shape.{width}
use Rattle.hk_term.specs.Meaning.{value}
use Rattle.hk_simplify.specs.Forms.{form_value}
use Rattle.hk_simplify.proofs.SumLaws.{coincidence_value}
use Rattle.hk_simplify.proofs.sums.coincidence.Goals as goal

pub returns-then-eq-clause-value : goal.returns-then-eq-clause-value
returns-then-eq-clause-value c = λ v.
    let from = c.sum_of-from in
    let to = c.sum_of-to in
    let w = width c.args.t.now c.args.a in
    let same : from.result.of ≡ to.result.of = search rules in
    let second : value c.args.t.now c.args.b v ≡ bvadd w (value c.args.t.now from.result.of v) to.result.number = to.ensures.value v ∙ (λ i. bvadd (sym c.requires.widths i) (value c.args.t.now (sym same i) v) to.result.number) in
    let less : to.result.number < 2 ^ w = subst (λ k. to.result.number < 2 ^ k) (sym c.requires.widths) to.ensures.number in
    ap (λ f. form_value c.args.t.now f v) c.folded.ensures.is
    ∙ coincidence_value w (value c.args.t.now from.result.of v) from.result.number to.result.number (value c.args.t.now c.args.a v) (value c.args.t.now c.args.b v) (from.ensures.value v) second (from.ensures.below v) from.ensures.number less
