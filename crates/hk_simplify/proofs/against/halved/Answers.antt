use Rattle.std.proofs.Common.{◌-◌, ◌^◌, ap, ◌∙◌, bit_and}
use Rattle.hk_term.specs.Shape.{width}
use Rattle.hk_simplify.proofs.NumberLaws.{high_below, halves_value}
use Rattle.hk_simplify.proofs.against.halved.Goals as goal

pub returns-clause-upper : goal.returns-clause-upper
returns-clause-upper c =
    rw c.sized-u.ensures.width (c.requires.first, high_below (width c.args.t.now c.args.x) (width c.args.t.now c.args.y) c.args.n c.requires.number)

pub returns-clause-value : goal.returns-clause-value
returns-clause-value c = λ v.
    let low = ap (bit_and c.args.n) (c.greatest.ensures ∙ ap (λ k. 2 ^ k - 1) c.sized-u.ensures.width) in
    rw c.sized-u.ensures.width
    (halves_value (width c.args.t.now c.args.y) _ _ c.args.n _ low (rw c.sized-u.ensures.width at (c.sized-u.ensures.below v)))
