use Rattle.std.proofs.Common.{◌+◌, ◌≤◌, arith, subst}
use Rattle.hk_term.specs.Operations.{ResizeFits}
use Rattle.hk_term.specs.Shape.{width}
use Rattle.hk_range.proofs.parts.resized_parts.Goals as goal

pub low_part-requires-clause-width : goal.low_part-requires-clause-width
low_part-requires-clause-width c =
    let w = width c.args.t.now c.args.x in
    let h : (1 ≤ c.args.to) × (c.in-Extract.low + c.args.to ≤ w) = subst (λ k. ResizeFits k w c.args.to) c.in-Extract.is c.requires.fits in
    (h.0, let e = h.1 in omega (arith, e, c.sized-w.ensures.width, c.sized-w.ensures.is_width.1))

pub returns-in-Zero : goal.returns-in-Zero
returns-in-Zero c = rw c.in-Zero.is (λ a h. (c.requires.term, λ v k. let e = h v in omega (arith, e)))

pub returns-in-Extract : goal.returns-in-Extract
returns-in-Extract c = rw c.in-Extract.is (λ a h. c.low_part.ensures a h)
