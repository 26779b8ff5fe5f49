use Rattle.std.proofs.Common.{◌≤◌, ◌∙◌, arith}
use Rattle.hk_term.specs.Shape.{width}
use Rattle.hk_term.specs.Meaning.{value}
use Rattle.hk_simplify.proofs.NumberLaws.{signs_value}
use Rattle.hk_simplify.proofs.shift.ashr_form.Goals as goal

pub returns-then-beyond-clause-value : goal.returns-then-beyond-clause-value
returns-then-beyond-clause-value c = λ v.
    let some : 1 ≤ width c.args.t.now c.args.a = omega (arith, c.sized-w.ensures.width, c.sized-w.ensures.is_width) in
    let beyond : width c.args.t.now c.args.a ≤ value c.args.t.now c.args.b v = omega (arith, c.sized-w.ensures.width, c.is_at_least-beyond.ensures.known c.if-beyond.true v) in
    c.signs.ensures.value v
    ∙ signs_value (width c.args.t.now c.args.a) (value c.args.t.now c.args.a v) (value c.args.t.now c.args.b v) some (c.is_number-zero_a.ensures.below v) beyond
