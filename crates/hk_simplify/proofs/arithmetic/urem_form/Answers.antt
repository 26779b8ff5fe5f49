use Rattle.std.proofs.Common.{ap, ◌∙◌, bit_and}
use Rattle.hk_term.specs.Shape.{width}
use Rattle.hk_term.specs.Meaning.{value}
use Rattle.hk_simplify.proofs.NumberLaws.{urem_power}
use Rattle.hk_simplify.proofs.arithmetic.urem_form.Goals as goal

pub returns-in-Some-clause-value : goal.returns-in-Some-clause-value
returns-in-Some-clause-value c = λ v.
    c.binary_number.ensures.value v ∙ ap (bit_and (value c.args.t.now c.args.a v)) c.ones_below.ensures
    ∙ urem_power (width c.args.t.now c.args.a) (value c.args.t.now c.args.a v) (value c.args.t.now c.args.b v) c.in-Some.k (c.in-Some.ensures.known v)
