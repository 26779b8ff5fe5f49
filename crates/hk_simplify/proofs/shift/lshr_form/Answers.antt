use Rattle.std.proofs.Common.{◌∙◌, ap, sym}
use Rattle.hk_simplify.specs.Forms.{form_value}
use Rattle.hk_num.proofs.Words.{shifted_off}
use Rattle.hk_term.specs.Shape.{width}
use Rattle.hk_term.specs.Meaning.{value}
use Rattle.hk_simplify.proofs.shift.lshr_form.Goals as goal

pub returns-then-beyond-clause-value : goal.returns-then-beyond-clause-value
returns-then-beyond-clause-value c =
    λ v. ap (λ f. form_value c.args.t.now f v) c.number.ensures.is ∙ sym (shifted_off (value c.args.t.now c.args.a v) (width c.args.t.now c.args.a) _ (c.is_number-zero_a.ensures.below v) (rw c.width-w.ensures.width at (c.is_at_least-beyond.ensures.known c.if-beyond.true v)))
