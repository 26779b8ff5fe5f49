use Rattle.std.proofs.Common.{◌∙◌, ap, sym}
use Rattle.hk_simplify.specs.Forms.{form_value}
use Rattle.hk_num.proofs.Words.{shifted_out}
use Rattle.hk_term.specs.Shape.{width}
use Rattle.hk_simplify.proofs.shift.shl_form.Goals as goal

pub returns-then-beyond-clause-value : goal.returns-then-beyond-clause-value
returns-then-beyond-clause-value c =
    λ v. ap (λ f. form_value c.args.t.now f v) c.number.ensures.is ∙ sym (shifted_out (width c.args.t.now c.args.a) _ _ (rw c.width-w.ensures.width at (c.is_at_least-beyond.ensures.known c.if-beyond.true v)))
