use Rattle.std.proofs.Common.{◌≡◌, ap, ◌∙◌}
use Rattle.hk_num.specs.Numbers.{bvsub}
use Rattle.hk_term.specs.Shape.{width}
use Rattle.hk_term.specs.Meaning.{value}
use Rattle.hk_simplify.proofs.SumLaws.{minus_value}
use Rattle.hk_simplify.proofs.sums.minus.Goals as goal

pub returns-clause-value : goal.returns-clause-value
returns-clause-value c = λ v.
    let number : c.sub.result ≡ bvsub (width c.args.t.now c.args.a) 0 c.args.n = c.sub.ensures ∙ ap (λ k. bvsub k 0 c.args.n) c.sized-w.ensures.width in
    c.plus.ensures.value v ∙ minus_value (width c.args.t.now c.args.a) (value c.args.t.now c.args.a v) c.args.n c.sub.result number c.requires.number
