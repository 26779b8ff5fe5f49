use Rattle.std.proofs.Common.{◌≡◌, ap, ◌∙◌}
use Rattle.hk_num.specs.Numbers.{bvsub}
use Rattle.hk_term.specs.Shape.{width}
use Rattle.hk_term.specs.Meaning.{value}
use Rattle.hk_simplify.proofs.SumLaws.{eq_sum_value}
use Rattle.hk_simplify.proofs.against.eq_sum.Goals as goal

pub returns-clause-value : goal.returns-clause-value
returns-clause-value c = λ v.
    let s = c.sum_of-sum in
    let number : c.sub.result ≡ bvsub (width c.args.t.now c.args.a) c.args.n s.result.number = c.sub.ensures ∙ ap (λ k. bvsub k c.args.n s.result.number) c.sized-w.ensures.width in
    c.binary_number.ensures.value v
    ∙ eq_sum_value (width c.args.t.now c.args.a) (value c.args.t.now s.result.of v) s.result.number c.args.n (value c.args.t.now c.args.a v) c.sub.result (s.ensures.value v) number (s.ensures.below v) s.ensures.number c.requires.number
