use Rattle.std.proofs.Common.{◌≡◌, ap, ◌∙◌}
use Rattle.hk_num.specs.Numbers.{bvadd}
use Rattle.hk_term.specs.Shape.{width}
use Rattle.hk_term.specs.Meaning.{value}
use Rattle.hk_simplify.proofs.SumLaws.{plus_value, plus_none}
use Rattle.hk_simplify.proofs.sums.plus.Goals as goal

pub returns-then-number-eq0-clause-value : goal.returns-then-number-eq0-clause-value
returns-then-number-eq0-clause-value c = λ v.
    let s = c.sum_of-sum in
    let number : c.add-number.result ≡ bvadd (width c.args.t.now c.args.a) s.result.number c.args.n = c.add-number.ensures ∙ ap (λ k. bvadd k s.result.number c.args.n) c.sized-w.ensures.width in
    plus_none (width c.args.t.now c.args.a) (value c.args.t.now s.result.of v) s.result.number c.args.n (value c.args.t.now c.args.a v) c.add-number.result (s.ensures.value v) number c.if-number-eq0.true (s.ensures.below v)

pub returns-else-number-eq0-clause-value : goal.returns-else-number-eq0-clause-value
returns-else-number-eq0-clause-value c = λ v.
    let s = c.sum_of-sum in
    let number : c.add-number.result ≡ bvadd (width c.args.t.now c.args.a) s.result.number c.args.n = c.add-number.ensures ∙ ap (λ k. bvadd k s.result.number c.args.n) c.sized-w.ensures.width in
    c.binary_number.ensures.value v ∙ ap (λ k. bvadd k (value c.args.t.now s.result.of v) c.add-number.result) s.ensures.width
    ∙ plus_value (width c.args.t.now c.args.a) (value c.args.t.now s.result.of v) s.result.number c.args.n (value c.args.t.now c.args.a v) c.add-number.result (s.ensures.value v) number
