use Rattle.std.proofs.Common.{◌≡◌, ap, ◌∙◌, rules}
use Rattle.hk_term.specs.Meaning.{value}
use Rattle.hk_simplify.proofs.SumLaws.{rest_first, rest_second}
use Rattle.hk_simplify.proofs.sums.rest_of.Goals as goal

pub returns-then-eq-clause-value : goal.returns-then-eq-clause-value
returns-then-eq-clause-value c = λ v.
    let e = c.in_ok-parts.ensures in
    let p = c.in_ok-parts.parts in
    let same : p.second ≡ c.args.b = search rules in
    let first = rw (c.sized-first.ensures.width ∙ e.first.1) at (c.sized-first.ensures.below v) in
    let second = rw (c.sized-second.ensures.width ∙ e.second.1) at (c.sized-second.ensures.below v) in
    rest_first _ _ _ _ _ (e.value v) (ap (λ k. value c.args.t.now k v) same) first second

pub returns-then-eq-2-clause-value : goal.returns-then-eq-2-clause-value
returns-then-eq-2-clause-value c = λ v.
    let e = c.in_ok-parts.ensures in
    let p = c.in_ok-parts.parts in
    let same : p.first ≡ c.args.b = search rules in
    let first = rw (c.sized-first.ensures.width ∙ e.first.1) at (c.sized-first.ensures.below v) in
    let second = rw (c.sized-second.ensures.width ∙ e.second.1) at (c.sized-second.ensures.below v) in
    rest_second _ _ _ _ _ (e.value v) (ap (λ k. value c.args.t.now k v) same) first second
