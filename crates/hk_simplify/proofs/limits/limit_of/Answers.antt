use Rattle.std.proofs.Common.{◌≡◌, ◌+◌, ◌-◌, ◌/◌, ◌^◌, ◌<◌, ◌≤◌, ap, ◌∙◌, refl, inl, inr, arith, pow_mono}
use Rattle.std.proofs.lemmas.Nat.{pow_pos}
use Rattle.hk_num.proofs.Readings.{halves}
use Rattle.hk_simplify.proofs.LimitLaws.{limit_law, half_is}
use Rattle.hk_simplify.proofs.limits.limit_of.Goals as goal

pub overflow_sub-above : goal.overflow_sub-above
overflow_sub-above c = omega (arith, c.greatest-2.ensures, c.greatest-3.ensures, pow_mono {i = c.args.u} {j = c.args.w} c.requires.wider)

pub returns-then-n-half-clause-number : goal.returns-then-n-half-clause-number
returns-then-n-half-clause-number c =
    let half : c.greatest.result / 2 + 1 ≡ 2 ^ (c.args.u - 1) = ap (λ k. k / 2 + 1) c.greatest.ensures ∙ half_is c.args.u c.requires.width.0 in
    omega (arith, c.if-n-half.true, half, halves c.args.u c.requires.width.0, pow_pos (c.args.u - 1))

pub returns-then-n-half-2-clause-number : goal.returns-then-n-half-2-clause-number
returns-then-n-half-2-clause-number c =
    let half : c.greatest.result / 2 + 1 ≡ 2 ^ (c.args.u - 1) = ap (λ k. k / 2 + 1) c.greatest.ensures ∙ half_is c.args.u c.requires.width.0 in
    omega (arith, half, halves c.args.u c.requires.width.0, pow_pos (c.args.u - 1))

pub returns-then-n-half-clause-limit : goal.returns-then-n-half-clause-limit
returns-then-n-half-clause-limit c = λ x below.
    let half : c.greatest.result / 2 + 1 ≡ 2 ^ (c.args.u - 1) = ap (λ k. k / 2 + 1) c.greatest.ensures ∙ half_is c.args.u c.requires.width.0 in
    limit_law c.args.u c.args.w c.args.n c.args.n x c.requires.width.0 c.requires.wider below (inl (omega (arith, c.if-n-half.true, half), refl))

pub returns-then-n-half-2-clause-limit : goal.returns-then-n-half-2-clause-limit
returns-then-n-half-2-clause-limit c = λ x below.
    let half : c.greatest.result / 2 + 1 ≡ 2 ^ (c.args.u - 1) = ap (λ k. k / 2 + 1) c.greatest.ensures ∙ half_is c.args.u c.requires.width.0 in
    let wide : 2 ^ c.args.u ≤ 2 ^ c.args.w = pow_mono c.requires.wider in
    let above : 2 ^ (c.args.u - 1) < c.args.n = omega (arith, c.if-n-half.false, half) in
    let most : c.args.n + 2 ^ c.args.u ≤ 2 ^ c.args.w + 2 ^ (c.args.u - 1) = omega (arith, c.if-n-half-2.true, half, wide, c.greatest-2.ensures, c.greatest-3.ensures, pow_pos c.args.u) in
    limit_law c.args.u c.args.w c.args.n (c.greatest.result / 2 + 1) x c.requires.width.0 c.requires.wider below (inr (inl (above, most, half)))

pub returns-else-n-half-2-clause-limit : goal.returns-else-n-half-2-clause-limit
returns-else-n-half-2-clause-limit c = λ x below.
    let half : c.greatest.result / 2 + 1 ≡ 2 ^ (c.args.u - 1) = ap (λ k. k / 2 + 1) c.greatest.ensures ∙ half_is c.args.u c.requires.width.0 in
    let wide : 2 ^ c.args.u ≤ 2 ^ c.args.w = pow_mono c.requires.wider in
    let beyond : 2 ^ c.args.w + 2 ^ (c.args.u - 1) < c.args.n + 2 ^ c.args.u = omega (arith, c.if-n-half-2.false, half, wide, c.greatest-2.ensures, c.greatest-3.ensures, pow_pos c.args.u) in
    let rest : c.args.n - (c.greatest-2.result - c.greatest-3.result) + 2 ^ c.args.w ≡ c.args.n + 2 ^ c.args.u = omega (arith, beyond, wide, c.greatest-2.ensures, c.greatest-3.ensures, pow_pos c.args.u) in
    limit_law c.args.u c.args.w c.args.n (c.args.n - (c.greatest-2.result - c.greatest-3.result)) x c.requires.width.0 c.requires.wider below (inr (inr (beyond, rest)))
