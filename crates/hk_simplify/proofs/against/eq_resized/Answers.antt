use Rattle.std.proofs.Common.{◌≡◌, ◌<◌, ◌-◌, ◌^◌, bit_and, ap, sym, subst, ◌∙◌, arith}
use Rattle.hk_num.specs.Numbers.{sign_extend}
use Rattle.hk_term.specs.Shape.{width}
use Rattle.hk_term.specs.Meaning.{value}
use Rattle.hk_simplify.specs.Forms.{form_value}
use Rattle.hk_simplify.proofs.NumberLaws.{zeros_unequal, signs_equal, signs_unequal}
use Rattle.hk_simplify.proofs.against.eq_resized.Goals as goal

pub returns-in-Zero-2-clause-value : goal.returns-in-Zero-2-clause-value
returns-in-Zero-2-clause-value c = λ v.
    let known = rw c.in-Zero-2.is at c.requires.known in
    let below : value c.args.t.now c.args.a v < 2 ^ c.sized-u.result = omega (arith, known v, c.sized-u.ensures.below v) in
    ap (λ f. form_value c.args.t.now f v) c.number.ensures.is
    ∙ zeros_unequal c.sized-u.result c.args.n (value c.args.t.now c.args.a v) (bit_and c.args.n c.greatest.result) (ap (bit_and c.args.n) c.greatest.ensures) c.if-low-n.false below

pub returns-in-Sign-clause-value : goal.returns-in-Sign-clause-value
returns-in-Sign-clause-value c = λ v.
    let known = rw c.in-Sign.is at c.requires.known in
    let fits = rw c.in-Sign.is at c.requires.fits in
    let u = width c.args.t.now c.args.x in
    let w = width c.args.t.now c.args.a in
    let low = bit_and c.args.n c.greatest.result in
    let same : sign_extend u w low ≡ c.args.n = (λ i. sign_extend (sym c.sized-u.ensures.width i) (sym c.sized-w.ensures.width i) low) ∙ sym c.sext.ensures ∙ c.if-sext-n.true in
    let below : value c.args.t.now c.args.x v < 2 ^ u = subst (λ k. value c.args.t.now c.args.x v < 2 ^ k) c.sized-u.ensures.width (c.sized-u.ensures.below v) in
    c.binary_number-in-Sign.ensures.value v
    ∙ signs_equal u w c.args.n (value c.args.t.now c.args.x v) (value c.args.t.now c.args.a v) low (ap (bit_and c.args.n) (c.greatest.ensures ∙ ap (λ k. 2 ^ k - 1) c.sized-u.ensures.width)) same (known v) fits.0 below

pub returns-in-Sign-2-clause-value : goal.returns-in-Sign-2-clause-value
returns-in-Sign-2-clause-value c = λ v.
    let known = rw c.in-Sign-2.is at c.requires.known in
    let fits = rw c.in-Sign-2.is at c.requires.fits in
    let u = width c.args.t.now c.args.x in
    let w = width c.args.t.now c.args.a in
    let low = bit_and c.args.n c.greatest.result in
    let extended : c.sext.result ≡ sign_extend u w low = c.sext.ensures ∙ (λ i. sign_extend (c.sized-u.ensures.width i) (c.sized-w.ensures.width i) low) in
    let below : value c.args.t.now c.args.x v < 2 ^ u = subst (λ k. value c.args.t.now c.args.x v < 2 ^ k) c.sized-u.ensures.width (c.sized-u.ensures.below v) in
    ap (λ f. form_value c.args.t.now f v) c.number-in-Sign-2.ensures.is
    ∙ signs_unequal u w c.args.n (value c.args.t.now c.args.x v) (value c.args.t.now c.args.a v) low (ap (bit_and c.args.n) (c.greatest.ensures ∙ ap (λ k. 2 ^ k - 1) c.sized-u.ensures.width)) (λ e. c.if-sext-n.false (extended ∙ e)) (known v) fits.0 below
