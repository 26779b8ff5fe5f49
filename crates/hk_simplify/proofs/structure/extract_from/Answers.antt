use Rattle.std.proofs.Common.{◌∙◌, ◌/◌, ◌%◌, ◌^◌, ◌≤◌, arith, ap, sym}
use Rattle.hk_term.specs.Shape.{width}
use Rattle.hk_term.specs.Meaning.{value}
use Rattle.hk_simplify.specs.Forms.{form_value}
use Rattle.hk_simplify.proofs.PartLaws.{bits_above, zeros_from_bottom, sign_from_bottom}
use Rattle.hk_num.specs.Numbers.{sign_extend}
use Rattle.hk_simplify.proofs.NumberLaws.{border_zeros}
use Rattle.hk_simplify.proofs.SignLaws.{extended_part}
use Rattle.hk_simplify.proofs.structure.extract_from.Goals as goal

pub returns-in-Zero-clause-value : goal.returns-in-Zero-clause-value
returns-in-Zero-clause-value c =
    let known = rw c.in-Zero.is at c.requires.known in
    let u = rw c.sized-u.ensures.width at c.sized-u.ensures.below in
    λ v. ap (λ f. form_value c.args.t.now f v) c.number.ensures.is
    ∙ bits_above c.args.to c.args.low _ _ (rw c.sized-u.ensures.width at c.if-u-low.true) (u v)
    ∙ ap (λ n. n / 2 ^ c.args.low % 2 ^ c.args.to) (sym (known v))

pub returns-in-Zero-2-clause-value : goal.returns-in-Zero-2-clause-value
returns-in-Zero-2-clause-value c =
    let known = rw c.in-Zero.is at c.requires.known in
    let u = rw c.sized-u.ensures.width at c.sized-u.ensures.below in
    λ v. c.zero_extend_form.ensures.value v
    ∙ zeros_from_bottom c.args.to c.args.low _ _ _ c.if-low-eq0.true (known v) (rw c.sized-u.ensures.width at c.if-u-to.true) (u v)

pub returns-in-Sign-clause-value : goal.returns-in-Sign-clause-value
returns-in-Sign-clause-value c =
    let known = rw c.in-Sign.is at c.requires.known in
    let narrower : c.args.to ≤ width c.args.t.now c.args.a = omega arith in
    λ v. c.sign_extend_form.ensures.value v ∙ sign_from_bottom c.args.to c.args.low _ _ _ _ c.if-low-eq0-2.true (known v) narrower

pub returns-in-Zero-3-clause-value : goal.returns-in-Zero-3-clause-value
returns-in-Zero-3-clause-value c =
    let known = rw c.in-Zero-3.is at c.requires.known in
    λ v. ap (λ f. form_value c.args.t.now f v) c.part_of_extension.ensures
    ∙ border_zeros c.args.to c.args.low c.sized-u.result (value c.args.t.now c.args.x v) (value c.args.t.now c.args.a v) (known v) (c.sized-u.ensures.below v) c.if-u-low-2.true

pub returns-in-Sign-2-clause-value : goal.returns-in-Sign-2-clause-value
returns-in-Sign-2-clause-value c =
    let known = rw c.in-Sign-2.is at c.requires.known in
    let w = width c.args.t.now c.args.a in
    λ v. ap (λ f. form_value c.args.t.now f v) c.part_of_extension-in-Sign-2.ensures
    ∙ extended_part c.args.to c.args.low c.first_bit.result c.sized-u.result w (value c.args.t.now c.args.x v) (value c.args.t.now c.args.a v)
    (known v ∙ ap (λ k. sign_extend k w (value c.args.t.now c.args.x v)) (sym c.sized-u.ensures.width)) (c.sized-u.ensures.below v) c.sized-u.ensures.is_width.0 c.requires.within c.first_bit.ensures.first
