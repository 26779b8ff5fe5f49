use Rattle.std.proofs.Common.{◌∙◌, arith, refl}
use Rattle.hk_simplify.proofs.PartLaws.{sign_of_sign, sign_of_zeros}
use Rattle.hk_simplify.proofs.structure.sign_extend_of.Goals as goal

pub returns-in-Sign-clause-value : goal.returns-in-Sign-clause-value
returns-in-Sign-clause-value c =
    let known = rw c.in-Sign.is at c.requires.known in
    let fits = rw c.in-Sign.is at c.requires.fits in
    let u = rw c.sized-u.ensures.width at c.sized-u.ensures.below in
    λ v. c.resized.ensures.value v ∙ sign_of_sign _ _ _ c.args.to _ _ (rw c.sized-u.ensures.width at c.sized-u.ensures.is_width).0 fits.0 refl (known v) (u v)

pub returns-in-Zero-clause-value : goal.returns-in-Zero-clause-value
returns-in-Zero-clause-value c =
    let known = rw c.in-Zero.is at c.requires.known in
    let u = rw c.sized-u.ensures.width at c.sized-u.ensures.below in
    λ v. c.resized-in-Zero.ensures.value v ∙ sign_of_zeros _ _ c.args.to _ _ (omega arith) c.requires.wider (known v) (u v)
