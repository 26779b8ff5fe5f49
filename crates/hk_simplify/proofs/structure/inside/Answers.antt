use Rattle.std.proofs.Common.{◌∙◌, ◌/◌, ◌%◌, ◌^◌, arith, ap, sym}
use Rattle.hk_simplify.proofs.PartLaws.{extracted_bits, extended_bits}
use Rattle.hk_simplify.proofs.structure.inside.Goals as goal

pub returns-in-Extract-clause-value : goal.returns-in-Extract-clause-value
returns-in-Extract-clause-value c =
    let known = rw c.in-Extract.is at c.requires.known in
    λ v. extracted_bits c.args.to c.args.low _ _ _ c.requires.within ∙ ap (λ n. n / 2 ^ c.args.low % 2 ^ c.args.to) (sym (known v))

pub returns-in-Sign-clause-value : goal.returns-in-Sign-clause-value
returns-in-Sign-clause-value c =
    let known = rw c.in-Sign.is at c.requires.known in
    let fits = rw c.in-Sign.is at c.requires.fits in
    let u = rw c.sized-u.ensures.width at c.sized-u.ensures.below in
    λ v. extended_bits c.args.to c.args.low _ _ _ (omega arith) fits.0 (u v) ∙ ap (λ n. n / 2 ^ c.args.low % 2 ^ c.args.to) (sym (known v))
