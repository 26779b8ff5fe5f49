use Rattle.std.proofs.Common.{refl}
use Rattle.hk_term.proofs.KindLemmas.{resize_below, resize_is_width}
use Rattle.hk_simplify.proofs.plain.resized.Goals as goal

pub number-requires-clause-number : goal.number-requires-clause-number
number-requires-clause-number c =
    rw c.apply_resize.ensures
    (resize_below c.args.kind c.width.result c.args.to c.in-Some.n (rw c.width.ensures.width c.requires.fits) (rw c.width.ensures.width c.in-Some.ensures.number))

pub returns-in-Some-clause-fits : goal.returns-in-Some-clause-fits
returns-in-Some-clause-fits c =
    let fits = rw (← c.width.ensures.width) at c.requires.fits in
    rw (c.number.ensures.is, c.apply_resize.ensures) (
      (
        resize_is_width c.args.kind c.width.result c.args.to c.width.ensures.is_width fits,
        resize_below c.args.kind c.width.result c.args.to c.in-Some.n fits (rw c.width.ensures.width c.in-Some.ensures.number),
      ),
      refl,
    )
