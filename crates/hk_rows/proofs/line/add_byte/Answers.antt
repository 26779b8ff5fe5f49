use Rattle.std.proofs.Common.{◌∷◌, []}
use Rattle.hk_rows.proofs.Adding.{on_err, put_fails}
use Rattle.hk_rows.proofs.line.add_byte.Goals as goal

pub returns-in_err-put-clause-err : goal.returns-in_err-put-clause-err
returns-in_err-put-clause-err g c =
    let put = c.in_err-put.ensures in
    on_err _ _ (put_fails _ _ _ _ _ _ c.in_err-put.field-0.0 (c.args.byte ∷ []) c.as_slice.ensures.value put.sent put.within put.failed put.later put.fits)
