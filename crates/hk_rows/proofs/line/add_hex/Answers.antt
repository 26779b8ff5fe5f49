use Rattle.std.proofs.Common.{refl}
use Rattle.hk_rows.specs.Texts.{hex_byte}
use Rattle.hk_rows.proofs.Adding.{on_err, adds_more, adds_cut}
use Rattle.hk_rows.proofs.line.add_hex.Goals as goal

pub returns-in_err-add-clause-err : goal.returns-in_err-add-clause-err
returns-in_err-add-clause-err g c =
    on_err _ _ (adds_cut hex_byte c.args.bytes.now c.loop-byte.byte-index 0 _ _ _ _ _ _ _ _ _ c.loop-byte-test.true refl c.loop-byte.invariant (rw c.digits_of.ensures at c.in_err-add.ensures.err))

pub loop-byte-preserved : goal.loop-byte-preserved
loop-byte-preserved g c =
    adds_more hex_byte c.args.bytes.now c.loop-byte.byte-index 0 _ _ _ _ _ _ _ _ _ _ c.loop-byte-test.true refl c.loop-byte.invariant (rw c.digits_of.ensures at c.in_ok-add.ensures.ok)
