use Rattle.std.proofs.Common.{refl}
use Rattle.hk_rows.proofs.Adding.{on_err, bytes_more, bytes_cut}
use Rattle.hk_rows.proofs.line.add.Goals as goal

pub returns-in_err-add_byte-clause-err : goal.returns-in_err-add_byte-clause-err
returns-in_err-add_byte-clause-err g c =
    on_err _ _ (bytes_cut c.args.bytes.now c.loop-byte.byte-index 0 _ _ _ _ _ _ _ _ _ c.loop-byte-test.true refl c.loop-byte.invariant c.in_err-add_byte.ensures.err)

pub loop-byte-preserved : goal.loop-byte-preserved
loop-byte-preserved g c =
    bytes_more c.args.bytes.now c.loop-byte.byte-index 0 _ _ _ _ _ _ _ _ _ _ c.loop-byte-test.true refl c.loop-byte.invariant c.in_ok-add_byte.ensures.ok
