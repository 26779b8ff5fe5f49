use Rattle.std.proofs.Common.{refl}
use Rattle.hk_rows.proofs.Adding.{on_err, adds_more, adds_cut}
use Rattle.hk_rows.specs.Texts.{escaped}
use Rattle.hk_rows.proofs.line.add_all_escaped.Goals as goal

pub returns-in_err-add_escaped-clause-err : goal.returns-in_err-add_escaped-clause-err
returns-in_err-add_escaped-clause-err g c =
    on_err _ _ (adds_cut escaped c.args.name.now c.loop-byte.byte-index 0 _ _ _ _ _ _ _ _ _ c.loop-byte-test.true refl c.loop-byte.invariant c.in_err-add_escaped.ensures.err)

pub loop-byte-preserved : goal.loop-byte-preserved
loop-byte-preserved g c =
    adds_more escaped c.args.name.now c.loop-byte.byte-index 0 _ _ _ _ _ _ _ _ _ _ c.loop-byte-test.true refl c.loop-byte.invariant c.in_ok-add_escaped.ensures.ok
