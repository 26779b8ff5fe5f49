use Rattle.std.proofs.Common.{refl}
use Rattle.std.specs.Prelude.{codes}
use Rattle.hk_rows.specs.Texts.{numbered}
use Rattle.hk_rows.proofs.Adding.{on_err, adds_more, adds_cut}
use Rattle.hk_rows.proofs.line.add_later_indices.Goals as goal

pub returns-in_err-add_numbered-clause-err : goal.returns-in_err-add_numbered-clause-err
returns-in_err-add_numbered-clause-err g c =
    on_err _ _ (adds_cut (numbered (codes ", ")) c.args.indices.now c.loop-index.index-index 0 _ _ _ _ _ _ _ _ _ c.loop-index-test.true refl c.loop-index.invariant c.in_err-add_numbered.ensures.err)

pub loop-index-preserved : goal.loop-index-preserved
loop-index-preserved g c =
    adds_more (numbered (codes ", ")) c.args.indices.now c.loop-index.index-index 0 _ _ _ _ _ _ _ _ _ _ c.loop-index-test.true refl c.loop-index.invariant c.in_ok-add_numbered.ensures.ok
