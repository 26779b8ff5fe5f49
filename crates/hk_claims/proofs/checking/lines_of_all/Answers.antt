use Rattle.hk_claims.proofs.Counts.{so_far, all_of}
use Rattle.hk_claims.proofs.checking.lines_of_all.Goals as goal

pub loop-proof-preserved : goal.loop-proof-preserved
loop-proof-preserved c = so_far c.args.proofs.now c.loop-proof.proof-index c.proof-item.result c.loop-proof.lines c.lines_of.result c.saturating_add-lines.result
    c.loop-proof-test.true c.proof-item.is c.loop-proof.invariant c.lines_of.ensures c.saturating_add-lines.ensures

pub returns : goal.returns
returns c = all_of c.args.proofs.now c.loop-proof.proof-index c.loop-proof.lines c.loop-proof-test.false c.loop-proof.invariant
