use Rattle.std.proofs.Common.{[], refl}
use Rattle.hk_cdcl.proofs.Collecting.{derivable-zero}
use Rattle.hk_cdcl.proofs.learn.refute.Goals as goal

pub returns-clause-derived : goal.returns-clause-derived
returns-clause-derived c =
    c.in_ok-hints.ensures.derives c.args.clauses.now.clauses []
    (derivable-zero c.args.clauses.now.clauses c.args.trail.now c.analyze_zero.new.seen [] c.args.conflict refl c.requires.conflict c.in_ok-analyze_zero.ensures.traced)
