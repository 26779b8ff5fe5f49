use Rattle.std.proofs.Common.{sym, ◌∙◌, subst}
use Rattle.hk_cdcl.specs.Analysis.{Marks}
use Rattle.hk_cdcl.proofs.Resolving.{resolved-marks}
use Rattle.hk_cdcl.proofs.analyze.resolve.Goals as goal

pub returns-clause-resolved : goal.returns-clause-resolved
returns-clause-resolved c =
    resolved-marks c.args.clauses.now.clauses c.args.trail.now c.args.seen.now c.mark_all.new.seen c.args.place c.requires.apart c.requires.reason c.requires.inside
    (sym c.is_seen.ensures ∙ c.if-not-is_seen.false) (subst (Marks c.args.seen.now c.mark_all.new.seen) c.reason_of.ensures.same c.in_ok-mark_all.ensures.marks)
