use Rattle.hk_cdcl.proofs.Segmenting.{learns-then, logged-learns}
use Rattle.hk_cdcl.proofs.segments.segments.Goals as goal

pub more-preserved : goal.more-preserved
more-preserved c = learns-then c.args.whole.now c.more.whole c.segment.new.whole c.more.invariant c.segment.ensures.learns

pub returns-in_err-end-clause-learns : goal.returns-in_err-end-clause-learns
returns-in_err-end-clause-learns c = learns-then c.args.whole.now c.more.whole c.segment.new.whole c.more.invariant c.segment.ensures.learns

pub returns-in-Some-clause-learns : goal.returns-in-Some-clause-learns
returns-in-Some-clause-learns c = learns-then c.args.whole.now c.more.whole c.segment.new.whole c.more.invariant c.segment.ensures.learns

pub segment-requires-clause-logged : goal.segment-requires-clause-logged
segment-requires-clause-logged c = logged-learns c.args.given c.args.whole.now c.more.whole c.requires.inside c.requires.logged c.more.invariant
