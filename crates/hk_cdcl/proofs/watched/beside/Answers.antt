use Rattle.std.proofs.Common.{◌≡◌, take, arith}
use Rattle.std.specs.List.{All}
use Rattle.hk_cdcl.proofs.Attaching.{found-within, found-all}
use Rattle.hk_cdcl.proofs.watched.beside.Goals as goal

pub later_of-requires-clause-found : goal.later_of-requires-clause-found
later_of-requires-clause-found c = found-within c.args.trail.now.vars c.loop-other.found c.args.clause.now c.args.lit (All (λ x. c.args.lit ≡ x) (take c.loop-other.other-index c.args.clause.now)) c.loop-other.invariant c.requires

pub returns : goal.returns
returns c = found-all c.loop-other.found c.args.clause.now c.args.lit c.loop-other.other-index (omega arith) c.loop-other.invariant
