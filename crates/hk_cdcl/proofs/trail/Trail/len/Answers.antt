use Rattle.std.proofs.Common.{subst}
use Rattle.hk_cdcl.specs.Path.{IsPath}
use Rattle.hk_cdcl.proofs.Stepping.{path-of}
use Rattle.hk_cdcl.proofs.trail.Trail.len.Goals as goal

pub returns-clause-path : goal.returns-clause-path
returns-clause-path c = subst IsPath c.self.view_is (path-of c.self.inside c.self.invariant)
