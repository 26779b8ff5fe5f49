use Rattle.std.proofs.Common.{refl}
use Rattle.hk_cdcl.proofs.Showing.{widened-as}
use Rattle.hk_cdcl.proofs.watches.Watches.widen.Goals as goal

pub returns-clause-lists : goal.returns-clause-lists
returns-clause-lists c = widened-as c.self.inside _ c.args.self.now c.self.view_is c.widen.ensures refl
