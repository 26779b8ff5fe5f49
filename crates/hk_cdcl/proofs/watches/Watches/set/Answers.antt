use Rattle.std.proofs.Common.{refl}
use Rattle.hk_cdcl.proofs.Showing.{set-as}
use Rattle.hk_cdcl.proofs.watches.Watches.set.Goals as goal

pub returns : goal.returns
returns c = set-as c.self.inside _ c.args.self.now c.args.code c.args.place c.args.slot c.self.view_is c.set.ensures refl
