use Rattle.std.proofs.Common.{Bool, List, true, set, ◌∙◌, ap}
use Rattle.hk_cdcl.proofs.Stamping.{stamped}
use Rattle.hk_cdcl.proofs.seen.Seen.mark.Goals as goal

pub returns : goal.returns
returns c = stamped c.self.inside.stamps.items c.self.inside.stamp c.args.place ∙ ap (λ (s : List Bool). set s c.args.place true) c.self.view_is
