use Rattle.std.proofs.Common.{IfSome, subst}
use Rattle.hk_cdcl.specs.Records.{lit_of}
use Rattle.hk_cdcl.specs.Looking.{IsOtherOf}
use Rattle.hk_cdcl.proofs.Showing.{long-start, long-pair}
use Rattle.hk_cdcl.proofs.watches.Watches.other.Goals as goal

pub other-requires : goal.other-requires
other-requires c = long-start c.self.inside c.args.self.now c.args.slot.target c.self.view_is c.requires.long c.requires.inside

pub returns : goal.returns
returns c = subst (λ q. IfSome c.other.result (λ o. IsOtherOf q (lit_of c.args.code) (lit_of o))) (long-pair c.self.inside c.args.self.now c.args.slot.target c.self.view_is c.requires.long) c.other.ensures
