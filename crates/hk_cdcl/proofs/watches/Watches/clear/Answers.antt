use Rattle.hk_cdcl.proofs.Showing.{cleared-as}
use Rattle.hk_cdcl.proofs.watches.Watches.clear.Goals as goal

pub returns-clause-lists : goal.returns-clause-lists
returns-clause-lists c = cleared-as c.self.inside (record { lists = c.clear.new.self; records = c.clear-2.new.self }) c.args.self.now c.self.view_is c.clear.ensures
