use Rattle.ir_whole.proofs.HeadInterning.{same_there}
use Rattle.ir_whole.proofs.list.HeadList.tells_apart.Goals as goal

pub returns : goal.returns
returns c = λ a b l k. same_there c.self.inside.nodes.items c.self.inside.index c.args.self.now c.self.invariant c.self.view_is a b l k
