use Rattle.ir_check.proofs.FunctionLaws.{clear_says}
use Rattle.ir_check.proofs.order.has_order.Goals as goal

pub returns : goal.returns
returns c = clear_says c.args.graph.now c.args.order.now.nodes.items c.args.order.now.cyclic.items c.is_acyclic.result c.requires c.is_acyclic.ensures c.if-leads_back.ensures
