use Rattle.ir_ast.proofs.Placing.{put_is}
use Rattle.ir_ast.proofs.table.put.Goals as goal

pub returns-clause-added : goal.returns-clause-added
returns-clause-added c = put_is c.args.places.now c.insert.new.self c.args.name c.args.place c.in_ok-insert.ensures.updates
