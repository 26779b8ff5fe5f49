use Rattle.std.proofs.Common.{arith}
use Rattle.hk_unroll.proofs.ArrivingLaws.{nothing_arrives}
use Rattle.hk_unroll.proofs.copies.Copies.new.Goals as goal

pub returns-clause-arrivals : goal.returns-clause-arrivals
returns-clause-arrivals c = nothing_arrives c.args.graph.now c.args.most c.loop-turns._turns c.loop-turns.layers.items (omega arith) (omega arith) c.loop-turns.invariant
