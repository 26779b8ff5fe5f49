use Rattle.ir_read.proofs.Views.{functions_became}
use Rattle.ir_read.proofs.whole.Whole.push_function.Goals as goal

pub returns-clause-value : goal.returns-clause-value
returns-clause-value c = functions_became c.add.result c.args.self.now c.in_ok-name.name c.args.function c.add.new.table c.in-Some.count c.in_ok-name.ensures c.requires.new c.add.ensures
