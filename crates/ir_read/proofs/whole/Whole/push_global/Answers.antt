use Rattle.ir_read.proofs.Views.{globals_became}
use Rattle.ir_read.proofs.whole.Whole.push_global.Goals as goal

pub returns-clause-value : goal.returns-clause-value
returns-clause-value c = globals_became c.add.result c.args.self.now c.in_ok-name.name c.args.global c.add.new.table c.in-Some.count c.in_ok-name.ensures c.requires.new c.add.ensures
