use Rattle.ir_whole.specs.Heads.{type_at}
use Rattle.ir_whole.specs.Numbers.{types_of}
use Rattle.ir_measure.proofs.Bounds.{kept_measured}
use Rattle.ir_measure.proofs.measure.measure_at.Goals as goal

pub returns-clause-kept : goal.returns-clause-kept
returns-clause-kept c = kept_measured c.kept_at.result.now (type_at (types_of c.args.numbers.now) c.args.number) c.kept_at.ensures
