use Rattle.spec_lines.proofs.FieldTurns.{rest_kept}
use Rattle.spec_lines.proofs.fields.take_value.Goals as goal

pub returns-then-place-len-clause-rest : goal.returns-then-place-len-clause-rest
returns-then-place-len-clause-rest c = rest_kept c.args.values.now.items c.args.place c.take.new.self
