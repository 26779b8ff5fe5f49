use Rattle.ir_whole.proofs.FieldLaws.{field_some, field_past}
use Rattle.ir_whole.proofs.questions.row_field.Goals as goal

pub returns-then-k-items-clause-field : goal.returns-then-k-items-clause-field
returns-then-k-items-clause-field c = λ types. field_some types c.as_slice-items.result.now c.args.row.now c.args.k c.as_slice-items.ensures c.if-k-items.true

pub returns-else-k-items-clause-field : goal.returns-else-k-items-clause-field
returns-else-k-items-clause-field c = λ types. field_past types c.as_slice-items.result.now c.args.row.now c.args.k c.as_slice-items.ensures c.if-k-items.false
