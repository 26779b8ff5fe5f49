use Rattle.std.proofs.Common.{◌∙◌, ap, length}
use Rattle.ir_whole.proofs.FieldLaws.{count_fields}
use Rattle.ir_whole.proofs.questions.row_count.Goals as goal

pub returns : goal.returns
returns c = λ types. ap length c.as_slice.ensures ∙ count_fields types c.args.row.now
