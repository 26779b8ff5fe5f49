use Rattle.std.proofs.Common.{arith}
use Rattle.spec_lex.proofs.Rows.{last_row, first_of_rows}
use Rattle.spec_lex.proofs.row.first_row.Goals as goal

pub returns-in-empty-clause-rows : goal.returns-in-empty-clause-rows
returns-in-empty-clause-rows c =
    last_row c.args.text.now c.split_at.result.0.now c.split_at.result.1.now c.row_run.result c.row_run.ensures.value c.split_at.ensures.front c.split_at.ensures.back (omega (arith, c.in-empty.len_below))

pub returns-in-len1-up-clause-rows : goal.returns-in-len1-up-clause-rows
returns-in-len1-up-clause-rows c =
    first_of_rows c.args.text.now c.split_at.result.0.now c.split_at.result.1.now c.row_run.result c.row_run.ensures.value c.split_at.ensures.front c.split_at.ensures.back (omega (arith, c.in-len1-up.len_at_least))
