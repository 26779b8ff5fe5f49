use Rattle.std.proofs.Common.{◌/◌}
use Rattle.hk_cells.proofs.Selects.{few_selects}
use Rattle.hk_cells.proofs.reading.number_of_cells.Goals as goal

pub returns-in_err-made-clause-few : goal.returns-in_err-made-clause-few
returns-in_err-made-clause-few c = λ m s. few_selects _ _ (c.args.bytes / c.args.cell) c.number_in_cells.ensures.frame (c.number_in_cells.ensures.few m s)

pub returns-clause-few : goal.returns-clause-few
returns-clause-few c = λ m s. few_selects _ _ (c.args.bytes / c.args.cell) c.number_in_cells.ensures.frame (c.number_in_cells.ensures.few m s)
