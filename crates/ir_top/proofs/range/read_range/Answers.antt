use Rattle.ir_part.specs.Reader.{seen}
use Rattle.ir_top.specs.TopView.{view_numbers}
use Rattle.ir_top.proofs.RangeLaws.{range_sound, no_range}
use Rattle.ir_top.proofs.range.read_range.Goals as goal

pub returns-in-Ok : goal.returns-in-Ok
returns-in-Ok c = range_sound (seen c.args.tokens.now) c.in-Ok.name (view_numbers c.in-Ok.items.items) c.in-Ok.ensures

pub returns-in-Err-NotSpelled : goal.returns-in-Err-NotSpelled
returns-in-Err-NotSpelled c = no_range (seen c.args.tokens.now) (rw c.in-Err-NotSpelled.field-0-is at c.in-Err-NotSpelled.ensures)
