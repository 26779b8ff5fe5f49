use Rattle.ir_read.proofs.One.{module_only, fault_only}
use Rattle.ir_read.proofs.Shaped.{shaped_answer}
use Rattle.ir_read.proofs.Lined.{lined_answer}
use Rattle.ir_read.proofs.Printed.{printed_answer}
use Rattle.ir_read.proofs.OnlyPrinted.{only_printed}
use Rattle.ir_read.proofs.text.read_module.Goals as goal

pub returns-clause-only : goal.returns-clause-only
returns-clause-only c = module_only c.read_text.result c.args.text.now c.read_text.ensures.found c.read_text.ensures.fault

pub returns-clause-only_fault : goal.returns-clause-only_fault
returns-clause-only_fault c = fault_only c.read_text.result c.args.text.now c.read_text.ensures.found c.read_text.ensures.fault

pub returns-clause-shaped : goal.returns-clause-shaped
returns-clause-shaped c = shaped_answer c.read_text.result c.args.text.now c.read_text.ensures.found

pub returns-clause-lined : goal.returns-clause-lined
returns-clause-lined c = lined_answer c.read_text.result c.args.text.now c.read_text.ensures.found

pub returns-clause-printed : goal.returns-clause-printed
returns-clause-printed c = printed_answer c.read_text.result c.args.text.now c.read_text.ensures.found

pub returns-clause-only_printed : goal.returns-clause-only_printed
returns-clause-only_printed c = only_printed c.read_text.result c.args.text.now c.read_text.ensures.found c.read_text.ensures.fault
