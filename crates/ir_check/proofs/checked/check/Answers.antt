use Rattle.ir_ast.specs.ProgramView.{view_module}
use Rattle.ir_check.proofs.CheckedLaws.{refused, formed}
use Rattle.ir_check.proofs.checked.check.Goals as goal

pub invariant_of-result : goal.invariant_of-result
invariant_of-result c = (c.requires.small, c.in_ok-found.ensures.kept (formed (view_module c.args.kernel) c.in_ok-found.found.fault c.in_ok-found.ensures.least c.in-None.is))

pub returns-in-Some-clause-refused : goal.returns-in-Some-clause-refused
returns-in-Some-clause-refused c = refused (view_module c.args.kernel) c.in_ok-found.found.fault c.in-Some.fault c.in_ok-found.ensures.least c.in-Some.is

pub returns-in-None-clause-well_formed : goal.returns-in-None-clause-well_formed
returns-in-None-clause-well_formed c = formed (view_module c.args.kernel) c.in_ok-found.found.fault c.in_ok-found.ensures.least c.in-None.is
