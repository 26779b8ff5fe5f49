use Rattle.ir_resolve.proofs.Codes.{code_there}
use Rattle.ir_resolve.proofs.program.code_at.Goals as goal

pub returns-clause-code : goal.returns-clause-code
returns-clause-code c = code_there c.args.kernel.now c.args.place c.at.result.now c.in_ok-code.code c.at.ensures c.in_ok-code.ensures.code
