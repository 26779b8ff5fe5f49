use Rattle.std.proofs.Common.{◌≡◌, drop}
use Rattle.ir_machine.specs.Step.{case_of}
use Rattle.ir_machine.proofs.jumps.case_of.Given as goal

abbrev pub invariant-loop-case : goal.invariant-loop-case
invariant-loop-case l = case_of l.fn.number (drop l.case-index l.cases) l.fn.default ≡ case_of l.fn.number l.fn.cases l.fn.default
