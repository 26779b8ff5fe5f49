use Rattle.std.proofs.Common.{◌≡◌, drop}
use Rattle.spec_lex.specs.Lines.{lines_of}
use Rattle.spec_lex.specs.Faults.{first_fault}
use Rattle.spec_lex.proofs.lexer.first_fault.Given as goal

abbrev pub invariant-loop-line : goal.invariant-loop-line
invariant-loop-line l = first_fault (lines_of (drop l.line-index l.lines)) ≡ first_fault (lines_of l.lines)
