use Rattle.std.proofs.Common.{◌≡◌, drop}
use Rattle.spec_lex.specs.Lines.{lines_of}
use Rattle.spec_read.specs.Texts as texts
use Rattle.spec_read.proofs.line.has_return.Given as goal

-- what is left has a `return` just where the whole has
abbrev pub invariant-loop-line : goal.invariant-loop-line
invariant-loop-line l = texts.has_return (lines_of (drop l.line-index l.lines)) ≡ texts.has_return (lines_of l.lines)
