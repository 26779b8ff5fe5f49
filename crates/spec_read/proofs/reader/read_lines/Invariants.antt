use Rattle.std.proofs.Common.{◌≡◌, drop}
use Rattle.spec_ast.specs.View.{view_lines}
use Rattle.spec_lex.specs.Lines.{lines_of}
use Rattle.spec_read.specs.declared.section.Section.TheVariants.{Nowhere}
use Rattle.spec_read.specs.LineReading.{lines_read, put_all}
use Rattle.spec_read.proofs.reader.read_lines.Given as goal

-- the lines so far, and those of what is left, are the whole
abbrev pub invariant-loop-index : goal.invariant-loop-index
invariant-loop-index l = put_all (view_lines l.found.items) (lines_read l.section (lines_of (drop l.index l.lines))) ≡ lines_read Nowhere (lines_of l.lines)
