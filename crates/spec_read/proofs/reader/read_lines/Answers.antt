use Rattle.spec_ast.specs.View.{view_lines}
use Rattle.spec_lex.specs.Lines.{lines_of}
use Rattle.spec_read.specs.declared.section.Section.TheVariants.{Nowhere}
use Rattle.spec_read.specs.LineReading.{lines_read}
use Rattle.spec_read.proofs.LineAnswers.{lines_end}
use Rattle.spec_read.proofs.reader.read_lines.Goals as goal

pub returns : goal.returns
returns c =
    lines_end (view_lines c.loop-index.found.items) c.loop-index.section c.args.lines.now c.loop-index.index (lines_read Nowhere (lines_of c.args.lines.now)) c.loop-index-test.false c.loop-index.invariant
