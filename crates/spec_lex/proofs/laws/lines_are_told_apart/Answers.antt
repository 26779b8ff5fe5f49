use Rattle.std.proofs.Common.{sym}
use Rattle.spec_lex.specs.Reading.{read_lines}
use Rattle.spec_lex.proofs.LineLaws.{lines_sound, lines_complete}
use Rattle.spec_lex.proofs.laws.lines_are_told_apart.Goals as goal

pub returns : goal.returns
returns c = λ text. (read_lines text, lines_sound text, λ others printed. sym (lines_complete text others printed))
