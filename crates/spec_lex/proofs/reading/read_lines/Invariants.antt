use Rattle.std.proofs.Common.{◌≡◌, ◌+◌, ◌≤◌, length}
use Rattle.spec_lex.specs.Reading.{lines_from, read_lines, state_of, rows_left, size_left}
use Rattle.spec_lex.specs.Rest.{left_of}
use Rattle.spec_lex.proofs.reading.read_lines.Given as goal

-- what is read so far goes on to the lines of the text
abbrev pub invariant-loop-rest : goal.invariant-loop-rest
invariant-loop-rest l = record {
  lines : lines_from (state_of l.reading) l.number (rows_left (left_of l.rest)) ≡ read_lines l.text;
  nest : l.reading.nest + size_left (left_of l.rest) ≤ length l.text + 1;
  number : l.number + size_left (left_of l.rest) ≤ length l.text + 2;
}

abbrev pub decreases-loop-rest : goal.decreases-loop-rest
decreases-loop-rest l = size_left (left_of l.rest)
