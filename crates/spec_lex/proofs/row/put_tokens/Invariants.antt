use Rattle.std.proofs.Common.{◌≡◌, ◌+◌, ◌≤◌, ◌++◌, length}
use Rattle.spec_lex.specs.Token.{open_after}
use Rattle.spec_lex.specs.Reading.{read_tokens, row_tokens}
use Rattle.spec_lex.proofs.row.put_tokens.Given as goal

-- the tokens found so far stand before those of what is left
abbrev pub invariant-loop-rest : goal.invariant-loop-rest
invariant-loop-rest l = record {
  tokens : l.found ++ read_tokens 0 l.rest ≡ l.initial.found ++ row_tokens l.row;
  nest : open_after l.level (read_tokens 0 l.rest) ≡ open_after l.nest (row_tokens l.row);
  short : length l.rest ≤ length l.row;
  room : l.level + length l.rest ≤ l.nest + length l.row;
}

abbrev pub decreases-loop-rest : goal.decreases-loop-rest
decreases-loop-rest l = length l.rest
