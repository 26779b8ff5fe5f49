use Rattle.std.proofs.Common.{◌≡◌, ◌≤◌, ◌+◌, length}
use Rattle.ir_lex.specs.Lexeme.{lexemes}
use Rattle.ir_lex.specs.Lex.{lex, lex_from}
use Rattle.ir_lex.proofs.Lexing.{with_front}
use Rattle.ir_lex.proofs.lexer.tokens.Given as goal

-- what was read stands before what is still to be read; there are no more lines than bytes
abbrev pub invariant-loop-rest : goal.invariant-loop-rest
invariant-loop-rest l = record {
  so_far : with_front (lexemes l.found.items) (lex_from 0 l.line l.rest) ≡ lex l.text;
  short : length l.rest ≤ length l.text;
  room : l.line + length l.rest ≤ length l.text + 1;
}

abbrev pub decreases-loop-rest : goal.decreases-loop-rest
decreases-loop-rest l = length l.rest
