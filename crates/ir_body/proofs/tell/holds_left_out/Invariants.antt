use Rattle.std.proofs.Common.{◌≡◌, drop}
use Rattle.ir_lex.specs.Lexeme.{lexemes}
use Rattle.ir_lex.specs.Items.{holds_left_out}
use Rattle.ir_body.proofs.tell.holds_left_out.Given as goal

-- what is left decides
abbrev pub invariant-loop-at : goal.invariant-loop-at
invariant-loop-at l = holds_left_out (lexemes (drop l.at l.tokens)) ≡ holds_left_out (lexemes l.tokens)
