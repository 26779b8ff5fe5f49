use Rattle.std.proofs.Common.{◌≡◌, drop}
use Rattle.ir_lex.specs.Lexeme.{lexemes}
use Rattle.ir_lex.specs.Drop.{notes_from, are_notes}
use Rattle.ir_lex.proofs.whole.are_notes.Given as goal

-- what is left goes on from the note that was read last
abbrev pub invariant-loop-token : goal.invariant-loop-token
invariant-loop-token l = notes_from (lexemes (drop l.token-index l.tokens)) l.note ≡ are_notes (lexemes l.tokens)
