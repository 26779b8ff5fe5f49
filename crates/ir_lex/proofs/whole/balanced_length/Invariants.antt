use Rattle.std.proofs.Common.{◌≡◌, ◌+◌, [], drop}
use Rattle.std.specs.Prelude.{option_map}
use Rattle.ir_lex.specs.Lexeme.{lexemes}
use Rattle.ir_lex.specs.Drop.{balanced_length}
use Rattle.ir_lex.proofs.whole.balanced_length.Given as goal

-- what was passed over stands before what the bracket still takes
abbrev pub invariant-loop-at : goal.invariant-loop-at
invariant-loop-at l = option_map (λ n. n + l.at) (balanced_length l.brackets (lexemes (drop l.at l.tokens))) ≡ balanced_length [] (lexemes l.tokens)
