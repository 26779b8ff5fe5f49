use Rattle.std.proofs.Common.{◌≡◌, ◌≤◌, ◌++◌, ◌-◌, drop, length}
use Rattle.ir_lex.specs.Lexeme.{lexemes}
use Rattle.ir_lex.specs.Drop.{remaining, remaining_from}
use Rattle.ir_lex.proofs.drops.remaining.Given as goal

-- the tokens kept so far stand before those that remain of what is left
abbrev pub invariant-loop-at : goal.invariant-loop-at
invariant-loop-at l = record {
  so_far : lexemes l.kept.items ++ remaining_from 0 l.after_comma (lexemes (drop l.at l.tokens)) ≡ remaining (lexemes l.tokens);
  within : l.at ≤ length l.tokens;
}

abbrev pub decreases-loop-at : goal.decreases-loop-at
decreases-loop-at l = length l.tokens - l.at
