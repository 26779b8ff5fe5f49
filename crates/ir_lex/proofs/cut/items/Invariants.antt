use Rattle.std.proofs.Common.{◌≡◌, ◌≤◌, ◌-◌, ◌++◌, drop, length}
use Rattle.ir_lex.specs.Lexeme.{lexemes}
use Rattle.ir_lex.specs.Cut.{cut, cut_from, cuts_of}
use Rattle.ir_lex.proofs.cut.items.Given as goal

-- the items found so far stand before those of the tokens that are left
abbrev pub invariant-loop-at : goal.invariant-loop-at
invariant-loop-at l = record {
  so_far : cuts_of l.found.items ++ cut_from 0 (lexemes (drop l.at l.tokens)) ≡ cut (lexemes l.tokens);
  within : l.at ≤ length l.tokens;
}

abbrev pub decreases-loop-at : goal.decreases-loop-at
decreases-loop-at l = length l.tokens - l.at
