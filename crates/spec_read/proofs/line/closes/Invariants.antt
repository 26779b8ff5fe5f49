use Rattle.std.proofs.Common.{◌≡◌, ◌≤◌, drop}
use Rattle.spec_lex.specs.Token.{tokens_of}
use Rattle.spec_read.specs.LineReading as definition
use Rattle.spec_read.proofs.line.closes.Given as goal

-- what is left closes just where the whole does
abbrev pub invariant-loop-token : goal.invariant-loop-token
invariant-loop-token l = record {
  value : definition.closes l.nest (tokens_of (drop l.token-index l.tokens)) ≡ definition.closes 0 (tokens_of l.tokens);
  few : l.nest ≤ 256;
}
