use Rattle.std.proofs.Common.{◌≡◌, ◌<◌, ◌^◌, drop}
use Rattle.spec_expr.specs.Words.{digits_behind, digits_of, within}
use Rattle.spec_expr.proofs.word.digits_of.Given as goal

abbrev pub invariant-loop-byte : goal.invariant-loop-byte
invariant-loop-byte l = record {
  value : within (digits_behind l.base l.value (drop l.byte-index l.digits)) ≡ within (digits_of l.base l.digits);
  fits : l.value < 2 ^ 64;
}
