use Rattle.std.proofs.Common.{◌≡◌, true, drop}
use Rattle.hk_cert_lines.specs.Words.{is_spaced}
use Rattle.hk_cert_lines.proofs.words.is_spaced.Given as goal

abbrev pub invariant-loop-byte : goal.invariant-loop-byte
invariant-loop-byte l = is_spaced l.behind (drop l.byte-index l.line) ≡ is_spaced true l.line
