use Rattle.std.proofs.Common.{take}
use Rattle.hk_verify.specs.Words.{AreNumbers, bytes_of}
use Rattle.hk_verify.proofs.words.are_numbers.Given as goal

abbrev pub invariant-loop-word : goal.invariant-loop-word
invariant-loop-word l = AreNumbers (bytes_of (take l.word-index l.words))
