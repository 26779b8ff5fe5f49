use Rattle.std.proofs.Common.{ℕ, List, ◌≡◌, ◌<◌, ◌^◌, map, take, All}
use Rattle.std.specs.Fmt.{decimal}
use Rattle.hk_verify.specs.Words.{bytes_of}
use Rattle.hk_verify.proofs.words.numbers_of.Given as goal

abbrev pub invariant-loop-word : goal.invariant-loop-word
invariant-loop-word l = (arguments : List ℕ) → bytes_of l.words ≡ map decimal arguments → All (λ n. n < 2 ^ 64) arguments → l.numbers.items ≡ take l.word-index arguments
