-- When copies are too many: the loop that fills has 8 instructions, 4 blocks and 3 results, so 20 for each number of turns.
use Rattle.std.proofs.Common.{◌≡◌, ℕ, ◌+◌, ◌*◌, ◌<◌, refl, lit<, arith}
use Rattle.std.specs.Prelude.{length}
use Rattle.ir_typing.specs.Registers.{blocks_of}
use Rattle.hk_unroll.specs.declared.fault.UnrollReason.TheVariants.{X1, X2, X3}
use Rattle.hk_unroll.specs.Refusals.{instr_count, result_count, FallsX3, number_of}
use Rattle.hk_unroll.proofs.Filled.{looping}

some_counts : instr_count looping + length (blocks_of looping) * result_count looping ≡ 20
some_counts = refl

-- 5,001 times 20 is 100,020
some_large : FallsX3 looping 5000
some_large = lit< tt

-- 5,000 times 20 is not over 100,000
not_large : FallsX3 looping 4999 → ⊥
not_large h = let over : 100000 < 100000 = h in omega (arith, over)

some_numbers : number_of X1 + number_of X2 + number_of X3 ≡ 6
some_numbers = refl
