use Rattle.std.proofs.Common.{rules, ◌<◌, refl, arith}
use Rattle.hk_decide.proofs.trying.try_spent.Goals as goal

pub returns-then-case_bits-gt-MOST_BITS : goal.returns-then-case_bits-gt-MOST_BITS
returns-then-case_bits-gt-MOST_BITS c = λ budget l t laid found exact spent.
    let many : 16 < c.case_bits.result = search rules in
    let bits = c.case_bits.ensures l t laid found in
    (refl, record { many = omega (arith, bits, many); exact = exact; spent = spent })
