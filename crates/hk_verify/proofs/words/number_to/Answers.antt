use Rattle.std.proofs.Common.{arith}
use Rattle.hk_verify.proofs.NumberWords.{numbers_agree}
use Rattle.hk_verify.proofs.words.number_to.Goals as goal
use Rattle.hk_verify.proofs.words.number_to.Goals.{else-number-ge1-via-then-number-ge1+else-number-most, else-number-ge1-via-else-number-ge1}

pub returns-else-number-ge1-clause-none : goal.returns-else-number-ge1-clause-none
returns-else-number-ge1-clause-none c = λ n some below spelled.
    let same = numbers_agree c.args.word.now c.in-Some.number n c.args.most c.in-Some.ensures.number c.in-Some.ensures.small (omega (arith, c.ranges.most)) below spelled in
    elim c.else-number-ge1.branch [ else-number-ge1-via-then-number-ge1+else-number-most w ↦ omega (arith, same, below, w.if-number-most) | else-number-ge1-via-else-number-ge1 w ↦ omega (arith, same, some, w.if-number-ge1) ]
