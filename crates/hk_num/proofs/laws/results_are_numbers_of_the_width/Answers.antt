use Rattle.std.proofs.Common.{◌+◌, ◌-◌, ◌*◌, ◌^◌, pos}
use Rattle.std.specs.Int.{int_div_euclid}
use Rattle.std.specs.Int.RustNames.{int_div, int_rem}
use Rattle.std.proofs.Math.Nat.{mod-lt}
use Rattle.std.proofs.lemmas.Nat.{pow_pos}
use Rattle.hk_num.specs.Numbers.{signed_of}
use Rattle.hk_num.proofs.Algebra.{number_below, udiv_below, urem_below, lshr_below}
use Rattle.hk_num.proofs.laws.results_are_numbers_of_the_width.Goals as goal

pub returns-clause-add : goal.returns-clause-add
returns-clause-add c = λ w a b. mod-lt (a + b) (pow_pos w)

pub returns-clause-sub : goal.returns-clause-sub
returns-clause-sub c = λ w a b. mod-lt (2 ^ w + a - b) (pow_pos w)

pub returns-clause-mul : goal.returns-clause-mul
returns-clause-mul c = λ w a b. mod-lt (a * b) (pow_pos w)

pub returns-clause-udiv : goal.returns-clause-udiv
returns-clause-udiv c = udiv_below

pub returns-clause-urem : goal.returns-clause-urem
returns-clause-urem c = urem_below

pub returns-clause-sdiv : goal.returns-clause-sdiv
returns-clause-sdiv c = λ w a b. number_below w (int_div (signed_of w a) (signed_of w b))

pub returns-clause-srem : goal.returns-clause-srem
returns-clause-srem c = λ w a b. number_below w (int_rem (signed_of w a) (signed_of w b))

pub returns-clause-shl : goal.returns-clause-shl
returns-clause-shl c = λ w a b. mod-lt (a * 2 ^ b) (pow_pos w)

pub returns-clause-lshr : goal.returns-clause-lshr
returns-clause-lshr c = lshr_below

pub returns-clause-ashr : goal.returns-clause-ashr
returns-clause-ashr c = λ w a b. number_below w (int_div_euclid (signed_of w a) (pos (2 ^ b)))

pub returns-clause-sext : goal.returns-clause-sext
returns-clause-sext c = λ from to a. number_below to (signed_of from a)
