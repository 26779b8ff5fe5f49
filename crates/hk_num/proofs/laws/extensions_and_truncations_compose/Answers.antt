use Rattle.std.proofs.Math.Nat.{mod-eq_of_lt}
use Rattle.hk_num.proofs.Algebra.{extend_twice, cut_extended, cut_twice}
use Rattle.hk_num.proofs.laws.extensions_and_truncations_compose.Goals as goal

pub returns-clause-sign_twice : goal.returns-clause-sign_twice
returns-clause-sign_twice c = extend_twice

pub returns-clause-sign_taken_back : goal.returns-clause-sign_taken_back
returns-clause-sign_taken_back c = cut_extended

pub returns-clause-zero_taken_back : goal.returns-clause-zero_taken_back
returns-clause-zero_taken_back c = λ w a below. mod-eq_of_lt below

pub returns-clause-cut_twice : goal.returns-clause-cut_twice
returns-clause-cut_twice c = cut_twice
