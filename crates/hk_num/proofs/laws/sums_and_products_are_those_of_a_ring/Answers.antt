use Rattle.hk_num.proofs.Algebra.{sub_zero, sub_self, add_then_sub, mul_zero, add_commutes, add_associates, add_zero, sub_then_add, mul_commutes, mul_associates, mul_one}
use Rattle.hk_num.proofs.laws.sums_and_products_are_those_of_a_ring.Goals as goal

pub returns-clause-add_commutes : goal.returns-clause-add_commutes
returns-clause-add_commutes c = add_commutes

pub returns-clause-add_associates : goal.returns-clause-add_associates
returns-clause-add_associates c = add_associates

pub returns-clause-add_zero : goal.returns-clause-add_zero
returns-clause-add_zero c = add_zero

pub returns-clause-sub_then_add : goal.returns-clause-sub_then_add
returns-clause-sub_then_add c = sub_then_add

pub returns-clause-mul_commutes : goal.returns-clause-mul_commutes
returns-clause-mul_commutes c = mul_commutes

pub returns-clause-mul_associates : goal.returns-clause-mul_associates
returns-clause-mul_associates c = mul_associates

pub returns-clause-mul_one : goal.returns-clause-mul_one
returns-clause-mul_one c = mul_one

pub returns-clause-sub_zero : goal.returns-clause-sub_zero
returns-clause-sub_zero c = sub_zero

pub returns-clause-sub_self : goal.returns-clause-sub_self
returns-clause-sub_self c = sub_self

pub returns-clause-add_then_sub : goal.returns-clause-add_then_sub
returns-clause-add_then_sub c = add_then_sub

pub returns-clause-mul_zero : goal.returns-clause-mul_zero
returns-clause-mul_zero c = mul_zero
