use Rattle.ir_kernel.proofs.ValueTypes.{binary_makes, compare_makes, compare_pointers_makes, convert_makes, select_makes, freeze_makes, first_makes, second_makes, pair_makes, begin_makes, step_makes}
use Rattle.ir_kernel.proofs.laws.instructions_make_values_of_their_types.Goals as goal

pub returns-clause-binary : goal.returns-clause-binary
returns-clause-binary c = binary_makes

pub returns-clause-compare : goal.returns-clause-compare
returns-clause-compare c = compare_makes

pub returns-clause-compare_pointers : goal.returns-clause-compare_pointers
returns-clause-compare_pointers c = compare_pointers_makes

pub returns-clause-convert : goal.returns-clause-convert
returns-clause-convert c = convert_makes

pub returns-clause-select : goal.returns-clause-select
returns-clause-select c = select_makes

pub returns-clause-freeze : goal.returns-clause-freeze
returns-clause-freeze c = freeze_makes

pub returns-clause-number : goal.returns-clause-number
returns-clause-number c = first_makes

pub returns-clause-bit : goal.returns-clause-bit
returns-clause-bit c = second_makes

pub returns-clause-pair : goal.returns-clause-pair
returns-clause-pair c = pair_makes

pub returns-clause-begin : goal.returns-clause-begin
returns-clause-begin c = begin_makes

pub returns-clause-steps : goal.returns-clause-steps
returns-clause-steps c = step_makes
