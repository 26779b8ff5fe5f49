use Rattle.hk_num.proofs.Readings.{reading_low}
use Rattle.hk_num.proofs.Algebra.{reading_difference, reading_fits_width, number_of_reading, reading_of_number}
use Rattle.hk_num.proofs.laws.readings_and_numbers_agree.Goals as goal

pub returns-clause-low : goal.returns-clause-low
returns-clause-low c = reading_low

pub returns-clause-high : goal.returns-clause-high
returns-clause-high c = reading_difference

pub returns-clause-fits : goal.returns-clause-fits
returns-clause-fits c = reading_fits_width

pub returns-clause-number_of_reading : goal.returns-clause-number_of_reading
returns-clause-number_of_reading c = number_of_reading

pub returns-clause-reading_of_number : goal.returns-clause-reading_of_number
returns-clause-reading_of_number c = reading_of_number
