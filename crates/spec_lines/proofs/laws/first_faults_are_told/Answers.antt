use Rattle.spec_lines.proofs.Least.{least, tells, one_first, first_or_stand}
use Rattle.spec_lines.proofs.laws.first_faults_are_told.Goals as goal

pub returns-clause-least : goal.returns-clause-least
returns-clause-least c = least

pub returns-clause-told : goal.returns-clause-told
returns-clause-told c = tells

pub returns-clause-one : goal.returns-clause-one
returns-clause-one c = one_first

pub returns-clause-apart : goal.returns-clause-apart
returns-clause-apart c = first_or_stand
