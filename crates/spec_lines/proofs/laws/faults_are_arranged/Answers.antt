use Rattle.spec_lines.proofs.Arranged.{line_faults}
use Rattle.spec_lines.proofs.laws.faults_are_arranged.Goals as goal

pub returns : goal.returns
returns c = line_faults
