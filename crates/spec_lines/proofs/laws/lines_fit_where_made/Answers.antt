use Rattle.spec_lines.proofs.Fitting.{fits_where_made}
use Rattle.spec_lines.proofs.laws.lines_fit_where_made.Goals as goal

pub returns : goal.returns
returns c = fits_where_made
