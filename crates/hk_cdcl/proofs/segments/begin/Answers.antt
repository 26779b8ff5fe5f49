use Rattle.std.proofs.Common.{refl}
use Rattle.hk_cdcl.proofs.Segmenting.{begun-part}
use Rattle.hk_cdcl.proofs.segments.begin.Goals as goal

pub returns : goal.returns
returns c = begun-part c.args.given c.args.whole.now (record c.args.active.now { clauses = c.in_ok-clauses.field-0.clauses; log = c.new.result }) c.in_ok-clauses.field-0 c.in_ok-clauses.ensures refl c.new.ensures
