use Rattle.hk_symexpr.specs.Scope.{scope_of}
use Rattle.hk_symexpr.proofs.Walks.{ready_knowing}
use Rattle.hk_symexpr.proofs.load.ready_where.Goals as goal

pub returns : goal.returns
returns g c = ready_knowing (g.R.SymReads.named c.args.reads.now) (g.R.SymReads.limit c.args.reads.now) c.args.t.now (scope_of c.args.names.now) c.args.known.now c.requires.ready c.requires.known
