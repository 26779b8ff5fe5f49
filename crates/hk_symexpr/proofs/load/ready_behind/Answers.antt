use Rattle.spec_tree.specs.View.{view_expr}
use Rattle.hk_symexpr.specs.Scope.{scope_of}
use Rattle.hk_symexpr.proofs.Walks.{ready_entered, ids_entered, sorted_entered}
use Rattle.hk_symexpr.proofs.load.ready_behind.Goals as goal

pub returns-clause-ready : goal.returns-clause-ready
returns-clause-ready g c = ready_entered (g.R.SymReads.named c.args.reads.now) (g.R.SymReads.limit c.args.reads.now) c.args.t.now (scope_of c.args.names.now) c.args.all.now c.args.sizes.now c.requires.ready c.requires.all c.requires.room

pub returns-clause-ids : goal.returns-clause-ids
returns-clause-ids g c = ids_entered (g.R.SymReads.named c.args.reads.now) (g.R.SymReads.limit c.args.reads.now) c.args.t.now (scope_of c.args.names.now) c.args.all.now c.args.sizes.now c.requires.ready c.requires.all c.requires.room

pub returns-clause-sorted : goal.returns-clause-sorted
returns-clause-sorted g c = sorted_entered (g.R.SymReads.named c.args.reads.now) (scope_of c.args.names.now) c.args.all.now c.args.sizes.now (view_expr c.args.e.now) c.requires.all c.requires.sorted
