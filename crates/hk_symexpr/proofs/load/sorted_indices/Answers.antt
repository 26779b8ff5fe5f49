use Rattle.spec_tree.specs.View.{view_expr_list}
use Rattle.hk_symexpr.specs.Scope.{scope_of}
use Rattle.hk_symexpr.specs.Naming.{context_of}
use Rattle.hk_symexpr.proofs.Walks.{entry_sorted}
use Rattle.hk_symexpr.proofs.load.sorted_indices.Goals as goal

pub returns : goal.returns
returns g c = entry_sorted (context_of (g.R.SymReads.named c.args.reads.now) (scope_of c.args.names.now)) c.args.name c.args.field (view_expr_list c.args.at.now) c.requires
