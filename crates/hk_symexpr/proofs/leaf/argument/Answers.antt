use Rattle.hk_symexpr.specs.Scope.{scope_of}
use Rattle.hk_symexpr.proofs.Leaves.{argument_is}
use Rattle.hk_symexpr.proofs.leaf.argument.Goals as goal

pub returns : goal.returns
returns c = argument_is c.args.t.now (scope_of c.args.names.now) c.args.k c.named_at.result c.requires.names c.requires.there c.named_at.ensures
