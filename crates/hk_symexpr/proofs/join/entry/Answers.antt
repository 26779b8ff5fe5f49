use Rattle.hk_symexpr.specs.Scope.{scope_of}
use Rattle.hk_symexpr.proofs.Joins.{entry_is}
use Rattle.hk_symexpr.proofs.join.entry.Goals as goal

pub returns-clause-term : goal.returns-clause-term
returns-clause-term g c =
    λ base old at lasts limits.
    entry_is base (g.R.SymReads.source c.args.reads.now c.args.t.now) (g.R.SymReads.named c.args.reads.now) (g.R.SymReads.limit c.args.reads.now) (scope_of c.args.names.now) old c.args.t.now c.entry.new.t c.args.name c.args.field c.in_ok-made.made c.args.index.now at
    c.requires.ready.ids lasts limits c.in_ok-made.ensures.within c.in_ok-made.ensures.width (c.in_ok-made.ensures.value c.requires.reads)
