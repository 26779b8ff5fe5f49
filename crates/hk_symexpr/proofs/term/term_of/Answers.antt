use Rattle.hk_symexpr.specs.Scope.{scope_of}
use Rattle.hk_symexpr.proofs.Suiting.{lasts_here}
use Rattle.hk_symexpr.proofs.term.term_of.Goals as goal

pub returns-clause-value : goal.returns-clause-value
returns-clause-value g c = λ v env suits.
    let S = scope_of c.args.names.now in
    let src = g.R.SymReads.source c.args.reads.now c.args.t.now in
    (c.in_ok-made.ensures.term src c.args.t.now (lasts_here src c.args.t.now S c.requires.names)).value_is v env suits
