use Rattle.hk_term.proofs.KindLemmas.{binary_below, binary_is_width}
use Rattle.hk_simplify.proofs.plain.folded.Goals as goal

pub number-requires-clause-number : goal.number-requires-clause-number
number-requires-clause-number c =
    rw (c.apply_binary.ensures, c.width_of.ensures)
    (binary_below c.args.kind c.args.w c.args.u c.args.m c.args.n c.requires.first_width c.requires.fits c.requires.first c.requires.second)

pub returns-clause-number : goal.returns-clause-number
returns-clause-number c =
    binary_below c.args.kind c.args.w c.args.u c.args.m c.args.n c.requires.first_width c.requires.fits c.requires.first c.requires.second

pub returns-clause-width : goal.returns-clause-width
returns-clause-width c = binary_is_width c.args.kind c.args.w c.args.u c.requires.first_width c.requires.fits
