use Rattle.hk_term.specs.Shape.{width}
use Rattle.hk_term.specs.Meaning.{value}
use Rattle.hk_cells.proofs.CutLaws.{bytes_above}
use Rattle.hk_cells.proofs.terms.above.Goals as goal

pub returns-clause-value : goal.returns-clause-value
returns-clause-value c = λ v.
    bytes_above (value c.args.t.now c.args.high v) (value c.args.t.now c.args.low v) (width c.args.t.now c.args.low) c.args.bytes _ c.requires.low.1 (c.in_ok-made.ensures.value v)
