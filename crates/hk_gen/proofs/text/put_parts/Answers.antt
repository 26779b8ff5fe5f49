use Rattle.hk_gen.specs.Texts.{part_text}
use Rattle.hk_gen.proofs.Pieces.{piece_added, pieces_all}
use Rattle.hk_gen.proofs.text.put_parts.Goals as goal

pub loop-part-preserved : goal.loop-part-preserved
loop-part-preserved c =
    piece_added part_text c.args.parts.now c.loop-part.part-index _ _ _ _ c.loop-part-test.true c.loop-part.invariant c.in_ok-put_part.ensures

pub returns : goal.returns
returns c = pieces_all part_text c.args.parts.now c.loop-part.part-index _ _ c.loop-part-test.false c.loop-part.invariant
