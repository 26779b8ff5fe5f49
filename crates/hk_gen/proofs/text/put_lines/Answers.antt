use Rattle.hk_gen.specs.Texts.{line_text}
use Rattle.hk_gen.proofs.Pieces.{piece_added, pieces_all}
use Rattle.hk_gen.proofs.text.put_lines.Goals as goal

pub loop-line-preserved : goal.loop-line-preserved
loop-line-preserved c =
    piece_added (λ line. line_text line.now) c.args.lines.now c.loop-line.line-index _ _ _ _ c.loop-line-test.true c.loop-line.invariant c.in_ok-put_line.ensures

pub returns : goal.returns
returns c = pieces_all (λ line. line_text line.now) c.args.lines.now c.loop-line.line-index _ _ c.loop-line-test.false c.loop-line.invariant
