use Rattle.std.proofs.Common.{◌∷◌, ◌++◌, [], sym, arith, ◌∙◌}
use Rattle.std.proofs.lemmas.List.FromFn.{map-range_with_len_more}
use Rattle.hk_term.specs.Meaning.{reading_of}
use Rattle.hk_symmem.specs.Origins.{cell_byte}
use Rattle.hk_cells.proofs.filling.array_bytes.Goals as goal

pub loop-index-preserved : goal.loop-index-preserved
loop-index-preserved c =
    c.in_ok-push.ensures.items
    ∙ (λ i. c.loop-index.invariant i ++ c.byte_at.ensures i ∷ [])
    ∙ sym (map-range_with_len_more (cell_byte c.args.cell ((reading_of c.args.v.now).entry c.args.object)) 0 c.loop-index.index c.loop-index.index (omega arith))
