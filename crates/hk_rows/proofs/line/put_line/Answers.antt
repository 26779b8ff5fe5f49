use Rattle.std.proofs.Common.{◌∷◌, [], refl}
use Rattle.hk_rows.specs.Texts.{part_text}
use Rattle.hk_rows.proofs.Adding.{on_err, adds_more, adds_cut, adds_all, fails_behind_all, fails_front, cut_from_nothing, cut_at_end}
use Rattle.hk_rows.proofs.line.put_line.Goals as goal

pub returns-in_err-add_part-clause-cut : goal.returns-in_err-add_part-clause-cut
returns-in_err-add_part-clause-cut g c =
    let failed = adds_cut part_text c.args.parts.now c.loop-part.part-index _ _ _ _ _ _ _ _ _ _ c.loop-part-test.true refl c.loop-part.invariant c.in_err-add_part.ensures.err in
    on_err _ _ (cut_from_nothing _ _ _ _ _ _ c.new-held.ensures (fails_front _ _ _ _ _ _ (10 ∷ []) failed))

pub loop-part-preserved : goal.loop-part-preserved
loop-part-preserved g c =
    adds_more part_text c.args.parts.now c.loop-part.part-index _ _ _ _ _ _ _ _ _ _ _ c.loop-part-test.true refl c.loop-part.invariant c.in_ok-add_part.ensures.ok

pub returns-in_err-add_byte-clause-cut : goal.returns-in_err-add_byte-clause-cut
returns-in_err-add_byte-clause-cut g c =
    on_err _ _ (cut_from_nothing _ _ _ _ _ _ c.new-held.ensures
    (fails_behind_all part_text c.args.parts.now c.loop-part.part-index _ _ _ _ _ _ _ _ (10 ∷ []) c.loop-part-test.false c.loop-part.invariant c.in_err-add_byte.ensures.err))

pub returns-clause-cut : goal.returns-clause-cut
returns-clause-cut g c =
    let all = adds_all part_text c.args.parts.now c.loop-part.part-index _ _ _ _ _ _ _ _ _ (10 ∷ []) c.loop-part-test.false c.loop-part.invariant c.in_ok-add_byte.ensures.ok in
    cut_at_end _ _ _ _ _ _ _ _ _ _ c.new-held.ensures c.as_slice.ensures.value all c.put.ensures.sent c.put.ensures.within
