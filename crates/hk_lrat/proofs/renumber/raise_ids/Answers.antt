use Rattle.std.proofs.Common.{set, get_or, sym, ◌∙◌, ap, arith}
use Rattle.std.proofs.lemmas.List.{get_or_default}
use Rattle.std.proofs.lemmas.List.Edits.{map_over_more}
use Rattle.hk_lrat.specs.Raised.{raised_id}
use Rattle.hk_lrat.proofs.renumber.raise_ids.Goals as goal

pub loop-id-preserved : goal.loop-id-preserved
loop-id-preserved c =
    ap (set c.loop-id.id-items c.loop-id.id-index) c.raised_id.ensures
    ∙ map_over_more (raised_id c.args.from c.args.by) c.deref_mut-id-items.result.now c.loop-id.id-items c.loop-id.id-index (get_or c.loop-id.id-items c.loop-id.id-index 0) c.loop-id-test.true c.loop-id.invariant
    (sym (get_or_default c.loop-id.id-items c.loop-id.id-index (get_or c.loop-id.id-items c.loop-id.id-index 0) 0 (omega arith)))
