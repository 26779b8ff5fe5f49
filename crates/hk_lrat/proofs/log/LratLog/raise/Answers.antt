use Rattle.std.proofs.Common.{set, sym, ◌∙◌, ap}
use Rattle.std.proofs.lemmas.List.Edits.{map_over_more}
use Rattle.hk_lrat.specs.declared.log.LratRow.{LratRow}
use Rattle.hk_lrat.specs.Raised.{raised_row}
use Rattle.hk_lrat.proofs.log.LratLog.raise.Goals as goal

pub loop-row-preserved : goal.loop-row-preserved
loop-row-preserved c =
    ap (set c.loop-row.row-items c.loop-row.row-index) c.raise.ensures
    ∙ (ap (λ (x : LratRow). set c.loop-row.row-items c.loop-row.row-index (raised_row c.args.from c.args.by x)) (sym c.row-item.is)
    ∙ map_over_more (raised_row c.args.from c.args.by) c.deref_mut-row-items.result.now c.loop-row.row-items c.loop-row.row-index c.row-item.result c.loop-row-test.true c.loop-row.invariant c.row-item.is)
