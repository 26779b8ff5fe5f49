use Rattle.std.proofs.Common.{◌≡◌, ◌+◌, map, take, get_or, sym, ◌∙◌, ap, subst}
use Rattle.std.proofs.lemmas.List.{take_more}
use Rattle.hk_lrat.specs.Entries.{dead_at, dead_in, IsRising}
use Rattle.hk_lrat.proofs.Look.{dead-none, dead_in-more, rising-dead}
use Rattle.hk_lrat.proofs.table.kill_all.Goals as goal

pub loop-id-init : goal.loop-id-init
loop-id-init c = (sym (dead-none c.args.table.now), c.requires)

pub loop-id-preserved : goal.loop-id-preserved
loop-id-preserved c =
    let e : c.kill.new.table ≡ map (dead_in (take (c.loop-id.id-index + 1) c.args.ids.now)) c.args.table.now =
    c.kill.ensures ∙ (ap (map (dead_at (get_or c.args.ids.now c.loop-id.id-index 0))) c.loop-id.invariant.0
    ∙ (dead_in-more c.args.table.now (take c.loop-id.id-index c.args.ids.now) (get_or c.args.ids.now c.loop-id.id-index 0)
    ∙ ap (λ x. map (dead_in x) c.args.table.now) (sym (take_more c.args.ids.now c.loop-id.id-index 0 c.loop-id-test.true)))) in
    (e, subst IsRising (sym e) (rising-dead (take (c.loop-id.id-index + 1) c.args.ids.now) c.args.table.now c.requires))
