use Rattle.spec_kernel.specs.declared.rows.GlobalRow.{GlobalRow}
use Rattle.spec_kernel.proofs.FirstPlaces.{firsts_any}
use Rattle.spec_kernel.proofs.firsts.global_places.Goals as goal

pub loop-at-preserved : goal.loop-at-preserved
loop-at-preserved c =
    firsts_any (λ (r : GlobalRow). r.name.now) c.args.globals.now c.loop-at.at _ c.loop-at.firsts c.add.new.self c.loop-at-test.true c.loop-at.invariant c.in_ok-add.ensures
