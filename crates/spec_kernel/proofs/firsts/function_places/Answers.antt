use Rattle.spec_kernel.specs.declared.rows.FunctionRow.{FunctionRow}
use Rattle.spec_kernel.proofs.FirstPlaces.{firsts_next}
use Rattle.spec_kernel.proofs.firsts.function_places.Goals as goal

pub loop-at-preserved : goal.loop-at-preserved
loop-at-preserved c =
    firsts_next (λ (r : FunctionRow). r.name.now) c.args.functions.now c.loop-at.at c.index-functions-at.result c.loop-at.firsts c.add.new.self c.loop-at-test.true c.index-functions-at.is
    c.loop-at.invariant c.in_ok-add.ensures
