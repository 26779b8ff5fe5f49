use Rattle.std.proofs.Common.{arith, subst}
use Rattle.hk_cert_log.specs.Extents.{IsRowEnd}
use Rattle.hk_cert_log.proofs.Fronts.{one-more}
use Rattle.hk_cert_log.proofs.extent.extent.Goals as goal

pub loop-rows-preserved : goal.loop-rows-preserved
loop-rows-preserved c = (
  one-more c.args.text.now c.loop-rows.rows c.loop-rows.end c.in-Some.length c.loop-rows.invariant.0 (subst (λ t. IsRowEnd t c.in-Some.length) c.split_at.ensures.back c.in-Some.ensures),
  omega (arith, c.loop-rows-test.true),
)
