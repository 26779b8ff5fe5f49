use Rattle.std.proofs.Common.{map}
use Rattle.hk_copy.specs.declared.stand.Stand.TheVariants.{Number}
use Rattle.hk_copy.specs.Stands.{standing}
use Rattle.hk_copy.proofs.CopyLaws.{copies-grows}
use Rattle.hk_copy.proofs.StepLaws.{grows-refl}
use Rattle.hk_inst.proofs.demand.tuple_demand.Goals as goal

pub returns-clause-demand : goal.returns-clause-demand
returns-clause-demand c = (
  c.in_ok-at.at,
  copies-grows c.body_at.new.terms c.implication.new.terms (c.in_ok-made.ensures.grows c.body_at.new.terms (grows-refl c.body_at.new.terms)) (standing c.args.bound.now (map Number c.args.indices.now)) c.args.body c.in_ok-at.at c.in_ok-at.ensures.copies,
  c.in_ok-made.ensures.implies,
)
