use Rattle.std.proofs.Common.{refl}
use Rattle.hk_inst.specs.Growing.{ids_below}
use Rattle.hk_inst.proofs.required.choice.Goals as goal

pub returns-clause-adds : goal.returns-clause-adds
returns-clause-adds c = λ next below all. c.put-2.ensures.adds (ids_below next) (c.put.ensures.adds (ids_below next) (c.in_ok-rest.ensures.adds next below all) refl) refl
