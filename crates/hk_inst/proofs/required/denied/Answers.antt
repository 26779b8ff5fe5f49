use Rattle.std.proofs.Common.{refl}
use Rattle.hk_inst.specs.Demanded.IsRefutation.{ended}
use Rattle.hk_inst.specs.Growing.{ids_below}
use Rattle.hk_inst.proofs.required.denied.Goals as goal

pub returns-clause-refutes : goal.returns-clause-refutes
returns-clause-refutes c =
    ended c.in_ok-no.no c.in_ok-yes.yes (c.put-3.ensures.keeps c.in_ok-no.no _ (c.put-2.ensures.keeps c.in_ok-no.no _ c.in_ok-no.ensures.at)) (c.put-3.ensures.keeps c.in_ok-yes.yes _ c.in_ok-yes.ensures.at) c.in_ok-made.ensures.at

pub returns-clause-adds : goal.returns-clause-adds
returns-clause-adds c = λ next all. c.put-3.ensures.adds (ids_below next) (c.put-2.ensures.adds (ids_below next) (c.put.ensures.adds (ids_below next) all refl) refl) refl
