use Rattle.std.proofs.Common.{take, map}
use Rattle.spec_kernel.specs.Firsts.{AreFirsts}
use Rattle.spec_kernel.proofs.firsts.global_places.Given as goal

abbrev pub invariant-loop-at : goal.invariant-loop-at
invariant-loop-at l = AreFirsts l.firsts (map (λ g. g.name.now) (take l.at l.globals))
