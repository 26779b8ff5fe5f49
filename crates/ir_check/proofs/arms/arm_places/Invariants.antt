use Rattle.std.proofs.Common.{◌≡◌, ◌++◌, drop, map}
use Rattle.ir_check.specs.Graphs.{places_among}
use Rattle.ir_check.proofs.arms.arm_places.Given as goal

abbrev pub invariant-loop-arm : goal.invariant-loop-arm
invariant-loop-arm l = l.places ++ places_among l.index (map (λ arm. arm.1) (drop l.arm-index l.arms)) ≡ places_among l.index (map (λ arm. arm.1) l.arms)
