use Rattle.std.proofs.Common.{◌≡◌, ◌⊎◌, take}
use Rattle.std.specs.List.{All}
use Rattle.hk_cdcl.proofs.watched.has_only.Given as goal

abbrev pub invariant-loop-lit : goal.invariant-loop-lit
invariant-loop-lit l = All (λ x. (l.second ≡ x) ⊎ (l.first ≡ x)) (take l.lit-index l.clause)
