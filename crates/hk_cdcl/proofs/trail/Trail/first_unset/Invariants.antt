use Rattle.std.proofs.Common.{◌≡◌, ◌<◌, ℕ, true}
use Rattle.hk_cdcl.specs.Path.{is_set}
use Rattle.hk_cdcl.proofs.trail.Trail.first_unset.Given as goal

abbrev pub invariant-loop-place : goal.invariant-loop-place
invariant-loop-place l = (n : ℕ) → n < l.place → is_set l.self.lits n ≡ true
