use Rattle.std.proofs.Common.{ℕ, ◌<◌, ◌-◌, get_or}
use Rattle.hk_lrat.proofs.rank.are_rising.Given as goal

abbrev pub invariant-loop-k : goal.invariant-loop-k
invariant-loop-k l = (j : ℕ) → 0 < j → j < l.k → get_or l.places (j - 1) 0 < get_or l.places j 0
