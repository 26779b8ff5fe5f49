use Rattle.std.proofs.Common.{◌≡◌, ℕ, ◌<◌, ◌≤◌, cond, nat_le, slice_index}
use Rattle.hk_term.proofs.walk.forget.Given as goal

abbrev pub invariant-loop-mark : goal.invariant-loop-mark
invariant-loop-mark l =
    ((k : ℕ) → k < l.mark-index → slice_index l.marks k ≡ cond (nat_le (slice_index l.initial.marks k) l.base) (slice_index l.initial.marks k) 0)
    × ((k : ℕ) → l.mark-index ≤ k → slice_index l.marks k ≡ slice_index l.initial.marks k)
