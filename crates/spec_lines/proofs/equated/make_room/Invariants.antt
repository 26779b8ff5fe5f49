use Rattle.std.proofs.Common.{◌≡◌, ℕ, ◌+◌, ◌-◌, length}
use Rattle.std.specs.Prelude.{slice_index_or}
use Rattle.spec_lines.specs.declared.equated.Times.TheVariants.{Never}
use Rattle.spec_lines.proofs.equated.make_room.Given as goal

abbrev pub invariant-more : goal.invariant-more
invariant-more l = (p : ℕ) → slice_index_or l.times.items p Never ≡ slice_index_or l.initial.times.items p Never

abbrev pub decreases-more : goal.decreases-more
decreases-more l = l.place + 1 - length l.times.items
