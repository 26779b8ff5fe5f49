use Rattle.std.proofs.Common.{◌≡◌, ◌+◌, drop}
use Rattle.hk_symexec.specs.Tracks.{heads_in}
use Rattle.hk_symexec.proofs.blocks.heads_in.Given as goal

abbrev pub invariant-loop-step : goal.invariant-loop-step
invariant-loop-step l = (l.index ≡ l.step-index) × (heads_in l.fn.steps ≡ l.step-index + heads_in (drop l.step-index l.steps))
