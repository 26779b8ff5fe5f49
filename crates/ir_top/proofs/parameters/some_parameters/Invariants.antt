use Rattle.std.proofs.Common.{◌≡◌, ◌-◌}
use Rattle.ir_part.specs.Reader.{seen}
use Rattle.ir_part.specs.Many.{with_front}
use Rattle.ir_top.specs.Parameters.{more_from, some_parameters}
use Rattle.ir_top.specs.TopView.{view_parameters}
use Rattle.ir_top.proofs.parameters.some_parameters.Given as goal

-- the parameters so far stand before those of what is left
abbrev pub invariant-more : goal.invariant-more
invariant-more l = with_front (view_parameters l.parameters.items) (more_from (l.most - l.counter) l.next (seen l.rest)) ≡ some_parameters (seen l.tokens)
