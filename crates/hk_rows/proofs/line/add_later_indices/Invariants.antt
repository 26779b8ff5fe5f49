use Rattle.std.proofs.Common.{take}
use Rattle.std.specs.List.{flat_map}
use Rattle.std.specs.Prelude.{codes}
use Rattle.hk_rows.specs.Lines.{Adds}
use Rattle.hk_rows.specs.Texts.{numbered}
use Rattle.hk_rows.proofs.line.add_later_indices.Given as goal

abbrev pub invariant-loop-index : goal.invariant-loop-index
invariant-loop-index g l = Adds (g.O.Sink.shown l.initial.out) (g.O.Sink.shown l.out) (g.O.Sink.faults l.initial.out) (g.O.Sink.faults l.out) l.initial.held.items l.held.items (flat_map (numbered (codes ", ")) (take l.index-index l.indices))
