use Rattle.std.proofs.Common.{take}
use Rattle.std.specs.List.{flat_map}
use Rattle.hk_rows.specs.Lines.{Adds}
use Rattle.hk_rows.specs.Texts.{escaped}
use Rattle.hk_rows.proofs.line.add_all_escaped.Given as goal

abbrev pub invariant-loop-byte : goal.invariant-loop-byte
invariant-loop-byte g l = Adds (g.O.Sink.shown l.initial.out) (g.O.Sink.shown l.out) (g.O.Sink.faults l.initial.out) (g.O.Sink.faults l.out) l.initial.held.items l.held.items (flat_map escaped (take l.byte-index l.name))
