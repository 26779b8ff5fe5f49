use Rattle.std.proofs.Common.{take}
use Rattle.hk_rows.specs.Lines.{Adds}
use Rattle.hk_rows.proofs.line.add.Given as goal

abbrev pub invariant-loop-byte : goal.invariant-loop-byte
invariant-loop-byte g l = Adds (g.O.Sink.shown l.initial.out) (g.O.Sink.shown l.out) (g.O.Sink.faults l.initial.out) (g.O.Sink.faults l.out) l.initial.held.items l.held.items (take l.byte-index l.bytes)
