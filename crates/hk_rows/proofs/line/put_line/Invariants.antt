use Rattle.std.proofs.Common.{take}
use Rattle.std.specs.List.{flat_map}
use Rattle.hk_rows.specs.Lines.{Adds}
use Rattle.hk_rows.specs.Texts.{part_text}
use Rattle.hk_rows.proofs.line.put_line.Given as goal

abbrev pub invariant-loop-part : goal.invariant-loop-part
invariant-loop-part g l = Adds (g.O.Sink.shown l.initial.out) (g.O.Sink.shown l.out) (g.O.Sink.faults l.initial.out) (g.O.Sink.faults l.out) l.initial.held.items l.held.items (flat_map part_text (take l.part-index l.parts))
