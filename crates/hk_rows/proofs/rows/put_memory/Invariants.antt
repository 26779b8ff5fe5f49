use Rattle.std.proofs.Common.{take}
use Rattle.std.specs.List.{flat_map, enumerate_from}
use Rattle.ir_ast.specs.ProgramView.{view_entries, view_global}
use Rattle.ir_layout.specs.Bytes.{object_of}
use Rattle.hk_rows.specs.Lines.{Shows}
use Rattle.hk_rows.specs.Rows.{object_text}
use Rattle.hk_rows.proofs.rows.put_memory.Given as goal

abbrev pub invariant-loop-place : goal.invariant-loop-place
invariant-loop-place g l =
    Shows (g.O.Sink.shown l.initial.out) (g.O.Sink.shown l.out) (g.O.Sink.faults l.initial.out) (g.O.Sink.faults l.out)
    (flat_map (λ e. object_text e.1.1 (object_of l.memory e.0)) (take l.place (enumerate_from 0 (view_entries view_global l.globals))))
