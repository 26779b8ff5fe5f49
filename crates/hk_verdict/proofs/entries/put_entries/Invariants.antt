use Rattle.std.proofs.Common.{take, length, map}
use Rattle.std.specs.List.{flat_map, zip}
use Rattle.spec_tree.specs.View.{view_field}
use Rattle.hk_rows.specs.Lines.{Shows}
use Rattle.hk_verdict.specs.Entries.{field_text}
use Rattle.hk_verdict.proofs.entries.put_entries.Given as goal

abbrev pub invariant-loop-field : goal.invariant-loop-field
invariant-loop-field g l =
    Shows (g.O.Sink.shown l.initial.out) (g.O.Sink.shown l.out) (g.O.Sink.faults l.initial.out) (g.O.Sink.faults l.out)
    (flat_map (λ e. field_text l.mark e.0 e.1) (take (length l.yielded) (zip (map view_field l.spec.fields) l.state)))
