use Rattle.std.proofs.Common.{take, map}
use Rattle.std.specs.List.{flat_map, enumerate_from}
use Rattle.spec_tree.specs.Sorted.{key_sizes}
use Rattle.spec_tree.specs.Value.{tuple_at}
use Rattle.spec_tree.specs.View.{view_key}
use Rattle.hk_rows.specs.Lines.{Shows}
use Rattle.hk_verdict.specs.Entries.{entry_text}
use Rattle.hk_verdict.proofs.entries.put_field.Given as goal

abbrev pub invariant-loop-k : goal.invariant-loop-k
invariant-loop-k g l =
    Shows (g.O.Sink.shown l.initial.out) (g.O.Sink.shown l.out) (g.O.Sink.faults l.initial.out) (g.O.Sink.faults l.out)
    (flat_map (λ e. entry_text l.mark l.field.name (tuple_at (key_sizes (map view_key l.field.keys)) e.0) e.1) (take l.k (enumerate_from 0 l.entries)))
