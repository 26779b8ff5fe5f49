use Rattle.std.proofs.Common.{take, length, ◌*◌}
use Rattle.std.specs.List.{flat_map, range_with_len}
use Rattle.std.specs.Int.{div_ceil}
use Rattle.hk_rows.specs.Lines.{Shows}
use Rattle.hk_rows.specs.Rows.{row_text, row_of}
use Rattle.hk_rows.proofs.rows.put_global.Given as goal

abbrev pub invariant-loop-k : goal.invariant-loop-k
invariant-loop-k g l =
    Shows (g.O.Sink.shown l.initial.out) (g.O.Sink.shown l.out) (g.O.Sink.faults l.initial.out) (g.O.Sink.faults l.out)
    (flat_map (λ k. row_text l.name (16 * k) (row_of l.bytes k)) (take l.k (range_with_len 0 (div_ceil (length l.bytes) 16))))
