use Rattle.std.proofs.Common.{take}
use Rattle.std.specs.List.{flat_map, enumerate_from}
use Rattle.hk_rows.specs.Lines.{Shows}
use Rattle.hk_verdict.specs.Report.{arg_text}
use Rattle.hk_verdict.proofs.report.put_args.Given as goal

abbrev pub invariant-loop-place : goal.invariant-loop-place
invariant-loop-place g l =
    Shows (g.O.Sink.shown l.initial.out) (g.O.Sink.shown l.out) (g.O.Sink.faults l.initial.out) (g.O.Sink.faults l.out) (flat_map arg_text (take l.place (enumerate_from 0 l.args)))
