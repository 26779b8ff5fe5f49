use Rattle.std.proofs.Common.{◌+◌, take}
use Rattle.hk_cdcl.specs.Forgetting.{Learns}
use Rattle.hk_cdcl.specs.Names.{AreNames}
use Rattle.hk_cdcl.proofs.segments.take_over.Given as goal

abbrev pub invariant-loop-i : goal.invariant-loop-i
invariant-loop-i l =
    record {
      learns : Learns l.initial.whole l.whole;
      are_names : AreNames (take (l.first + l.i) l.active.clauses.clauses) l.whole.clauses.clauses l.names.items;
    }
