use Rattle.hk_cdcl.proofs.Rounds.{Round}
use Rattle.hk_cdcl.proofs.scan.round.Given as goal

abbrev pub invariant-loop-place : goal.invariant-loop-place
invariant-loop-place l =
    Round l.clauses.clauses l.initial.trail l.trail l.place
