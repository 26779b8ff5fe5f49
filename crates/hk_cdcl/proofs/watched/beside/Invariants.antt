use Rattle.std.proofs.Common.{◌≡◌, take, MatchOption}
use Rattle.std.specs.List.{All}
use Rattle.hk_cdcl.specs.Watching.{IsBeside}
use Rattle.hk_cdcl.proofs.watched.beside.Given as goal

abbrev pub invariant-loop-other : goal.invariant-loop-other
invariant-loop-other l = MatchOption l.found (All (λ x. l.lit ≡ x) (take l.other-index l.clause)) (IsBeside l.clause l.lit)
