use Rattle.hk_lrat.specs.Ranks.{literal_at}
use Rattle.hk_lrat.proofs.Ranking.{IsRanked}
use Rattle.hk_lrat.proofs.rank.ranked_clause.Given as goal

abbrev pub invariant-loop-lit : goal.invariant-loop-lit
invariant-loop-lit l = IsRanked (literal_at l.places) l.limit l.made.items l.clause l.lit-index
