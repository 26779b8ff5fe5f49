use Rattle.hk_lrat.specs.Ranks.{literal_at}
use Rattle.hk_lrat.proofs.Ranking.{AreRanked}
use Rattle.hk_lrat.proofs.rank.ranked_list.Given as goal

abbrev pub invariant-loop-i : goal.invariant-loop-i
invariant-loop-i l = AreRanked (literal_at l.places) l.count l.made l.list.clauses l.i
