use Rattle.std.proofs.Common.{◌≡◌, map, take}
use Rattle.hk_lrat.specs.Ranks.{literal_at, renamed_row}
use Rattle.hk_lrat.proofs.rank.ranked_log.Given as goal

abbrev pub invariant-loop-row : goal.invariant-loop-row
invariant-loop-row l = map (renamed_row (literal_at l.places)) l.made ≡ take l.row-index l.log
