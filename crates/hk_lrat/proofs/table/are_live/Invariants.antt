use Rattle.std.proofs.Common.{◌≡◌, true, take}
use Rattle.std.specs.List.{list_all}
use Rattle.hk_lrat.specs.Entries.{is_live_at}
use Rattle.hk_lrat.proofs.table.are_live.Given as goal

abbrev pub invariant-loop-id : goal.invariant-loop-id
invariant-loop-id l = list_all (is_live_at l.table) (take l.id-index l.ids) ≡ true
