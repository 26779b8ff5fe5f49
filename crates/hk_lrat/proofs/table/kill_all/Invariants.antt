use Rattle.std.proofs.Common.{◌≡◌, map, take}
use Rattle.hk_lrat.specs.Entries.{dead_in, IsRising}
use Rattle.hk_lrat.proofs.table.kill_all.Given as goal

abbrev pub invariant-loop-id : goal.invariant-loop-id
invariant-loop-id l = (l.table ≡ map (dead_in (take l.id-index l.ids)) l.initial.table) × IsRising l.table
