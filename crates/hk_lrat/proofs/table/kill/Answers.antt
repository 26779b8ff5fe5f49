use Rattle.std.proofs.Common.{sym}
use Rattle.hk_lrat.proofs.Look.{dead-absent, dead-found, no_entry}
use Rattle.hk_lrat.proofs.table.kill.Goals as goal

pub returns-in-Some : goal.returns-in-Some
returns-in-Some c = dead-found c.args.table.now c.args.id c.in-Some.place no_entry c.requires c.in-Some.ensures.0 (c.in-Some.ensures.1 no_entry)

pub returns-in_default : goal.returns-in_default
returns-in_default c = sym (dead-absent c.args.table.now c.args.id c.in_default.ensures)
