use Rattle.std.proofs.Common.{sym}
use Rattle.hk_lrat.proofs.Look.{is_live-absent, is_live-found, no_entry}
use Rattle.hk_lrat.proofs.table.is_live.Goals as goal

pub returns-in-Some : goal.returns-in-Some
returns-in-Some c = sym (is_live-found c.args.table.now c.args.id c.in-Some.place no_entry c.requires c.in-Some.ensures.0 (c.in-Some.ensures.1 no_entry))

pub returns-in-None : goal.returns-in-None
returns-in-None c = sym (is_live-absent c.args.table.now c.args.id c.in-None.ensures)
