use Rattle.std.proofs.Common.{◌∙◌}
use Rattle.hk_lrat.specs.Entries.{live_of}
use Rattle.hk_lrat.specs.Log.{State}
use Rattle.hk_lrat.specs.Marks.{marked}
use Rattle.hk_lrat.proofs.Denied.{add_fault-hints, live_of-over}
use Rattle.hk_lrat.proofs.hints.add_reason.Goals as goal

pub returns-clause-reason : goal.returns-clause-reason
returns-clause-reason c =
    let s : State = record { vars = c.args.clauses.now.vars; last = c.args.clauses.now.last; live = live_of c.args.clauses.now.lits.now c.args.clauses.now.table.now } in
    c.hints_reason.ensures.reason
    ∙ add_fault-hints s c.args.addition.now.id c.args.addition.now.clause.now c.args.addition.now.hints.now (marked c.deny.new.marks c.next_row.result) c.if-not-deny.ensures.answer c.if-addition-clauses.false
    (live_of-over c.args.clauses.now.vars c.args.clauses.now.lits.now c.args.clauses.now.table.now c.requires.lits) c.if-not-deny.ensures.denied
