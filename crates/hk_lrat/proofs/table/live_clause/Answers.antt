use Rattle.std.proofs.Common.{sym, ◌∙◌, ap}
use Rattle.std.proofs.lemmas.Bool.{cond-true, cond-false}
use Rattle.std.specs.Option.{option_copied}
use Rattle.hk_lrat.proofs.Look.{clause_of-absent, clause_of-found, no_entry}
use Rattle.hk_lrat.proofs.table.live_clause.Goals as goal

pub returns-in_err-place : goal.returns-in_err-place
returns-in_err-place c = ap option_copied c.from_residual.ensures ∙ sym (clause_of-absent c.args.lits.now c.args.table.now c.args.id c.in_err-place.ensures)

pub returns-then-entry : goal.returns-then-entry
returns-then-entry c =
    sym (clause_of-found c.args.lits.now c.args.table.now c.args.id c.in_ok-place.place no_entry c.requires.rising c.in_ok-place.ensures.0 (c.in_ok-place.ensures.1 no_entry)
    ∙ cond-true _ _ _ c.if-entry.true)

pub returns-else-entry : goal.returns-else-entry
returns-else-entry c =
    sym (clause_of-found c.args.lits.now c.args.table.now c.args.id c.in_ok-place.place no_entry c.requires.rising c.in_ok-place.ensures.0 (c.in_ok-place.ensures.1 no_entry)
    ∙ cond-false _ _ _ c.if-entry.false)
