use Rattle.std.proofs.Common.{◌≤◌, set, sym, ◌∙◌, arith}
use Rattle.std.proofs.lemmas.List.Elements.{All-set, All-same}
use Rattle.hk_cnf.specs.Literal.{code_of}
use Rattle.hk_lrat.specs.Marks.{marked}
use Rattle.hk_lrat.specs.Entries.{live_of}
use Rattle.hk_lrat.proofs.Denied.{clause_of-within, live_of-over, unit-within, code-inside, follow-unit}
use Rattle.hk_lrat.proofs.hints.hints_reason.Goals as goal

pub hint_at-requires-clause-within : goal.hint_at-requires-clause-within
hint_at-requires-clause-within c =
    clause_of-within c.args.vars (live_of c.args.lits.now c.args.table.now) _ c.in-Some.clause.now (live_of-over c.args.vars c.args.lits.now c.args.table.now c.requires.lits) (sym c.in-Some.ensures)

pub mark-requires : goal.mark-requires
mark-requires c =
    code-inside c.args.vars c.loop-hint.marks c.in-Unit.lit (c.loop-hint.auto.marks ∙ c.requires.two_each)
    (unit-within c.args.vars (marked c.loop-hint.marks c.args.row) c.in-Some.clause.now c.in-Unit.lit
    (clause_of-within c.args.vars (live_of c.args.lits.now c.args.table.now) _ c.in-Some.clause.now (live_of-over c.args.vars c.args.lits.now c.args.table.now c.requires.lits) (sym c.in-Some.ensures))
    (sym c.in-Unit.ensures))

pub loop-hint-preserved : goal.loop-hint-preserved
loop-hint-preserved c = (
  c.loop-hint.invariant.0
      ∙ follow-unit c.args.vars (live_of c.args.lits.now c.args.table.now) c.loop-hint.marks c.mark.new.marks c.args.row c.args.hints.now c.loop-hint.hint-index c.in-Some.clause.now c.in-Unit.lit
      (live_of-over c.args.vars c.args.lits.now c.args.table.now c.requires.lits) (c.loop-hint.auto.marks ∙ c.requires.two_each) c.loop-hint-test.true (sym c.in-Some.ensures) (sym c.in-Unit.ensures) c.mark.ensures,
  All-same (λ m. m ≤ c.args.row) c.mark.new.marks (set c.loop-hint.marks (code_of c.in-Unit.lit) c.args.row) c.mark.ensures
      (All-set (λ m. m ≤ c.args.row) c.loop-hint.marks (code_of c.in-Unit.lit) c.args.row (omega arith) c.loop-hint.invariant.1),
)
