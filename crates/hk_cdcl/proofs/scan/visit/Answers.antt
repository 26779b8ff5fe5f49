use Rattle.std.proofs.Common.{◌≡◌, [], get_or, sym, ◌∙◌, ap, subst}
use Rattle.std.specs.List.{All}
use Rattle.hk_cnf.specs.declared.hint.Hint.TheVariants.{Unit as OneLeft}
use Rattle.hk_cnf.specs.Literal.{IsWithin, has}
use Rattle.hk_cnf.specs.Hint.{hint_of}
use Rattle.hk_cdcl.specs.Path.{Extends}
use Rattle.hk_cdcl.proofs.Extending.{extends-refl, extends-unit, unit-within, unit-single}
use Rattle.hk_cdcl.proofs.scan.visit.Goals as goal

pub push-requires-clause-within : goal.push-requires-clause-within
push-requires-clause-within c =
    unit-within c.args.trail.now.vars c.args.trail.now.lits c.clause-clause.result.now c.in-Unit.lit
    (subst (λ n. All (IsWithin n) c.clause-clause.result.now) (sym c.requires.vars) c.clause-clause.ensures.within) (sym c.in-Unit.ensures)

pub push-requires-clause-not_true : goal.push-requires-clause-not_true
push-requires-clause-not_true c = (unit-single c.args.trail.now.lits c.clause-clause.result.now c.in-Unit.lit (sym c.in-Unit.ensures)).not_true

pub push-requires-clause-not_false : goal.push-requires-clause-not_false
push-requires-clause-not_false c = (unit-single c.args.trail.now.lits c.clause-clause.result.now c.in-Unit.lit (sym c.in-Unit.ensures)).not_false

pub returns-in-False-clause-extends : goal.returns-in-False-clause-extends
returns-in-False-clause-extends c = extends-refl c.args.clauses.now.clauses c.args.trail.now

pub returns-in-Other-clause-extends : goal.returns-in-Other-clause-extends
returns-in-Other-clause-extends c = extends-refl c.args.clauses.now.clauses c.args.trail.now

pub returns-in-Unit-clause-extends : goal.returns-in-Unit-clause-extends
returns-in-Unit-clause-extends c =
    let unit : hint_of (has c.args.trail.now.lits) (get_or c.args.clauses.now.clauses c.args.place []) ≡ OneLeft c.in-Unit.lit = ap (hint_of (has c.args.trail.now.lits)) (sym c.clause-clause.ensures.same) ∙ sym c.in-Unit.ensures in
    subst (Extends c.args.clauses.now.clauses c.args.trail.now) (sym c.push.ensures)
    (extends-unit c.args.clauses.now.clauses c.args.trail.now c.args.place c.in-Unit.lit c.requires.inside unit)
