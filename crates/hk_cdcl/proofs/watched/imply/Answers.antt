use Rattle.std.proofs.Common.{◌≡◌, true, false, neg_ℤ, sym, ◌∙◌, ap, subst}
use Rattle.hk_cnf.specs.Literal.{has}
use Rattle.hk_cdcl.specs.Path.{Extends}
use Rattle.hk_cdcl.proofs.Extending.{extends-refl}
use Rattle.hk_cdcl.proofs.Resting.{implied-conflict, implied-step}
use Rattle.hk_cdcl.proofs.watched.imply.Goals as goal

pub returns-then-holds-clause-extends : goal.returns-then-holds-clause-extends
returns-then-holds-clause-extends c = extends-refl c.args.clauses.now.clauses c.args.trail.now

pub returns-then-holds-2-clause-extends : goal.returns-then-holds-2-clause-extends
returns-then-holds-2-clause-extends c = extends-refl c.args.clauses.now.clauses c.args.trail.now

pub returns-then-holds-2-clause-conflict : goal.returns-then-holds-2-clause-conflict
returns-then-holds-2-clause-conflict c = λ _.
    let e : has c.args.trail.now.lits (neg_ℤ c.args.lit) ≡ true = ap (has c.args.trail.now.lits) (sym c.negated.ensures.value) ∙ (sym c.holds-2.ensures ∙ c.if-holds-2.true) in
    implied-conflict c.args.clauses.now.clauses c.args.trail.now.lits c.args.place c.args.lit c.requires.inside c.requires.others e

pub returns-clause-extends : goal.returns-clause-extends
returns-clause-extends c =
    let a : has c.args.trail.now.lits c.args.lit ≡ false = sym c.holds.ensures ∙ c.if-holds.false in
    let b : has c.args.trail.now.lits (neg_ℤ c.args.lit) ≡ false = ap (has c.args.trail.now.lits) (sym c.negated.ensures.value) ∙ (sym c.holds-2.ensures ∙ c.if-holds-2.false) in
    subst (Extends c.args.clauses.now.clauses c.args.trail.now) (sym c.push.ensures)
    (implied-step c.args.clauses.now.clauses c.args.trail.now c.args.place c.args.lit c.requires.inside c.requires.member c.requires.others a b)
