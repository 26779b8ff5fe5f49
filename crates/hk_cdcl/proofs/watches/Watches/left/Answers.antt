use Rattle.std.proofs.Common.{◌≡◌, ◌⊎◌, true, neg_ℤ, sym, ◌∙◌, ap, subst, MatchOption}
use Rattle.std.specs.List.{All}
use Rattle.hk_cnf.specs.Literal.{IsWithin, has}
use Rattle.hk_cdcl.specs.Looking.{IsOther}
use Rattle.hk_cdcl.specs.Records.{lit_of, Recorded}
use Rattle.hk_cdcl.proofs.Showing.{long-start, long-text, shown-by}
use Rattle.hk_cdcl.proofs.watches.Watches.left.Goals as goal

pub left-requires-clause-start : goal.left-requires-clause-start
left-requires-clause-start c = long-start c.self.inside c.args.self.now c.args.slot.target c.self.view_is c.requires.long c.requires.inside

pub left-requires-clause-within : goal.left-requires-clause-within
left-requires-clause-within c = subst (All (IsWithin c.args.trail.now.vars)) (sym (long-text c.self.inside c.args.self.now c.args.slot.target c.self.view_is c.requires.long)) c.requires.within

pub returns-clause-same : goal.returns-clause-same
returns-clause-same c = ap (λ (r : Recorded). shown-by r c.self.inside.lists) c.left.ensures.same ∙ c.self.view_is

pub returns-clause-left : goal.returns-clause-left
returns-clause-left c =
    subst (λ t. MatchOption c.left.result (All (λ x. (lit_of c.args.other ≡ x) ⊎ (has c.args.trail.now.lits (neg_ℤ x) ≡ true)) t) (λ next. IsOther c.args.trail.now.lits t (lit_of c.args.other) (lit_of next)))
    (long-text c.self.inside c.args.self.now c.args.slot.target c.self.view_is c.requires.long) c.left.ensures.left
