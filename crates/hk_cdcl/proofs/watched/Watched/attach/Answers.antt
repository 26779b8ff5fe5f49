use Rattle.std.proofs.Common.{◌≡◌, ◌<◌, true, neg_ℤ, length, sym, subst}
use Rattle.std.specs.List.{All}
use Rattle.hk_cnf.specs.Literal.{has}
use Rattle.hk_cdcl.proofs.Extending.{extends-refl}
use Rattle.hk_cdcl.proofs.Attaching.{next-false}
use Rattle.hk_cdcl.proofs.watched.Watched.attach.Goals as goal

pub returns-in_default-clause-extends : goal.returns-in_default-clause-extends
returns-in_default-clause-extends c = extends-refl c.args.clauses.now.clauses c.args.trail.now

pub returns-in-Some-other_left-clause-extends : goal.returns-in-Some-other_left-clause-extends
returns-in-Some-other_left-clause-extends c = extends-refl c.args.clauses.now.clauses c.args.trail.now

pub returns-in_default-clause-came : goal.returns-in_default-clause-came
returns-in_default-clause-came c =
    let k : c.clauses-place.result ≡ length c.args.self.now.watches.pairs = c.clauses-place.ensures.pairs in (
      c.requires.propagating.watching,
      next-false c.args.clauses.now.clauses c.args.trail.now.lits c.clauses-place.result (subst (λ i. i < length c.args.clauses.now.clauses) (sym k) c.requires.more)
          (subst (All (λ x. has c.args.trail.now.lits (neg_ℤ x) ≡ true)) c.clause-clause.ensures.same c.in_default.ensures),
    )
