use Rattle.std.proofs.Common.{List, length, ℤ, refl, sym, ◌∙◌, ap, subst}
use Rattle.std.specs.List.{All}
use Rattle.hk_cnf.specs.Literal.{IsWithin}
use Rattle.hk_cdcl.specs.Watching.{clause_no}
use Rattle.hk_cdcl.specs.Watching.{IsAttached, IsFront, IsEnded}
use Rattle.hk_cdcl.proofs.Moving.{member-nonzero, other-within, code-inside}
use Rattle.hk_cdcl.proofs.Attaching.{attaches-of, propagating-attached, front-whole, open-ended, open-rests}
use Rattle.std.proofs.lemmas.List.{length_push}
use Rattle.hk_cdcl.proofs.Looks.{named-of}
use Rattle.hk_cdcl.proofs.watched.Watched.attach_open.Goals as goal

pub watch_both-requires-clause-within : goal.watch_both-requires-clause-within
watch_both-requires-clause-within c =
    subst (λ v. All (IsWithin v) c.clause-clause.result.now) (sym c.vars.ensures.value) c.clause-clause.ensures.within

pub watch_both-requires-clause-first : goal.watch_both-requires-clause-first
watch_both-requires-clause-first c =
    subst (λ v. IsWithin v c.args.first) (sym c.vars.ensures.value) (member-nonzero c.args.clauses.now.vars c.args.clauses.now.clauses (length c.args.self.now.watches.pairs) c.args.first c.len-within.ensures.within c.requires.more c.requires.first.member)

pub watch_both-requires-clause-second : goal.watch_both-requires-clause-second
watch_both-requires-clause-second c =
    subst (λ v. IsWithin v c.args.second) (sym c.vars.ensures.value) (member-nonzero c.args.clauses.now.vars c.args.clauses.now.clauses (length c.args.self.now.watches.pairs) c.args.second c.len-within.ensures.within c.requires.more c.requires.second.member)

pub watch_both-requires-clause-first_inside : goal.watch_both-requires-clause-first_inside
watch_both-requires-clause-first_inside c =
    code-inside c.args.trail.now.vars c.args.self.now.watches.lists c.args.first (other-within c.args.clauses.now.clauses c.args.clauses.now.vars (length c.args.self.now.watches.pairs) c.args.trail.now c.args.first c.requires.vars c.len-within.ensures.within c.requires.more c.requires.first.member) c.requires.propagating.sized

pub watch_both-requires-clause-second_inside : goal.watch_both-requires-clause-second_inside
watch_both-requires-clause-second_inside c =
    code-inside c.args.trail.now.vars c.args.self.now.watches.lists c.args.second (other-within c.args.clauses.now.clauses c.args.clauses.now.vars (length c.args.self.now.watches.pairs) c.args.trail.now c.args.second c.requires.vars c.len-within.ensures.within c.requires.more c.requires.second.member) c.requires.propagating.sized

pub watch_both-requires-clause-named : goal.watch_both-requires-clause-named
watch_both-requires-clause-named c =
    named-of c.args.clauses.now.clauses c.args.self.now c.args.trail.now c.args.head c.requires.propagating

pub returns-then-watch_both-clause-came : goal.returns-then-watch_both-clause-came
returns-then-watch_both-clause-came c =
    let at : IsAttached (clause_no c.args.clauses.now.clauses (length c.args.self.now.watches.pairs)) c.args.self.now.watches c.watch_both.new.self.watches c.args.first c.args.second = subst (λ (d : List ℤ). IsAttached d c.args.self.now.watches c.watch_both.new.self.watches c.args.first c.args.second) (c.clause-clause.ensures.same ∙ ap (clause_no c.args.clauses.now.clauses) c.clauses-place.ensures.pairs) (c.watch_both.ensures.watches c.if-watch_both.true) in
    propagating-attached c.args.clauses.now.clauses c.args.clauses.now.vars c.args.self.now c.watch_both.new.self c.args.trail.now c.args.head (length c.args.self.now.watches.pairs) c.args.first c.args.second at refl c.len-within.ensures.within c.requires.propagating
    (attaches-of c.args.clauses.now.clauses c.args.clauses.now.vars c.args.self.now c.args.trail.now c.args.head (length c.args.self.now.watches.pairs) c.args.first c.args.second at.binary c.len-within.ensures.within c.requires.vars c.requires.propagating c.requires.more c.requires.first.member c.requires.second.member at.only)
    (subst (λ es. IsFront c.args.self.now.ends.items (es).items) (sym c.watch_both.ensures.ends) (front-whole c.args.self.now.ends.items))
    (subst (λ es. IsEnded (es).items c.args.trail.now.lits (clause_no c.args.clauses.now.clauses (length c.args.self.now.watches.pairs)) (record { first = c.args.first; second = c.args.second })) (sym c.watch_both.ensures.ends) (open-ended c.args.trail.now.lits (clause_no c.args.clauses.now.clauses (length c.args.self.now.watches.pairs)) c.args.self.now.ends.items c.args.first c.args.second c.requires.second.other c.requires.first.left c.requires.second.left c.requires.propagating.watching.watched.inside))
    (open-rests c.args.trail.now.lits (clause_no c.args.clauses.now.clauses (length c.args.self.now.watches.pairs)) c.args.head c.args.first c.args.second c.requires.propagating.inside c.requires.second.other c.requires.first.left c.requires.second.left)

pub returns-then-watch_both-clause-next : goal.returns-then-watch_both-clause-next
returns-then-watch_both-clause-next c =
    ap length (c.watch_both.ensures.watches c.if-watch_both.true).pairs ∙ length_push c.args.self.now.watches.pairs (record { first = c.args.first; second = c.args.second })
