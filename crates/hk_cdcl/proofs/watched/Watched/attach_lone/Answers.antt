use Rattle.std.proofs.Common.{◌≡◌, ◌≢◌, ◌+◌, ◌<◌, true, List, length, ℤ, pos, refl, sym, ◌∙◌, ap, subst}
use Rattle.std.specs.List.{All}
use Rattle.hk_cnf.specs.Literal.{IsWithin, code_of, has}
use Rattle.hk_cdcl.specs.Watches.{Plain, watches_of}
use Rattle.hk_cdcl.specs.Watching.{clause_no}
use Rattle.std.proofs.lemmas.List.{length_push}
use Rattle.hk_cdcl.specs.Watches.{Watch}
use Rattle.hk_cdcl.specs.Watching.{IsAttached, IsEnded}
use Rattle.hk_cdcl.proofs.Moving.{member-nonzero, other-within, code-inside}
use Rattle.hk_cdcl.proofs.Attaching.{propagating-lone}
use Rattle.hk_cdcl.proofs.Looks.{named-of}
use Rattle.hk_cdcl.proofs.watched.Watched.attach_lone.Goals as goal

pub imply-requires-clause-within : goal.imply-requires-clause-within
imply-requires-clause-within c =
    other-within c.args.clauses.now.clauses c.args.clauses.now.vars (length c.args.self.now.watches.pairs) c.args.trail.now c.args.first c.requires.vars c.len-within.ensures.within c.requires.more c.requires.first.member

pub watch_both-requires-clause-within : goal.watch_both-requires-clause-within
watch_both-requires-clause-within c =
    subst (λ v. All (IsWithin v) c.clause-clause.result.now) (sym c.vars.ensures.value) c.clause-clause.ensures.within

pub watch_both-requires-clause-first : goal.watch_both-requires-clause-first
watch_both-requires-clause-first c =
    subst (λ v. IsWithin v c.args.first) (sym c.vars.ensures.value) (member-nonzero c.args.clauses.now.vars c.args.clauses.now.clauses (length c.args.self.now.watches.pairs) c.args.first c.len-within.ensures.within c.requires.more c.requires.first.member)

pub watch_both-requires-clause-second : goal.watch_both-requires-clause-second
watch_both-requires-clause-second c =
    let m : has (clause_no c.args.clauses.now.clauses (length c.args.self.now.watches.pairs)) c.second_of-second.result ≡ true = ap (λ (d : List ℤ). has d c.second_of-second.result) (sym (c.clause-clause.ensures.same ∙ ap (clause_no c.args.clauses.now.clauses) c.clauses-place.ensures.pairs)) ∙ c.second_of-second.ensures.member in
    subst (λ v. IsWithin v c.second_of-second.result) (sym c.vars.ensures.value) (member-nonzero c.args.clauses.now.vars c.args.clauses.now.clauses (length c.args.self.now.watches.pairs) c.second_of-second.result c.len-within.ensures.within c.requires.more m)

pub watch_both-requires-clause-first_inside : goal.watch_both-requires-clause-first_inside
watch_both-requires-clause-first_inside c =
    subst (λ (ws : Plain). code_of c.args.first < length ws.lists) (sym c.second_of-second.ensures.watches) (code-inside c.args.trail.now.vars c.args.self.now.watches.lists c.args.first (other-within c.args.clauses.now.clauses c.args.clauses.now.vars (length c.args.self.now.watches.pairs) c.args.trail.now c.args.first c.requires.vars c.len-within.ensures.within c.requires.more c.requires.first.member) c.requires.propagating.sized)

pub watch_both-requires-clause-second_inside : goal.watch_both-requires-clause-second_inside
watch_both-requires-clause-second_inside c =
    let m : has (clause_no c.args.clauses.now.clauses (length c.args.self.now.watches.pairs)) c.second_of-second.result ≡ true = ap (λ (d : List ℤ). has d c.second_of-second.result) (sym (c.clause-clause.ensures.same ∙ ap (clause_no c.args.clauses.now.clauses) c.clauses-place.ensures.pairs)) ∙ c.second_of-second.ensures.member in
    subst (λ (ws : Plain). code_of c.second_of-second.result < length ws.lists) (sym c.second_of-second.ensures.watches) (code-inside c.args.trail.now.vars c.args.self.now.watches.lists c.second_of-second.result (other-within c.args.clauses.now.clauses c.args.clauses.now.vars (length c.args.self.now.watches.pairs) c.args.trail.now c.second_of-second.result c.requires.vars c.len-within.ensures.within c.requires.more m) c.requires.propagating.sized)

pub watch_both-requires-clause-named : goal.watch_both-requires-clause-named
watch_both-requires-clause-named c =
    subst (λ (ws : Plain). (l : ℤ) → l ≢ pos 0 → All (λ (x : Watch). x.clause < length ws.pairs) (watches_of ws.lists l)) (sym c.second_of-second.ensures.watches) (named-of c.args.clauses.now.clauses c.args.self.now c.args.trail.now c.args.head c.requires.propagating)

pub returns-then-watch_both-clause-came : goal.returns-then-watch_both-clause-came
returns-then-watch_both-clause-came c =
    let m : has (clause_no c.args.clauses.now.clauses (length c.args.self.now.watches.pairs)) c.second_of-second.result ≡ true = ap (λ (d : List ℤ). has d c.second_of-second.result) (sym (c.clause-clause.ensures.same ∙ ap (clause_no c.args.clauses.now.clauses) c.clauses-place.ensures.pairs)) ∙ c.second_of-second.ensures.member in
    let at : IsAttached (clause_no c.args.clauses.now.clauses (length c.args.self.now.watches.pairs)) c.second_of-second.new.self.watches c.watch_both.new.self.watches c.args.first c.second_of-second.result = subst (λ (d : List ℤ). IsAttached d c.second_of-second.new.self.watches c.watch_both.new.self.watches c.args.first c.second_of-second.result) (c.clause-clause.ensures.same ∙ ap (clause_no c.args.clauses.now.clauses) c.clauses-place.ensures.pairs) (c.watch_both.ensures.watches c.if-watch_both.true) in
    propagating-lone c.args.clauses.now.clauses c.args.clauses.now.vars c.args.self.now c.second_of-second.new.self c.watch_both.new.self c.args.trail.now c.imply.new.trail c.args.head (length c.args.self.now.watches.pairs) c.args.first c.second_of-second.result refl c.len-within.ensures.within c.requires.vars c.requires.propagating c.requires.more c.imply.ensures.extends (c.imply.ensures.holds c.if-not-imply.false) c.requires.first.member m c.second_of-second.ensures.watches c.second_of-second.ensures.ends
    (λ rising inside. subst (λ (d : List ℤ). IsEnded c.second_of-second.new.self.ends.items c.imply.new.trail.lits d (record { first = c.args.first; second = c.second_of-second.result })) (c.clause-clause.ensures.same ∙ ap (clause_no c.args.clauses.now.clauses) c.clauses-place.ensures.pairs) (c.second_of-second.ensures.ended rising inside))
    at c.watch_both.ensures.ends

pub returns-then-watch_both-clause-next : goal.returns-then-watch_both-clause-next
returns-then-watch_both-clause-next c =
    ap length (c.watch_both.ensures.watches c.if-watch_both.true).pairs ∙ (length_push c.second_of-second.new.self.watches.pairs (record { first = c.args.first; second = c.second_of-second.result }) ∙ ap (λ (ws : Plain). length ws.pairs + 1) c.second_of-second.ensures.watches)
