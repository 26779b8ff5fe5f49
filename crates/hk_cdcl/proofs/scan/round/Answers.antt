use Rattle.std.proofs.Common.{◌<◌, ◌≤◌, length, subst}
use Rattle.hk_cdcl.proofs.Extending.{extends-trans}
use Rattle.hk_cdcl.proofs.Rounds.{round-none, round-more, round-quiet}
use Rattle.hk_cdcl.proofs.scan.round.Goals as goal

pub loop-place-init : goal.loop-place-init
loop-place-init c = round-none c.args.clauses.now.clauses c.args.trail.now

pub returns-then-visit-clause-extends : goal.returns-then-visit-clause-extends
returns-then-visit-clause-extends c = extends-trans c.args.clauses.now.clauses c.args.trail.now c.loop-place.trail c.visit.new.trail c.loop-place.invariant.extends c.visit.ensures.extends

pub loop-place-preserved : goal.loop-place-preserved
loop-place-preserved c =
    let lt : c.loop-place.place < length c.args.clauses.now.clauses = subst (λ n. c.loop-place.place < n) c.len-place-end.ensures.value c.loop-place-test.true in
    round-more c.args.clauses.now.clauses c.args.trail.now c.loop-place.trail c.visit.new.trail c.loop-place.place c.loop-place.invariant lt c.visit.ensures.extends (c.visit.ensures.quiet c.if-visit.false)

pub returns-clause-quiet : goal.returns-clause-quiet
returns-clause-quiet c =
    let le : length c.args.clauses.now.clauses ≤ c.loop-place.place = subst (λ n. n ≤ c.loop-place.place) c.len-place-end.ensures.value c.loop-place-test.false in
    λ same. round-quiet c.args.clauses.now.clauses c.args.trail.now c.loop-place.trail c.loop-place.place c.loop-place.invariant le same
