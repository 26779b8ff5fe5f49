use Rattle.std.proofs.Common.{◌<◌, ◌≤◌, ◌+◌, length, sym, subst, arith}
use Rattle.std.proofs.lemmas.List.Elements.{All-push}
use Rattle.std.specs.List.{All}
use Rattle.hk_cdcl.specs.Analysis.{Derives}
use Rattle.hk_cdcl.proofs.Collecting.{leads-step}
use Rattle.hk_cdcl.proofs.Leading.{leads-conflict}
use Rattle.hk_cdcl.proofs.learn.hints_of.Goals as goal

pub loop-place-init : goal.loop-place-init
loop-place-init c = λ clauses d k. c.in_ok-hints.ensures clauses c.args.seen.now c.args.from d c.args.conflict c.requires.inside k

pub loop-place-preserved : goal.loop-place-preserved
loop-place-preserved c =
    let lt : c.loop-place.place < length c.args.trail.now.lits = subst (λ n. c.loop-place.place < n) c.len-place-end.ensures.value c.loop-place-test.true in
    λ clauses d k. leads-step clauses d c.args.trail.now c.args.seen.now c.args.dropped.now c.args.from c.args.conflict c.loop-place.place c.loop-place.hints c.add_hint.new.hints (omega arith) lt k c.in_ok-add_hint.ensures (c.loop-place.invariant clauses d k)

pub returns-clause-derives : goal.returns-clause-derives
returns-clause-derives c =
    let le : length c.args.trail.now.lits ≤ c.loop-place.place = subst (λ n. n ≤ c.loop-place.place) c.len-place-end.ensures.value c.loop-place-test.false in
    λ clauses d k. subst (Derives clauses d) (sym c.in_ok-push.ensures.ok)
    (leads-conflict clauses d c.args.seen.now c.args.trail.now.lits c.loop-place.place c.args.conflict c.loop-place.hints le k.found k.conflict_seen (c.loop-place.invariant clauses d k).to)

pub returns-clause-hinted : goal.returns-clause-hinted
returns-clause-hinted c =
    λ clauses d k. subst (All (λ h. h ≤ length clauses)) (sym c.in_ok-push.ensures.ok)
    (All-push (λ h. h ≤ length clauses) c.loop-place.hints (c.args.conflict + 1) (c.loop-place.invariant clauses d k).named (let b : c.args.conflict < length clauses = k.found.inside in omega (arith, b)))
