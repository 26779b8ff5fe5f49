use Rattle.std.proofs.Common.{◌≡◌, ◌*◌, ◌<◌, ◌≤◌, length, arith}
use Rattle.hk_cnf.specs.Literal.{IsWithin}
use Rattle.hk_cdcl.specs.Records.{lit_of}
use Rattle.hk_cdcl.proofs.Extending.{extends-refl, extends-trans}
use Rattle.hk_cdcl.proofs.Moving.{head-within}
use Rattle.hk_cdcl.proofs.Codes.{code-below}
use Rattle.hk_cdcl.proofs.watched.Watched.visit_all.Goals as goal

pub loop-place-init : goal.loop-place-init
loop-place-init c =
    (extends-refl c.args.clauses.now.clauses c.args.trail.now, c.requires.turning)

pub count-requires : goal.count-requires
count-requires c =
    let w : IsWithin c.args.trail.now.vars (lit_of c.args.code) = head-within c.args.trail.now c.args.head (lit_of c.args.code) c.len-path.ensures.path c.requires.turning.at in
    let b : c.args.code < 2 * c.args.trail.now.vars = code-below c.args.trail.now.vars c.args.code w in
    let s : 2 * c.loop-place.trail.vars ≤ length c.loop-place.self.watches.lists = c.loop-place.invariant.1.propagating.sized in
    let e : c.loop-place.trail.vars ≡ c.args.trail.now.vars = c.loop-place.invariant.0.vars in
    omega (arith, b, s, e)

pub visit-requires-clause-inside : goal.visit-requires-clause-inside
visit-requires-clause-inside c =
    let w : IsWithin c.args.trail.now.vars (lit_of c.args.code) = head-within c.args.trail.now c.args.head (lit_of c.args.code) c.len-path.ensures.path c.requires.turning.at in
    let b : c.args.code < 2 * c.args.trail.now.vars = code-below c.args.trail.now.vars c.args.code w in
    let s : 2 * c.loop-place.trail.vars ≤ length c.loop-place.self.watches.lists = c.loop-place.invariant.1.propagating.sized in
    let e : c.loop-place.trail.vars ≡ c.args.trail.now.vars = c.loop-place.invariant.0.vars in
    omega (arith, b, s, e)

pub loop-place-preserved-in-Stays : goal.loop-place-preserved-in-Stays
loop-place-preserved-in-Stays c =
    (extends-trans c.args.clauses.now.clauses c.args.trail.now c.loop-place.trail c.visit.new.trail c.loop-place.invariant.0 c.visit.ensures.extends, c.in-Stays.ensures.visited)

pub loop-place-preserved : goal.loop-place-preserved
loop-place-preserved c =
    (extends-trans c.args.clauses.now.clauses c.args.trail.now c.loop-place.trail c.visit.new.trail c.loop-place.invariant.0 c.visit.ensures.extends, c.in-Goes.ensures.visited)

pub returns-in-Stops-clause-extends : goal.returns-in-Stops-clause-extends
returns-in-Stops-clause-extends c =
    extends-trans c.args.clauses.now.clauses c.args.trail.now c.loop-place.trail c.visit.new.trail c.loop-place.invariant.0 c.visit.ensures.extends

pub returns-in-Wants-clause-extends : goal.returns-in-Wants-clause-extends
returns-in-Wants-clause-extends c =
    extends-trans c.args.clauses.now.clauses c.args.trail.now c.loop-place.trail c.visit.new.trail c.loop-place.invariant.0 c.visit.ensures.extends
