use Rattle.std.proofs.Common.{◌+◌, ◌<◌, List, ℕ, length, sym, subst}
use Rattle.std.specs.List.{All}
use Rattle.hk_cdcl.specs.Analysis.{IsTracked, is_redundant}
use Rattle.hk_cdcl.specs.Learning.{IsDerivable}
use Rattle.hk_cdcl.proofs.Asserting.{learned}
use Rattle.hk_cdcl.proofs.Collecting.{derivable-learned, dropped-inside}
use Rattle.hk_cdcl.proofs.learn.learn.Goals as goal

pub collect-requires-clause-lower : goal.collect-requires-clause-lower
collect-requires-clause-lower c = subst (λ (ns : List ℕ). IsTracked c.args.trail.now.lits c.args.below c.analyze.new.seen ns) (sym c.as_slice.ensures.value) c.in_ok-uip.ensures.lower

pub hints_of-requires-clause-low : goal.hints_of-requires-clause-low
hints_of-requires-clause-low c =
    subst (λ (ns : List ℕ). All (λ n. n < length c.args.trail.now.lits) ns) (sym c.as_slice-2.ensures.value)
    (dropped-inside c.args.trail.now.lits c.analyze.new.seen (is_redundant c.args.clauses.now.clauses c.args.trail.now c.analyze.new.seen) c.args.below c.in_ok-uip.uip c.in_ok-clause.field-0.clause.items c.in_ok-clause.field-0.dropped.items c.sort_places.new.places.items c.in_ok-clause.field-0.rest c.in_ok-uip.ensures.uip c.in_ok-clause.ensures c.sort_places.ensures.same)

pub returns-clause-learned : goal.returns-clause-learned
returns-clause-learned c =
    let low = c.in_ok-uip.ensures.uip in
    let k : IsDerivable c.args.clauses.now.clauses c.args.trail.now c.analyze.new.seen c.as_slice-2.result.now (c.in_ok-uip.uip + 1) c.in_ok-clause.field-0.clause.items c.args.conflict =
    subst (λ (ns : List ℕ). IsDerivable c.args.clauses.now.clauses c.args.trail.now c.analyze.new.seen ns (c.in_ok-uip.uip + 1) c.in_ok-clause.field-0.clause.items c.args.conflict) (sym c.as_slice-2.ensures.value)
    (derivable-learned c.args.clauses.now.clauses c.args.trail.now c.analyze.new.seen c.args.below c.in_ok-uip.uip c.args.conflict c.in_ok-clause.field-0.clause.items c.in_ok-clause.field-0.dropped.items c.sort_places.new.places.items c.in_ok-clause.field-0.rest
    c.len-path.ensures.path.apart low c.requires.conflict c.requires.named c.in_ok-uip.ensures.traced c.in_ok-clause.ensures c.sort_places.ensures.same) in
    learned c.args.clauses.now.clauses c.args.trail.now c.analyze.new.seen (is_redundant c.args.clauses.now.clauses c.args.trail.now c.analyze.new.seen) c.args.below c.in_ok-uip.uip c.in_ok-clause.field-0.rest c.in_ok-clause.field-0.clause.items c.in_ok-clause.field-0.dropped.items c.in_ok-hints.hints
    c.len-path.ensures.path low c.in_ok-clause.ensures (c.in_ok-hints.ensures.derives c.args.clauses.now.clauses c.in_ok-clause.field-0.clause.items k) (c.in_ok-hints.ensures.hinted c.args.clauses.now.clauses c.in_ok-clause.field-0.clause.items k)
