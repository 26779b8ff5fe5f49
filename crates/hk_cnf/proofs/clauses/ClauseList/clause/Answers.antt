use Rattle.std.proofs.Common.{◌≡◌, ◌∷◌, [], length, get_or, ap, sym, ◌∙◌, subst, arith}
use Rattle.std.specs.List.{All}
use Rattle.hk_cnf.specs.Literal.{IsWithin}
use Rattle.hk_cnf.specs.Layout.{part_of}
use Rattle.hk_cnf.proofs.Parts.{StandsAt, stands_at, clause-within}
use Rattle.hk_cnf.proofs.clauses.ClauseList.clause.Goals as goal
use Rattle.hk_cnf.proofs.clauses.ClauseList.clause.Goals.{After-part}

pub start_of-start-requires : goal.start_of-start-requires
start_of-start-requires c =
    let at : StandsAt c.self.inside c.args.self.now c.args.i = stands_at c.self.inside c.args.self.now c.args.i c.self.view_is c.self.invariant c.requires in
    omega (arith, at.few, ap length c.as_slice-ends.ensures.value)

pub end_of-end-requires : goal.end_of-end-requires
end_of-end-requires c =
    let at : StandsAt c.self.inside c.args.self.now c.args.i = stands_at c.self.inside c.args.self.now c.args.i c.self.view_is c.self.invariant c.requires in
    omega (arith, at.few, ap length c.as_slice-ends.ensures.value)

pub part-requires-clause-rising : goal.part-requires-clause-rising
part-requires-clause-rising c =
    let at : StandsAt c.self.inside c.args.self.now c.args.i = stands_at c.self.inside c.args.self.now c.args.i c.self.view_is c.self.invariant c.requires in
    omega (arith, at.rising, c.start_of-start.ensures, c.end_of-end.ensures, ap (λ es. get_or (0 ∷ es) c.args.i 0) c.as_slice-ends.ensures.value, ap (λ es. get_or es c.args.i 0) c.as_slice-ends.ensures.value)

pub part-requires-clause-inside : goal.part-requires-clause-inside
part-requires-clause-inside c =
    let at : StandsAt c.self.inside c.args.self.now c.args.i = stands_at c.self.inside c.args.self.now c.args.i c.self.view_is c.self.invariant c.requires in
    omega (arith, at.inside, c.end_of-end.ensures, ap (λ es. get_or es c.args.i 0) c.as_slice-ends.ensures.value, ap length c.as_slice.ensures.value)

same : (c : After-part) → c.part.result.now ≡ get_or c.args.self.now.clauses c.args.i []
same c =
    let start : c.start_of-start.result ≡ get_or (0 ∷ c.self.inside.ends.items) c.args.i 0 = c.start_of-start.ensures ∙ ap (λ es. get_or (0 ∷ es) c.args.i 0) c.as_slice-ends.ensures.value in
    let end : c.end_of-end.result ≡ get_or c.self.inside.ends.items c.args.i 0 = c.end_of-end.ensures ∙ ap (λ es. get_or es c.args.i 0) c.as_slice-ends.ensures.value in
    c.part.ensures
    ∙ ((λ i. part_of (c.as_slice.ensures.value i) (record { start = start i; end = end i }))
    ∙ (stands_at c.self.inside c.args.self.now c.args.i c.self.view_is c.self.invariant c.requires).same)

pub returns-clause-same : goal.returns-clause-same
returns-clause-same c = same c

pub returns-clause-within : goal.returns-clause-within
returns-clause-within c = subst (All (IsWithin c.args.self.now.vars)) (sym (same c)) (clause-within c.self.inside c.args.self.now c.args.i c.self.view_is c.self.invariant c.requires)
