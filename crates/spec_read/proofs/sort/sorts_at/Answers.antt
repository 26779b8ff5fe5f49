use Rattle.std.proofs.Common.{[], ◌∷◌, ◌++◌, ◌∙◌, length, sym}
use Rattle.std.specs.Prelude.{codes}
use Rattle.std.proofs.lemmas.Result.{err_from_is_err_and}
use Rattle.spec_expr.specs.Fronts.{seen}
use Rattle.spec_read.specs.ItemReading.{sort_at}
use Rattle.spec_read.specs.Sorts.{listed_sorts}
use Rattle.spec_read.proofs.SortSteps.{sort_added, nothing_more}
use Rattle.spec_expr.proofs.Lists.{list_end, list_next, list_out, comma_fails, item_fails}
use Rattle.spec_read.proofs.sort.sorts_at.Goals as goal

pub returns-in-Some : goal.returns-in-Some
returns-in-Some c =
    list_end (codes ")") sort_at (λ x ys. x ∷ ys) [] (length c.in_ok-first.rest.now) c.more.counter (λ ys. c.more.sorts.items ++ ys) (seen c.more.rest.now)
    (listed_sorts (seen c.args.tokens.now)) (seen c.in-Some.after.now) c.more-test.true c.more.invariant (sym c.in-Some.ensures)
    ∙ nothing_more c.more.sorts.items (seen c.in-Some.after.now)

pub returns-in_err-after_comma : goal.returns-in_err-after_comma
returns-in_err-after_comma c =
    let p = err_from_is_err_and c.from_residual-in_err-after_comma.result c.from_residual-in_err-after_comma.ensures.1 in
    rw (p.1, p.2)
    (comma_fails (codes ")") sort_at (λ x ys. x ∷ ys) [] (length c.in_ok-first.rest.now) c.more.counter (λ ys. c.more.sorts.items ++ ys) (seen c.more.rest.now)
    (listed_sorts (seen c.args.tokens.now)) c.in_err-after_comma.field-0.0 c.more-test.true c.more.invariant (sym c.in_default.ensures) c.in_err-after_comma.ensures)

pub returns-in_err-sort : goal.returns-in_err-sort
returns-in_err-sort c =
    let p = err_from_is_err_and c.from_residual-in_err-sort.result c.from_residual-in_err-sort.ensures.1 in
    rw (p.1, p.2)
    (item_fails (codes ")") sort_at (λ x ys. x ∷ ys) [] (length c.in_ok-first.rest.now) c.more.counter (λ ys. c.more.sorts.items ++ ys) (seen c.more.rest.now)
    (listed_sorts (seen c.args.tokens.now)) (seen c.in_ok-after_comma.after_comma.now) c.in_err-sort.field-0.0 c.more-test.true c.more.invariant (sym c.in_default.ensures)
    c.in_ok-after_comma.ensures c.in_err-sort.ensures)

pub more-preserved : goal.more-preserved
more-preserved c =
    list_next (codes ")") sort_at (λ x ys. x ∷ ys) [] (length c.in_ok-first.rest.now) c.more.counter (λ ys. c.more.sorts.items ++ ys) (λ ys. c.push-in-more.new.self.items ++ ys) (seen c.more.rest.now)
    (listed_sorts (seen c.args.tokens.now)) (seen c.in_ok-after_comma.after_comma.now) c.in_ok-sort.sort (seen c.in_ok-sort.after.now) c.more-test.true c.more.invariant
    (sym c.in_default.ensures) c.in_ok-after_comma.ensures c.in_ok-sort.ensures (λ ys. sort_added c.more.sorts.items c.push-in-more.new.self.items c.in_ok-sort.sort ys c.in_ok-push-2.ensures.items)

pub returns : goal.returns
returns c =
    list_out (codes ")") sort_at (λ x ys. x ∷ ys) [] (length c.in_ok-first.rest.now) c.more.counter (λ ys. c.more.sorts.items ++ ys) (seen c.more.rest.now)
    (listed_sorts (seen c.args.tokens.now)) c.more-test.false c.more.invariant
