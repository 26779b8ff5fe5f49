use Rattle.std.proofs.Common.{[], ◌∷◌, ◌++◌, length, sym}
use Rattle.std.proofs.lemmas.Result.{err_from_is_err_and}
use Rattle.spec_expr.specs.Fronts.{seen}
use Rattle.spec_expr.specs.Many.{listed_names}
use Rattle.spec_expr.specs.Reading.{name_at}
use Rattle.spec_expr.proofs.Lists.{names_end, list_next, list_out, comma_fails, item_fails, name_added}
use Rattle.spec_expr.proofs.front.names_at.Goals as goal

pub returns-in-Some : goal.returns-in-Some
returns-in-Some c =
    names_end c.args.close.now name_at (length c.in_ok-first.rest.now) c.more.counter c.more.names (seen c.more.rest.now)
    (listed_names c.args.close.now (seen c.args.tokens.now)) (seen c.in-Some.after.now) c.more-test.true c.more.invariant (sym c.in-Some.ensures)

pub returns-in_err-after_comma : goal.returns-in_err-after_comma
returns-in_err-after_comma c =
    let p = err_from_is_err_and c.from_residual-in_err-after_comma.result c.from_residual-in_err-after_comma.ensures.1 in
    rw (p.1, p.2)
    (comma_fails c.args.close.now name_at (λ x ys. x ∷ ys) [] (length c.in_ok-first.rest.now) c.more.counter (λ ys. c.more.names ++ ys) (seen c.more.rest.now)
    (listed_names c.args.close.now (seen c.args.tokens.now)) c.in_err-after_comma.field-0.0 c.more-test.true c.more.invariant (sym c.in_default.ensures) c.in_err-after_comma.ensures)

pub returns-in_err-name : goal.returns-in_err-name
returns-in_err-name c =
    let p = err_from_is_err_and c.from_residual-in_err-name.result c.from_residual-in_err-name.ensures.1 in
    rw (p.1, p.2)
    (item_fails c.args.close.now name_at (λ x ys. x ∷ ys) [] (length c.in_ok-first.rest.now) c.more.counter (λ ys. c.more.names ++ ys) (seen c.more.rest.now)
    (listed_names c.args.close.now (seen c.args.tokens.now)) (seen c.in_ok-after_comma.after_comma.now) c.in_err-name.field-0.0 c.more-test.true c.more.invariant (sym c.in_default.ensures)
    c.in_ok-after_comma.ensures c.in_err-name.ensures)

pub more-preserved : goal.more-preserved
more-preserved c =
    list_next c.args.close.now name_at (λ x ys. x ∷ ys) [] (length c.in_ok-first.rest.now) c.more.counter (λ ys. c.more.names ++ ys) (λ ys. c.push-in-more.new.self ++ ys) (seen c.more.rest.now)
    (listed_names c.args.close.now (seen c.args.tokens.now)) (seen c.in_ok-after_comma.after_comma.now) c.in_ok-name.name (seen c.in_ok-name.after.now) c.more-test.true c.more.invariant
    (sym c.in_default.ensures) c.in_ok-after_comma.ensures c.in_ok-name.ensures (λ ys. name_added c.more.names c.push-in-more.new.self c.in_ok-name.name ys c.in_ok-push-2.ensures)

pub returns : goal.returns
returns c =
    list_out c.args.close.now name_at (λ x ys. x ∷ ys) [] (length c.in_ok-first.rest.now) c.more.counter (λ ys. c.more.names ++ ys) (seen c.more.rest.now)
    (listed_names c.args.close.now (seen c.args.tokens.now)) c.more-test.false c.more.invariant
