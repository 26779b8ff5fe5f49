use Rattle.std.proofs.Common.{◌≡◌, ◌+◌, sym, length, Some, List, ℕ, ◌∙◌, ap}
use Rattle.std.proofs.lemmas.Result.{err_from_is_err_and}
use Rattle.ir_ast.specs.Plain.{Ty}
use Rattle.ir_ast.specs.View.{view_type}
use Rattle.ir_ast.specs.declared.types.IrType.{IrType}
use Rattle.ir_part.specs.Reader.{seen}
use Rattle.std.proofs.lemmas.List.{map-append}
use Rattle.std.specs.Prelude.{[], ◌∷◌}
use Rattle.ir_top.specs.Parameters.{some_parameters}
use Rattle.ir_top.specs.TopView.{view_parameters}
use Rattle.ir_top.proofs.ParameterSteps.{list_end, list_next, list_out, comma_fails, item_fails}
use Rattle.ir_top.proofs.parameters.some_parameters.Goals as goal

pub returns-then-begins_mark : goal.returns-then-begins_mark
returns-then-begins_mark c =
    list_end (length c.in_ok-first.rest.now + 1) c.more.counter c.more.next (view_parameters c.more.parameters.items) (seen c.more.rest.now) (some_parameters (seen c.args.tokens.now)) c.more-test.true c.more.invariant (sym c.if-begins_mark.ensures)

pub returns-in_err-after_comma : goal.returns-in_err-after_comma
returns-in_err-after_comma c =
    let p = err_from_is_err_and c.from_residual-in_err-after_comma.result c.from_residual-in_err-after_comma.ensures.1 in
    rw (p.1, p.2)
    (comma_fails (length c.in_ok-first.rest.now + 1) c.more.counter c.more.next (view_parameters c.more.parameters.items) (seen c.more.rest.now) (some_parameters (seen c.args.tokens.now))
    c.in_err-after_comma.field-0.0 c.more-test.true c.more.invariant (sym c.if-begins_mark.ensures) c.in_err-after_comma.ensures)

pub returns-in_err-parameter : goal.returns-in_err-parameter
returns-in_err-parameter c =
    let p = err_from_is_err_and c.from_residual-in_err-parameter.result c.from_residual-in_err-parameter.ensures.1 in
    rw (p.1, p.2)
    (item_fails (length c.in_ok-first.rest.now + 1) c.more.counter c.more.next (view_parameters c.more.parameters.items) (seen c.more.rest.now) (seen c.in_ok-after_comma.after_comma.now) (some_parameters (seen c.args.tokens.now))
    c.in_err-parameter.field-0.0 c.more-test.true c.more.invariant (sym c.if-begins_mark.ensures) c.in_ok-after_comma.ensures c.in_err-parameter.ensures)

pub returns : goal.returns
returns c =
    list_out (length c.in_ok-first.rest.now + 1) c.more.counter c.more.next (view_parameters c.more.parameters.items) (seen c.more.rest.now) (some_parameters (seen c.args.tokens.now)) c.more-test.false c.more.invariant

some_is : {A : Type 0} → {x y : A} → Some x ≡ Some y → x ≡ y
some_is h = cc

pub more-preserved : goal.more-preserved
more-preserved c =
    let old = c.more.parameters.items in
    let x : Ty × List ℕ = (view_type c.in_ok-parameter.parameter.0, c.in_ok-parameter.parameter.1) in
    let added = ap view_parameters c.in_ok-push-2.ensures.items ∙ map-append (λ (p : IrType × List ℕ). (view_type p.0, p.1)) old (c.in_ok-parameter.parameter ∷ []) in
    list_next (length c.in_ok-first.rest.now + 1) c.more.counter c.more.next c.in_ok-next-2.next (view_parameters old) (view_parameters c.push-in-more.new.self.items) (seen c.more.rest.now) (seen c.in_ok-after_comma.after_comma.now)
    (some_parameters (seen c.args.tokens.now)) x (seen c.in_ok-parameter.after.now) c.more-test.true c.more.invariant (sym c.if-begins_mark.ensures) c.in_ok-after_comma.ensures c.in_ok-parameter.ensures added (sym (some_is c.in_ok-next-2.ensures))
