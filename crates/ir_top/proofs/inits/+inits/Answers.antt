use Rattle.std.proofs.Common.{◌+◌, sym, length, Some, List}
use Rattle.ir_ast.specs.Plain.{Ty, Ini}
use Rattle.ir_lex.specs.Tok.{Tok}
use Rattle.std.proofs.lemmas.Result.{err_from_is_err_and}
use Rattle.ir_ast.specs.View.{view_type, view_init}
use Rattle.ir_ast.specs.declared.types.IrType.{IrType}
use Rattle.ir_ast.specs.declared.global.Init.{Init}
use Rattle.ir_part.specs.Reader.{seen}
use Rattle.ir_part.specs.Many.{some, is_closed, behind_comma}
use Rattle.ir_part.proofs.ManySteps.{list_end, list_next, list_out, list_fails, comma_fails, item_fails, behind_is}
use Rattle.ir_top.specs.Inits.{init_within, pair_at}
use Rattle.ir_top.proofs.inits.+inits.Goals as goal

pub some_parts-returns-then-begins_mark : goal.some_parts-returns-then-begins_mark
some_parts-returns-then-begins_mark t c =
    let item = pair_at (init_within c.args.nested) in
    list_end (λ (p : IrType × Init). (view_type p.0, view_init p.1)) (is_closed c.args.close) (behind_comma item) (length c.in_ok-first.rest.now + 1) c.more.counter c.more.parts.items (seen c.more.rest.now)
    (some (is_closed c.args.close) item (behind_comma item) (seen c.args.tokens.now)) c.more-test.true c.more.invariant (sym c.if-begins_mark.ensures)

pub some_parts-returns-in_err-after_comma : goal.some_parts-returns-in_err-after_comma
some_parts-returns-in_err-after_comma t c =
    let item = pair_at (init_within c.args.nested) in
    let p = err_from_is_err_and c.from_residual-in_err-after_comma.result c.from_residual-in_err-after_comma.ensures.1 in
    rw (p.1, p.2)
    (list_fails (λ (p : IrType × Init). (view_type p.0, view_init p.1)) (is_closed c.args.close) (behind_comma item) (length c.in_ok-first.rest.now + 1) c.more.counter c.more.parts.items (seen c.more.rest.now)
    (some (is_closed c.args.close) item (behind_comma item) (seen c.args.tokens.now)) c.in_err-after_comma.field-0.0 c.more-test.true c.more.invariant (sym c.if-begins_mark.ensures)
    (comma_fails item (seen c.more.rest.now) c.in_err-after_comma.field-0.0 c.in_err-after_comma.ensures))

pub some_parts-returns-in_err-part : goal.some_parts-returns-in_err-part
some_parts-returns-in_err-part t c =
    let item = pair_at (init_within c.args.nested) in
    let p = err_from_is_err_and c.from_residual-in_err-part.result c.from_residual-in_err-part.ensures.1 in
    rw (p.1, p.2)
    (list_fails (λ (p : IrType × Init). (view_type p.0, view_init p.1)) (is_closed c.args.close) (behind_comma item) (length c.in_ok-first.rest.now + 1) c.more.counter c.more.parts.items (seen c.more.rest.now)
    (some (is_closed c.args.close) item (behind_comma item) (seen c.args.tokens.now)) c.in_err-part.field-0.0 c.more-test.true c.more.invariant (sym c.if-begins_mark.ensures)
    (item_fails item (seen c.more.rest.now) (seen c.in_ok-after_comma.after_comma.now) c.in_err-part.field-0.0 c.in_ok-after_comma.ensures c.in_err-part.ensures))

pub some_parts-more-preserved : goal.some_parts-more-preserved
some_parts-more-preserved t c =
    let item = pair_at (init_within c.args.nested) in
    let read : (Ty × Ini) × List Tok = ((view_type c.in_ok-part.part.0, view_init c.in_ok-part.part.1), seen c.in_ok-part.after.now) in
    list_next (λ (p : IrType × Init). (view_type p.0, view_init p.1)) (is_closed c.args.close) (behind_comma item) (length c.in_ok-first.rest.now + 1) c.more.counter c.more.parts.items c.push-in-more.new.self.items (seen c.more.rest.now)
    (some (is_closed c.args.close) item (behind_comma item) (seen c.args.tokens.now)) c.in_ok-part.part (seen c.in_ok-part.after.now)
    c.more-test.true c.in_ok-push-2.ensures.items c.more.invariant (sym c.if-begins_mark.ensures)
    (behind_is item (seen c.more.rest.now) (seen c.in_ok-after_comma.after_comma.now) (Some read) c.in_ok-after_comma.ensures c.in_ok-part.ensures)

pub some_parts-returns : goal.some_parts-returns
some_parts-returns t c =
    let item = pair_at (init_within c.args.nested) in
    list_out (λ (p : IrType × Init). (view_type p.0, view_init p.1)) (is_closed c.args.close) (behind_comma item) (length c.in_ok-first.rest.now + 1) c.more.counter c.more.parts.items (seen c.more.rest.now)
    (some (is_closed c.args.close) item (behind_comma item) (seen c.args.tokens.now)) c.more-test.false c.more.invariant
