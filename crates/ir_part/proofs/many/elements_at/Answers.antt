use Rattle.std.proofs.Common.{◌+◌, ◌∙◌, sym, length}
use Rattle.std.proofs.lemmas.Result.{err_from_is_err_and}
use Rattle.ir_part.specs.Reader.{seen}
use Rattle.ir_part.specs.Many.{some}
use Rattle.ir_part.proofs.ManySteps.{list_end, list_next, list_out, list_fails}
use Rattle.ir_part.proofs.many.elements_at.Goals as goal

pub returns-then-is_end : goal.returns-then-is_end
returns-then-is_end g c =
    let e = g.E.Element in
    list_end e.view (e.stops c.args.element.now) (e.reads c.args.element.now) (length c.in_ok-first.rest.now + 1) c.more.counter c.more.elements.items (seen c.more.rest.now)
    (some (e.stops c.args.element.now) (e.first_reads c.args.element.now) (e.reads c.args.element.now) (seen c.args.tokens.now)) c.more-test.true c.more.invariant (sym c.is_end.ensures ∙ c.if-is_end.true)

pub returns-in_err-next : goal.returns-in_err-next
returns-in_err-next g c =
    let e = g.E.Element in
    let p = err_from_is_err_and c.from_residual-in_err-next.result c.from_residual-in_err-next.ensures.1 in
    rw (p.1, p.2)
    (list_fails e.view (e.stops c.args.element.now) (e.reads c.args.element.now) (length c.in_ok-first.rest.now + 1) c.more.counter c.more.elements.items (seen c.more.rest.now)
    (some (e.stops c.args.element.now) (e.first_reads c.args.element.now) (e.reads c.args.element.now) (seen c.args.tokens.now)) c.in_err-next.field-0.0 c.more-test.true c.more.invariant (sym c.is_end.ensures ∙ c.if-is_end.false) c.in_err-next.ensures)

pub more-preserved : goal.more-preserved
more-preserved g c =
    let e = g.E.Element in
    list_next e.view (e.stops c.args.element.now) (e.reads c.args.element.now) (length c.in_ok-first.rest.now + 1) c.more.counter c.more.elements.items c.push-in-more.new.self.items (seen c.more.rest.now)
    (some (e.stops c.args.element.now) (e.first_reads c.args.element.now) (e.reads c.args.element.now) (seen c.args.tokens.now)) c.in_ok-next.next (seen c.in_ok-next.after.now)
    c.more-test.true c.in_ok-push-2.ensures.items c.more.invariant (sym c.is_end.ensures ∙ c.if-is_end.false) c.in_ok-next.ensures

pub returns : goal.returns
returns g c =
    let e = g.E.Element in
    list_out e.view (e.stops c.args.element.now) (e.reads c.args.element.now) (length c.in_ok-first.rest.now + 1) c.more.counter c.more.elements.items (seen c.more.rest.now)
    (some (e.stops c.args.element.now) (e.first_reads c.args.element.now) (e.reads c.args.element.now) (seen c.args.tokens.now)) c.more-test.false c.more.invariant
