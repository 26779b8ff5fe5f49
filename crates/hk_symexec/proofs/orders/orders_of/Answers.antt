use Rattle.std.proofs.Common.{◌≡◌, ◌+◌, length, sym, ap, ◌∙◌, subst, arith}
use Rattle.std.proofs.lemmas.List.{length-map}
use Rattle.ir_ast.specs.ProgramView.{view_function, view_module}
use Rattle.ir_ast.specs.declared.module.Module.{Module}
use Rattle.ir_check.specs.Checked.{IsForward}
use Rattle.hk_symexec.proofs.Starting.{Ordering, ordering_on, ordered}
use Rattle.hk_symexec.proofs.orders.orders_of.Goals as goal

pub loop-place-preserved : goal.loop-place-preserved
loop-place-preserved c =
    subst (Ordering (view_module c.args.checked.now) (c.loop-place.place + 1)) (sym c.in_ok-push.ensures.ok)
    (ordering_on (view_module c.args.checked.now) c.loop-place.place c.loop-place.orders c.in_ok-order.order c.loop-place.invariant
    (λ e h. subst (IsForward e.1) (sym c.in_ok-order.ensures) (c.order.ensures e h)))

pub returns : goal.returns
returns c =
    let viewed : length (view_module c.args.checked.now).functions ≡ length c.args.checked.now.functions = length-map c.args.checked.now.functions (λ entry. (entry.0, view_function entry.1)) in
    let counted : c.len-place-end.result ≡ length c.args.checked.now.functions = c.len-place-end.ensures.count ∙ ap (λ (m : Module). length m.functions) c.module.ensures.kernel in
    let long : length (view_module c.args.checked.now).functions ≡ c.loop-place.place = omega (arith, viewed, counted, c.loop-place-test.false, c.loop-place.auto.place-end) in
    ordered (view_module c.args.checked.now) c.loop-place.place c.loop-place.orders long c.loop-place.invariant
