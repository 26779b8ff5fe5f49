use Rattle.std.proofs.Common.{◌≡◌, ◌+◌, ℕ, length, sym, subst, arith}
use Rattle.spec_kernel.specs.Seen.{kernel_in}
use Rattle.spec_strays.specs.Callers.{AreCallers}
use Rattle.spec_strays.proofs.Calling.{function_more}
use Rattle.spec_strays.proofs.calls.callers_of.Goals as goal

pub each-preserved : goal.each-preserved
each-preserved c =
    subst (AreCallers (kernel_in c.args.kernel.now) (c.each.place + 1)) (sym c.in_ok-add_function.ensures)
    (function_more (kernel_in c.args.kernel.now) c.each.place c.each.callers c.each.invariant)

pub returns : goal.returns
returns c =
    let end : c.each.place ≡ length (kernel_in c.args.kernel.now).functions = omega (arith, c.each-test.false, c.each.auto.place-end, c.functions-place-end.ensures) in
    subst (λ (n : ℕ). AreCallers (kernel_in c.args.kernel.now) n c.each.callers) end c.each.invariant
