use Rattle.std.proofs.Common.{◌<◌, ◌^◌, length, ap, sym, subst}
use Rattle.ir_ast.specs.declared.module.Module.{Module}
use Rattle.ir_ast.specs.ProgramView.{view_module}
use Rattle.spec_kernel.specs.View.{global_of, function_of}
use Rattle.spec_kernel.proofs.Made.{kernel_made, kept_made}
use Rattle.spec_kernel.proofs.names.KernelNames.of.Goals as goal

pub invariant_of-result : goal.invariant_of-result
invariant_of-result c =
    let kernel = c.module-kernel.result.now in
    let m = view_module kernel in
    let g = c.in_ok-globals.ensures in
    let few : length kernel.globals < 2 ^ 32 = subst (λ (k : Module). length k.globals < 2 ^ 32) (sym c.module-kernel.ensures.kernel) c.module-kernel.ensures.small.globals in
    let fewer : length kernel.functions < 2 ^ 32 = subst (λ (k : Module). length k.functions < 2 ^ 32) (sym c.module-kernel.ensures.kernel) c.module-kernel.ensures.small.functions in
    kept_made c.global_rows.new.shapes c.in_ok-globals.globals.items c.as_slice.result.now c.in_ok-functions.functions.items c.as_slice-2.result.now
    c.in_ok-global_places.global_places c.in_ok-function_places.function_places
    (global_of m.types) _ kernel.globals (function_of m.types) _ kernel.functions g.shaped.sound g.known g.rows few c.in_ok-functions.ensures.rows fewer
    c.as_slice.ensures.value c.as_slice-2.ensures.value c.in_ok-global_places.ensures c.in_ok-function_places.ensures

pub returns : goal.returns
returns c =
    kernel_made c.global_rows.new.shapes c.in_ok-globals.globals.items c.in_ok-functions.functions.items (view_module c.module-kernel.result.now) (view_module c.args.checked.now)
    c.in_ok-globals.ensures.rows c.in_ok-functions.ensures.rows (ap view_module c.module-kernel.ensures.kernel)
