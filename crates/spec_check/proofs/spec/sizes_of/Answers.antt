use Rattle.std.proofs.Common.{Some, map, ap, sym, ◌∙◌}
use Rattle.spec_kernel.specs.Seen.{kernel_in}
use Rattle.spec_check.proofs.Sizing.{sizes_more}
use Rattle.spec_check.proofs.spec.sizes_of.Goals as goal

pub each-preserved : goal.each-preserved
each-preserved c =
    let globals = (kernel_in c.args.kernel.now).globals in
    sizes_more globals c.each.place c.in_ok-size.size c.each.sizes.items c.push.new.self.items (map (λ g. g.size) globals)
    (c.size.ensures ∙ ap Some (sym c.in_ok-size.ensures)) c.in_ok-push.ensures.items c.each.invariant
