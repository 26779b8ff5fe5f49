use Rattle.std.proofs.Common.{sym, ◌∙◌, ap}
use Rattle.std.proofs.Math.ListN.{drop_of_length-le}
use Rattle.spec_kernel.specs.Seen.{kernel_in}
use Rattle.spec_scope.specs.Words.{words}
use Rattle.spec_strays.specs.Places.{with_hooks}
use Rattle.spec_strays.proofs.Placing.{hooks_told}
use Rattle.spec_strays.proofs.places.hooked.Goals as goal

pub returns-clause-told : goal.returns-clause-told
returns-clause-told c =
    hooks_told (kernel_in c.args.kernel.now) (words c.args.hooks.now) c.each.flags.items
    (ap (λ hooks. with_hooks (kernel_in c.args.kernel.now) c.each.flags.items (words hooks)) (sym (drop_of_length-le c.args.hooks.now c.each-test.false)) ∙ c.each.invariant.1)
