use Rattle.std.proofs.Common.{◌≤◌, arith}
use Rattle.hk_symexec.proofs.Starting.{is_small}
use Rattle.hk_symexec.proofs.orders.depth_of.Goals as goal

pub overflow_add-result : goal.overflow_add-result
overflow_add-result c =
    let few : c.expanded.result ≤ 100000 = is_small c.args.checked.now c.module-module.ensures.checked c.args.function c.expanded.result c.requires c.expanded.ensures in
    omega (arith, few)
