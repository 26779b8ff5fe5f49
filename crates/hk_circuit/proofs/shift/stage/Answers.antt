use Rattle.std.proofs.Common.{◌≤◌, ◌^◌, arith}
use Rattle.std.proofs.Math.Pow.{pow_mono}
use Rattle.hk_circuit.proofs.shift.stage.Goals as goal

pub returns-then-place-ge64 : goal.returns-then-place-ge64
returns-then-place-ge64 c = let p : 2 ^ 64 ≤ 2 ^ c.args.place = pow_mono c.if-place-ge64.true in omega (arith, p)
