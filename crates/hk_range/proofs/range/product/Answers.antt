use Rattle.std.proofs.Common.{◌≡◌, ◌*◌, ◌%◌, ◌^◌, ◌≤◌, arith}
use Rattle.std.proofs.Math.Nat.{mod-eq_of_lt}
use Rattle.std.proofs.lemmas.Nat.{mul-le}
use Rattle.hk_range.proofs.range.product.Goals as goal

pub returns-in-Some : goal.returns-in-Some
returns-in-Some c = λ a b p q any.
    let top : a * b ≤ c.args.p.hi * c.args.q.hi = mul-le a b c.args.p.hi c.args.q.hi p.most q.most in
    let low : c.args.p.lo * c.args.q.lo ≤ a * b = mul-le c.args.p.lo c.args.q.lo a b p.least q.least in
    let whole : (a * b) % 2 ^ c.args.w ≡ a * b = mod-eq_of_lt (omega (arith, top, c.in-Some.ensures.0, c.in-Some.ensures.1)) in
    record { least = omega (arith, whole, low, c.saturating_mul.ensures); most = omega (arith, whole, top, c.in-Some.ensures.0) }
