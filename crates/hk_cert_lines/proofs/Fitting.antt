-- A number of 64 bits fits every width from 64 on.
use Rattle.std.proofs.Common.{ℕ, ◌≡◌, ◌<◌, ◌≤◌, ◌^◌, true, ltb, arith, sym}
use Rattle.std.proofs.Math.Pow.{pow_mono}
use Rattle.std.proofs.lemmas.Bool.{lt-ltb}

pub fits-wide : (n w : ℕ) → n < 2 ^ 64 → 64 ≤ w → true ≡ ltb n (2 ^ w)
fits-wide n w small wide =
    let more : 2 ^ 64 ≤ 2 ^ w = pow_mono wide in
    let within : n < 2 ^ w = omega (arith, small, more) in
    sym (lt-ltb n (2 ^ w) within)
