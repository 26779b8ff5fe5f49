-- The numbers of a width are those up to its greatest one.
use Rattle.std.proofs.Common.{◌≡◌, ◌-◌, ◌^◌, ℕ, suc, nat_lt, arith}
use Rattle.std.specs.Prelude.{nat_le}
use Rattle.std.proofs.lemmas.Nat.{pow_pos}
use Rattle.std.proofs.lemmas.Bool.Decides.{leb_tells}

pub up_to_greatest : (n w top : ℕ) → top ≡ 2 ^ w - 1 → nat_le n top ≡ nat_lt n (2 ^ w)
up_to_greatest n w top is = grind (arith, is, pow_pos w, leb_tells n top, leb_tells (suc n) (2 ^ w))
