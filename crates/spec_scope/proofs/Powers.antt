-- Powers of two that a word of 128 bits holds.
use Rattle.std.proofs.Common.{◌≡◌, ℕ, ◌*◌, ◌%◌, ◌^◌, ◌<◌, ◌≤◌, ℤ, ◌∙◌, ap, arith, mod-eq_of_lt}
use Rattle.std.proofs.Math.Pow.{pow_mono}
use Rattle.hk_num.specs.Numbers.{number_of}
use Rattle.hk_num.proofs.Algebra.{number_cut}

pub power_held : (w : ℕ) → w ≤ 64 → 1 * 2 ^ w % 2 ^ 128 ≡ 2 ^ w
power_held w h =
    let p : 2 ^ w ≤ 2 ^ 64 = pow_mono h in
    let q : 1 * 2 ^ w < 2 ^ 128 = omega (arith, p) in
    mod-eq_of_lt q ∙ omega arith

pub cut_number : (w : ℕ) (n : ℤ) (a b : ℕ) → w ≤ 64 → a ≡ number_of 64 n → b ≡ a → b % (1 * 2 ^ w % 2 ^ 128) ≡ number_of w n
cut_number w n a b h is same = ap (λ m. b % m) (power_held w h) ∙ ap (λ m. m % 2 ^ w) (same ∙ is) ∙ number_cut 64 w n h
