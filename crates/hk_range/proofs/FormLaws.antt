-- Laws of one sum whose terms all stand in it a multiple of a power of two.
use Rattle.std.proofs.Common.{◌≡◌, ℕ, ◌+◌, ◌-◌, ◌*◌, ◌/◌, ◌%◌, ◌^◌, ◌<◌, List, [], ◌∷◌, length, sum_by, bit_and, arith, refl, sym, ap, ◌∙◌}
use Rattle.std.proofs.Math.Nat.{add-mul-mod_self_left, add-mul-div_left}
use Rattle.std.proofs.lemmas.Nat.{and_mask, pow_pos, one_shl}
use Rattle.hk_range.specs.declared.sums.Item.{Item}

pub no_items : (g : Item → ℕ) (xs : List Item) → length xs ≡ 0 → sum_by g xs ≡ 0
no_items g [] e = refl
no_items g (x ∷ xs) e = absurd (omega (arith, e))

pub low_law : (k s u n low : ℕ) → n ≡ 2 ^ k * u → low ≡ bit_and s (2 ^ k - 1) → (s + n) % 2 ^ k ≡ low
low_law k s u n low is mask = ap (λ m. (s + m) % 2 ^ k) is ∙ add-mul-mod_self_left s (2 ^ k) u ∙ sym (and_mask s k) ∙ sym mask

pub high_law : (k s u n high : ℕ) → n ≡ 2 ^ k * u → high ≡ s / 2 ^ k → high + u ≡ (s + n) / 2 ^ k
high_law k s u n high is shift =
    ap (λ m. m + u) shift ∙ sym (add-mul-div_left s u (pow_pos k)) ∙ sym (ap (λ m. (s + m) / 2 ^ k) is)

-- `1 << n` at 64 bits
pub one_shifted : (n : ℕ) → n < 64 → (1 * 2 ^ n) % 2 ^ 64 ≡ 2 ^ n
one_shifted n h = one_shl n 64 h
