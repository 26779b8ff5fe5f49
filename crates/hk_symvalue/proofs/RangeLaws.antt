-- Laws of ranges of numbers.
use Rattle.std.proofs.Common.{◌≡◌, ◌<◌, ◌≤◌, ◌^◌, ◌-◌, ◌%◌, ◌⊎◌, ℕ, Bool, true, false, ◌&&◌, nat_lt, inl, inr, refl, sym, ap, ◌∙◌, arith}
use Rattle.std.proofs.Math.Nat.{mod-eq_of_lt}
use Rattle.std.proofs.lemmas.Nat.{pow_pos}
use Rattle.std.proofs.lemmas.Bool.{lt-ltb, le-ltb, le-leb, cases_lt}
use Rattle.hk_num.specs.Numbers.{bvsub}
use Rattle.ir_value.specs.Numbers.{is_width, is_number, is_between}

pub spans : (w low high n : ℕ) → 1 ≤ w → w ≤ 64 → low < 2 ^ w → high < 2 ^ w
    → (nat_lt n (2 ^ w) && nat_lt (bvsub w (n % 2 ^ w) low) (bvsub w high low)) ≡ is_between w low high n
spans w low high n p q r s = by (cases_lt n (2 ^ w)) ∙ sym ends
  where
    ends : is_between w low high n ≡ (nat_lt n (2 ^ w) && nat_lt (bvsub w n low) (bvsub w high low))
    ends = λ i. (le-leb 1 w p i && le-leb w 64 q i) && (lt-ltb low (2 ^ w) r i && lt-ltb high (2 ^ w) s i && nat_lt n (2 ^ w)) && nat_lt (bvsub w n low) (bvsub w high low)

    by : (n < 2 ^ w) ⊎ (2 ^ w ≤ n) → (nat_lt n (2 ^ w) && nat_lt (bvsub w (n % 2 ^ w) low) (bvsub w high low)) ≡ (nat_lt n (2 ^ w) && nat_lt (bvsub w n low) (bvsub w high low))
    by (inl small) = ap (λ k. nat_lt n (2 ^ w) && nat_lt (bvsub w k low) (bvsub w high low)) (mod-eq_of_lt small)
    by (inr large) =
        (λ i. le-ltb n (2 ^ w) large i && nat_lt (bvsub w (n % 2 ^ w) low) (bvsub w high low))
        ∙ sym (λ i. le-ltb n (2 ^ w) large i && nat_lt (bvsub w n low) (bvsub w high low))

pub low_beyond : (w low high n most : ℕ) → most ≡ 2 ^ w - 1 → most < low → false ≡ is_between w low high n
low_beyond w low high n most e h = sym ((λ i. is_width w && (le-ltb low (2 ^ w) (omega (arith, e, h, pow_pos w)) i && is_number w high && is_number w n) && nat_lt (bvsub w n low) (bvsub w high low)) ∙ by (is_width w))
  where
    by : (t : Bool) → (t && (false && is_number w high && is_number w n) && nat_lt (bvsub w n low) (bvsub w high low)) ≡ false
    by true = refl
    by false = refl

pub high_beyond : (w low high n most : ℕ) → most ≡ 2 ^ w - 1 → most < high → false ≡ is_between w low high n
high_beyond w low high n most e h = sym ((λ i. is_width w && (is_number w low && le-ltb high (2 ^ w) (omega (arith, e, h, pow_pos w)) i && is_number w n) && nat_lt (bvsub w n low) (bvsub w high low)) ∙ by (is_width w) (is_number w low))
  where
    by : (t u : Bool) → (t && (u && false && is_number w n) && nat_lt (bvsub w n low) (bvsub w high low)) ≡ false
    by true true = refl
    by true false = refl
    by false true = refl
    by false false = refl
