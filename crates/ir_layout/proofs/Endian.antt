-- The bytes of a number by two's complement are those of its value modulo a power of two.
use Rattle.std.proofs.Common.{◌≡◌, ℕ, zero, suc, ◌+◌, ◌-◌, ◌*◌, ◌/◌, ◌%◌, ◌^◌, ◌<◌, ℤ, pos, negsuc, Bool, true, false, ◌∷◌, length, refl, sym, ◌∙◌, ap, arith, lit<}
use Rattle.std.proofs.Math.Nat.{pow-succ'}
use Rattle.std.proofs.lemmas.Nat.{mod-mul-add}
use Rattle.ir_layout.specs.Initial.{modulo, little_endian}
use Rattle.ir_layout.specs.Writing.{magnitude, is_below_zero, signed_bytes}

product : (a p : ℕ) → a * (256 * p) ≡ 256 * (p * a)
product a p = grind arith

mod_split : (m p : ℕ) → 0 < p → m % (256 * p) ≡ m % 256 + 256 * (m / 256 % p)
mod_split m p some =
    let high : p * (m / 256 / p) + m / 256 % p ≡ m / 256 = omega (arith, some) in
    let small : m / 256 % p < p = omega (arith, some) in
    let low : m % 256 < 256 = omega arith in
    let whole : m ≡ m / 256 / p * (256 * p) + (m % 256 + 256 * (m / 256 % p)) = omega (arith, product (m / 256 / p) p, high) in
    ap (λ x. x % (256 * p)) whole ∙ mod-mul-add (m / 256 / p) (256 * p) (m % 256 + 256 * (m / 256 % p)) (omega (arith, small, low))

power_some : (k : ℕ) → 0 < 2 ^ k
power_some zero = lit< tt
power_some (suc k) = let e = pow-succ' 2 k in let l = power_some k in omega (arith, e, l)

power_more : (k : ℕ) → 2 ^ (8 * suc k) ≡ 256 * 2 ^ (8 * k)
power_more k =
    let n : 8 * suc k ≡ suc (suc (suc (suc (suc (suc (suc (suc (8 * k)))))))) = omega arith in
    ap (λ x. 2 ^ x) n ∙ eight (8 * k)
  where
    eight : (n : ℕ) → 2 ^ suc (suc (suc (suc (suc (suc (suc (suc n))))))) ≡ 256 * 2 ^ n
    eight n =
        omega (
          arith,
          pow-succ' 2 n,
          pow-succ' 2 (suc n),
          pow-succ' 2 (suc (suc n)),
          pow-succ' 2 (suc (suc (suc n))),
          pow-succ' 2 (suc (suc (suc (suc n)))),
          pow-succ' 2 (suc (suc (suc (suc (suc n))))),
          pow-succ' 2 (suc (suc (suc (suc (suc (suc n)))))),
          pow-succ' 2 (suc (suc (suc (suc (suc (suc (suc n))))))),
        )

pub plain_bytes : (k n : ℕ) → signed_bytes false k n ≡ little_endian k n
plain_bytes zero n = refl
plain_bytes (suc k) n = ap (λ bs. n % 256 ∷ bs) (plain_bytes k (n / 256))

positive : (k n : ℕ) → little_endian k n ≡ little_endian k (n % 2 ^ (8 * k))
positive zero n = refl
positive (suc k) n =
    let p = 2 ^ (8 * k) in
    let some : 0 < p = power_some (8 * k) in
    let is : n % 2 ^ (8 * suc k) ≡ n % 256 + 256 * (n / 256 % p) = ap (λ x. n % x) (power_more k) ∙ mod_split n p some in
    let low : n % 2 ^ (8 * suc k) % 256 ≡ n % 256 = low_is (n % 2 ^ (8 * suc k)) (n % 256) (n / 256 % p) (omega arith) is in
    let high : n % 2 ^ (8 * suc k) / 256 ≡ n / 256 % p = high_is (n % 2 ^ (8 * suc k)) (n % 256) (n / 256 % p) (omega arith) is in
    ap (λ bs. n % 256 ∷ bs) (positive k (n / 256)) ∙ ap (λ x. x ∷ little_endian k (n / 256 % p)) (sym low)
    ∙ ap (λ x. n % 2 ^ (8 * suc k) % 256 ∷ little_endian k x) (sym high)
  where
    low_is : (x r q : ℕ) → r < 256 → x ≡ r + 256 * q → x % 256 ≡ r
    low_is x r q l e = omega (arith, l, e)

    high_is : (x r q : ℕ) → r < 256 → x ≡ r + 256 * q → x / 256 ≡ q
    high_is x r q l e = omega (arith, l, e)

negative : (k n : ℕ) → signed_bytes true k n ≡ little_endian k (2 ^ (8 * k) - 1 - n % 2 ^ (8 * k))
negative zero n = refl
negative (suc k) n =
    let p = 2 ^ (8 * k) in
    let some : 0 < p = power_some (8 * k) in
    let split : n % 2 ^ (8 * suc k) ≡ n % 256 + 256 * (n / 256 % p) = ap (λ x. n % x) (power_more k) ∙ mod_split n p some in
    let small : n / 256 % p < p = omega (arith, some) in
    let is : 2 ^ (8 * suc k) - 1 - n % 2 ^ (8 * suc k) ≡ 255 - n % 256 + 256 * (p - 1 - n / 256 % p) =
    over (2 ^ (8 * suc k)) (n % 2 ^ (8 * suc k)) p (n % 256) (n / 256 % p) (power_more k) split (omega arith) small in
    let low : (2 ^ (8 * suc k) - 1 - n % 2 ^ (8 * suc k)) % 256 ≡ 255 - n % 256 =
    low_is (2 ^ (8 * suc k) - 1 - n % 2 ^ (8 * suc k)) (255 - n % 256) (p - 1 - n / 256 % p) (omega arith) is in
    let high : (2 ^ (8 * suc k) - 1 - n % 2 ^ (8 * suc k)) / 256 ≡ p - 1 - n / 256 % p =
    high_is (2 ^ (8 * suc k) - 1 - n % 2 ^ (8 * suc k)) (255 - n % 256) (p - 1 - n / 256 % p) (omega arith) is in
    ap (λ bs. (255 - n % 256) ∷ bs) (negative k (n / 256)) ∙ ap (λ x. x ∷ little_endian k (p - 1 - n / 256 % p)) (sym low)
    ∙ ap (λ x. (2 ^ (8 * suc k) - 1 - n % 2 ^ (8 * suc k)) % 256 ∷ little_endian k x) (sym high)
  where
    over : (x y p r q : ℕ) → x ≡ 256 * p → y ≡ r + 256 * q → r < 256 → q < p → x - 1 - y ≡ 255 - r + 256 * (p - 1 - q)
    over x y p r q e f l m = omega (arith, e, f, l, m)

    low_is : (x r q : ℕ) → r < 256 → x ≡ r + 256 * q → x % 256 ≡ r
    low_is x r q l e = omega (arith, l, e)

    high_is : (x r q : ℕ) → r < 256 → x ≡ r + 256 * q → x / 256 ≡ q
    high_is x r q l e = omega (arith, l, e)

-- the bytes that are written of a number
pub number_bytes : (k : ℕ) (z : ℤ) → signed_bytes (is_below_zero z) k (magnitude z) ≡ little_endian k (modulo (8 * k) z)
number_bytes k (pos n) = plain_bytes k n ∙ positive k n
number_bytes k (negsuc n) = negative k n

pub endian_length : (k n : ℕ) → length (little_endian k n) ≡ k
endian_length zero n = refl
endian_length (suc k) n = ap suc (endian_length k (n / 256))

pub signed_length : (b : Bool) (k n : ℕ) → length (signed_bytes b k n) ≡ k
signed_length b zero n = refl
signed_length b (suc k) n = ap suc (signed_length b k (n / 256))
