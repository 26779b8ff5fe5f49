-- Bitwise operations a bit at a time, words turned, and extensions.
use Rattle.std.proofs.Common.{◌≡◌, ℕ, zero, suc, ◌+◌, ◌-◌, ◌*◌, ◌<◌, ◌^◌, Bool, true, false, ◌&&◌, ◌||◌, if◌then◌else◌, bit_and, bit_or, bit_xor, replicate, ℤ, refl, sym, ◌∙◌, ap, arith, pow-suc}
use Rattle.std.specs.Int.Bits.{xor_add_and, xor_zero_r}
use Rattle.std.proofs.lemmas.Nat.{and_block, or_block, xor_block, and_mask, pow_pos}
use Rattle.std.proofs.Math.Nat.{mod-eq_of_lt}
use Rattle.hk_cnf.specs.Circuit.{Circuit, gate_value}
use Rattle.hk_circuit.specs.Words.{bit, gate_number, differ}

-- a bit above a front
above : (m p : ℕ) (x : Bool) → m + p * bit x ≡ bit x * p + m
above m p true = omega arith
above m p false = omega arith

and-bits : (x y : Bool) → bit_and (bit x) (bit y) ≡ bit (x && y)
and-bits true true = refl
and-bits true false = refl
and-bits false true = refl
and-bits false false = refl

or-bits : (x y : Bool) → bit_or (bit x) (bit y) ≡ bit (x || y)
or-bits true true = refl
or-bits true false = refl
or-bits false true = refl
or-bits false false = refl

xor-bits : (x y : Bool) → bit_xor (bit x) (bit y) ≡ bit (differ x y)
xor-bits true true = refl
xor-bits true false = refl
xor-bits false true = refl
xor-bits false false = refl

pub and-step : (k m n : ℕ) (x y : Bool) → m < 2 ^ k → n < 2 ^ k → bit_and m n + 2 ^ k * bit (x && y) ≡ bit_and (m + 2 ^ k * bit x) (n + 2 ^ k * bit y)
and-step k m n x y h g =
    above (bit_and m n) (2 ^ k) (x && y)
    ∙ (ap (λ b. b * 2 ^ k + bit_and m n) (sym (and-bits x y))
    ∙ (sym (and_block k (bit x) (bit y) m n h g)
    ∙ (λ j. bit_and (sym (above m (2 ^ k) x) j) (sym (above n (2 ^ k) y) j))))

pub or-step : (k m n : ℕ) (x y : Bool) → m < 2 ^ k → n < 2 ^ k → bit_or m n + 2 ^ k * bit (x || y) ≡ bit_or (m + 2 ^ k * bit x) (n + 2 ^ k * bit y)
or-step k m n x y h g =
    above (bit_or m n) (2 ^ k) (x || y)
    ∙ (ap (λ b. b * 2 ^ k + bit_or m n) (sym (or-bits x y))
    ∙ (sym (or_block k (bit x) (bit y) m n h g)
    ∙ (λ j. bit_or (sym (above m (2 ^ k) x) j) (sym (above n (2 ^ k) y) j))))

pub xor-step : (k m n : ℕ) (x y : Bool) → m < 2 ^ k → n < 2 ^ k → bit_xor m n + 2 ^ k * bit (differ x y) ≡ bit_xor (m + 2 ^ k * bit x) (n + 2 ^ k * bit y)
xor-step k m n x y h g =
    above (bit_xor m n) (2 ^ k) (differ x y)
    ∙ (ap (λ b. b * 2 ^ k + bit_xor m n) (sym (xor-bits x y))
    ∙ (sym (xor_block k (bit x) (bit y) m n h g)
    ∙ (λ j. bit_xor (sym (above m (2 ^ k) x) j) (sym (above n (2 ^ k) y) j))))

-- a word of ones
number-ones : (c : Circuit) (l : ℤ) (n : ℕ) (v : ℕ → Bool) → gate_value c l v ≡ true → gate_number c (replicate n l) v ≡ 2 ^ n - 1
number-ones c l zero v e = refl
number-ones c l (suc n) v e = (λ j. bit (e j) + 2 * number-ones c l n v e j) ∙ omega (arith, pow-suc 2 n, pow_pos n)

number-none : (c : Circuit) (l : ℤ) (n : ℕ) (v : ℕ → Bool) → gate_value c l v ≡ false → gate_number c (replicate n l) v ≡ 0
number-none c l zero v e = refl
number-none c l (suc n) v e = (λ j. bit (e j) + 2 * number-none c l n v e j)

-- a word of copies of a literal
pub number-copies : (c : Circuit) (l : ℤ) (n : ℕ) (v : ℕ → Bool) → gate_number c (replicate n l) v ≡ (if gate_value c l v then 2 ^ n - 1 else 0)
number-copies c l n v = pick (gate_value c l v) refl
  where
    pick : (b : Bool) → gate_value c l v ≡ b → gate_number c (replicate n l) v ≡ (if gate_value c l v then 2 ^ n - 1 else 0)
    pick true e = number-ones c l n v e ∙ ap (λ b. if b then 2 ^ n - 1 else 0) (sym e)
    pick false e = number-none c l n v e ∙ ap (λ b. if b then 2 ^ n - 1 else 0) (sym e)

-- a number with each bit turned
xor-ones : (n a : ℕ) → a < 2 ^ n → bit_xor a (2 ^ n - 1) ≡ 2 ^ n - 1 - a
xor-ones n a h =
    let both : bit_and a (2 ^ n - 1) ≡ a = and_mask a n ∙ mod-eq_of_lt h in
    omega (arith, xor_add_and a (2 ^ n - 1), both, h)

pub turned : (n a : ℕ) (x : Bool) → a < 2 ^ n → bit_xor a (if x then 2 ^ n - 1 else 0) ≡ (if x then 2 ^ n - 1 - a else a)
turned n a true h = xor-ones n a h
turned n a false h = xor_zero_r a
