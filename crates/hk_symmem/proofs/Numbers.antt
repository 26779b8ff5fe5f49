-- Numbers in bytes, read and written.
use Rattle.std.proofs.Common.{◌≡◌, ◌≢◌, ℕ, zero, suc, ◌+◌, ◌*◌, ◌/◌, ◌%◌, ◌^◌, ◌<◌, ◌≤◌, ◌⊎◌, inl, inr, Bool, true, false, List, length, refl, sym, ◌∙◌, ap, subst, arith, length-set, get_or-set_same, get_or-set_other, get_or}
use Rattle.std.specs.Prelude.{if◌then◌else◌, nat_eq, slice_index, slice_set, bit_and}
use Rattle.std.specs.List.{All}
use Rattle.std.proofs.Math.Nat.{pow-succ', mod-eq_of_lt, div-div-eq-div-mul}
use Rattle.std.proofs.lemmas.Nat.{pow-add}
use Rattle.std.proofs.lemmas.Bool.Decides.{eqb_tells}
use Rattle.std.proofs.lemmas.List.{get_or_past}
use Rattle.ir_layout.specs.Bytes.{number_at, with_number}
use Rattle.ir_layout.proofs.SizeLaws.{kept_below, kept_behind, loaded}
use Rattle.hk_term.specs.Operations.{bit}
use Rattle.hk_symmem.specs.Guarded.{with_bytes}

-- ---- numbers read

-- 8 bits a byte
pub bits_of_bytes : (c : ℕ) → 2 ^ (8 * c) ≡ 256 ^ c
bits_of_bytes zero = refl
bits_of_bytes (suc c) = (λ i. 2 ^ more c i) ∙ pow-add 2 8 (8 * c) ∙ (λ i. 256 * bits_of_bytes c i) ∙ sym (pow-succ' 256 c)
  where
    more : (c : ℕ) → 8 * suc c ≡ 8 + 8 * c
    more c = omega arith

pub number_same : (n p : ℕ) (ys zs : List ℕ) → ((k : ℕ) → p ≤ k → k < p + n → slice_index ys k ≡ slice_index zs k) → number_at n p ys ≡ number_at n p zs
number_same zero p ys zs h = refl
number_same (suc n) p ys zs h =
    ap (λ b. b + 256 * number_at n (p + 1) ys) (h p (omega arith) (omega arith))
    ∙ ap (λ r. slice_index zs p + 256 * r) (number_same n (p + 1) ys zs (λ k l m. h k (omega (arith, l)) (omega (arith, m))))

pub byte_small : (bytes : List ℕ) (k : ℕ) → All (λ b. b < 256) bytes → slice_index bytes k < 256
byte_small bytes k small = by (split k (length bytes))
  where
    split : (a b : ℕ) → (a < b) ⊎ (b ≤ a)
    split a b = grind arith

    by : (k < length bytes) ⊎ (length bytes ≤ k) → slice_index bytes k < 256
    by (inl l) = small k 0 l
    by (inr l) = subst (λ b. b < 256) (sym (get_or_past bytes k 0 l)) (omega arith)

pub number_below : (n p : ℕ) (bytes : List ℕ) → All (λ b. b < 256) bytes → number_at n p bytes < 256 ^ n
number_below zero p bytes small = omega arith
number_below (suc n) p bytes small = joined (slice_index bytes p) (number_at n (p + 1) bytes) (256 ^ n) (256 ^ suc n) (pow-succ' 256 n) (byte_small bytes p small) (number_below n (p + 1) bytes small)
  where
    joined : (b r q s : ℕ) → s ≡ 256 * q → b < 256 → r < q → b + 256 * r < s
    joined b r q s e l m = omega (arith, e, l, m)

-- a byte of a number
pub byte_of_number : (n p j : ℕ) (bytes : List ℕ) → All (λ b. b < 256) bytes → j < n → number_at n p bytes / 256 ^ j % 256 ≡ slice_index bytes (p + j)
byte_of_number zero p j bytes small l = absurd (omega (arith, l))
byte_of_number (suc n) p zero bytes small l =
    low (slice_index bytes p) (number_at n (p + 1) bytes) (byte_small bytes p small) ∙ ap (slice_index bytes) (none p)
  where
    low : (b r : ℕ) → b < 256 → (b + 256 * r) / 256 ^ 0 % 256 ≡ b
    low b r l = omega (arith, l)

    none : (p : ℕ) → p ≡ p + 0
    none p = omega arith
byte_of_number (suc n) p (suc j) bytes small l =
    ap (λ q. (slice_index bytes p + 256 * number_at n (p + 1) bytes) / q % 256) (pow-succ' 256 j)
    ∙ ap (λ q. q % 256) (sym (div-div-eq-div-mul (slice_index bytes p + 256 * number_at n (p + 1) bytes) 256 (256 ^ j)))
    ∙ ap (λ q. q / 256 ^ j % 256) (rest (slice_index bytes p) (number_at n (p + 1) bytes) (byte_small bytes p small))
    ∙ byte_of_number n (p + 1) j bytes small (omega (arith, l))
    ∙ ap (slice_index bytes) (next p j)
  where
    rest : (b r : ℕ) → b < 256 → (b + 256 * r) / 256 ≡ r
    rest b r l = omega (arith, l)

    next : (p j : ℕ) → p + 1 + j ≡ p + suc j
    next p j = omega arith

-- one more byte, above the others
pub number_more : (n p : ℕ) (bytes : List ℕ) → number_at (suc n) p bytes ≡ slice_index bytes (p + n) * 256 ^ n + number_at n p bytes
number_more zero p bytes = (λ i. slice_index bytes (none p i) + 256 * 0) ∙ one (slice_index bytes (p + 0))
  where
    none : (p : ℕ) → p ≡ p + 0
    none p = omega arith

    one : (b : ℕ) → b + 256 * 0 ≡ b * 256 ^ 0 + 0
    one b = omega arith
number_more (suc n) p bytes =
    ap (λ r. slice_index bytes p + 256 * r) (number_more n (p + 1) bytes)
    ∙ shuffled (slice_index bytes p) (slice_index bytes (p + 1 + n)) (256 ^ n) (256 ^ suc n) (number_at n (p + 1) bytes) (pow-succ' 256 n)
    ∙ ap (λ k. slice_index bytes k * 256 ^ suc n + number_at (suc n) p bytes) (next p n)
  where
    shuffled : (a b q s r : ℕ) → s ≡ 256 * q → a + 256 * (b * q + r) ≡ b * s + (a + 256 * r)
    shuffled a b q s r e = subst (λ t. a + 256 * (b * q + r) ≡ b * t + (a + 256 * r)) (sym e) (grind arith)

    next : (p n : ℕ) → p + 1 + n ≡ p + suc n
    next p n = omega arith

-- ---- numbers written

pub bytes_length : (n o x : ℕ) (bytes : List ℕ) → length (with_bytes n o x bytes) ≡ length bytes
bytes_length zero o x bytes = refl
bytes_length (suc n) o x bytes = bytes_length n (o + 1) (x / 256) (slice_set bytes (o % 2 ^ 64) (x % 256)) ∙ length-set bytes (o % 2 ^ 64) (x % 256)

set_small : (bytes : List ℕ) (k b : ℕ) → All (λ b. b < 256) bytes → b < 256 → All (λ b. b < 256) (slice_set bytes k b)
set_small bytes k b small l j d m = by (split j k)
  where
    split : (a b : ℕ) → (a ≡ b) ⊎ (a ≢ b)
    split a b = grind arith

    there : j < length bytes
    there = omega (arith, m, length-set bytes k b)

    by : (j ≡ k) ⊎ (j ≢ k) → get_or (slice_set bytes k b) j d < 256
    by (inl e) = subst (λ i. get_or (slice_set bytes k b) i d < 256) (sym e) (subst (λ c. c < 256) (sym (get_or-set_same bytes k b d (omega (arith, there, e)))) l)
    by (inr e) = subst (λ c. c < 256) (sym (get_or-set_other bytes k j b d e)) (small j d there)

pub bytes_small : (n o x : ℕ) (bytes : List ℕ) → All (λ b. b < 256) bytes → All (λ b. b < 256) (with_bytes n o x bytes)
bytes_small zero o x bytes small = small
bytes_small (suc n) o x bytes small = bytes_small n (o + 1) (x / 256) (slice_set bytes (o % 2 ^ 64) (x % 256)) (set_small bytes (o % 2 ^ 64) (x % 256) small (omega arith))

-- a range below 2^64 does not wrap
pub unwrapped : (n o x : ℕ) (bytes : List ℕ) → o + n ≤ 2 ^ 64 → with_bytes n o x bytes ≡ with_number n o x bytes
unwrapped zero o x bytes l = refl
unwrapped (suc n) o x bytes l =
    ap (λ p. with_bytes n (o + 1) (x / 256) (slice_set bytes p (x % 256))) (mod-eq_of_lt (omega (arith, l)))
    ∙ unwrapped n (o + 1) (x / 256) (slice_set bytes o (x % 256)) (omega (arith, l))

-- one more byte, behind the others
pub written_more : (j o x : ℕ) (bytes : List ℕ) → with_bytes (suc j) o x bytes ≡ slice_set (with_bytes j o x bytes) ((o + j) % 2 ^ 64) (x / 256 ^ j % 256)
written_more zero o x bytes = λ i. slice_set bytes (place o i % 2 ^ 64) (whole x i % 256)
  where
    place : (o : ℕ) → o ≡ o + 0
    place o = omega arith

    whole : (x : ℕ) → x ≡ x / 256 ^ 0
    whole x = omega arith
written_more (suc j) o x bytes =
    written_more j (o + 1) (x / 256) (slice_set bytes (o % 2 ^ 64) (x % 256))
    ∙ (λ i. slice_set (with_bytes (suc j) o x bytes) (next o j i % 2 ^ 64) (rest i % 256))
  where
    next : (o j : ℕ) → o + 1 + j ≡ o + suc j
    next o j = omega arith

    rest : x / 256 / 256 ^ j ≡ x / 256 ^ suc j
    rest = div-div-eq-div-mul x 256 (256 ^ j) ∙ ap (λ q. x / q) (sym (pow-succ' 256 j))

-- what was written is read
pub read_back : (n o x : ℕ) (bytes : List ℕ) → o + n ≤ length bytes → length bytes < 2 ^ 64 → x < 256 ^ n → number_at n o (with_bytes n o x bytes) ≡ x
read_back n o x bytes there room below = ap (number_at n o) (unwrapped n o x bytes (omega (arith, there, room))) ∙ loaded n o x bytes there below

-- a range that a write does not meet
pub read_apart : (m p n o x : ℕ) (bytes : List ℕ) → o + n ≤ 2 ^ 64 → (p + m ≤ o) ⊎ (o + n ≤ p) → number_at m p (with_bytes n o x bytes) ≡ number_at m p bytes
read_apart m p n o x bytes fits apart =
    ap (number_at m p) (unwrapped n o x bytes fits) ∙ number_same m p (with_number n o x bytes) bytes (by apart)
  where
    by : (p + m ≤ o) ⊎ (o + n ≤ p) → (k : ℕ) → p ≤ k → k < p + m → slice_index (with_number n o x bytes) k ≡ slice_index bytes k
    by (inl l) k i j = kept_below n o x k bytes (omega (arith, l, j))
    by (inr l) k i j = kept_behind n o x k bytes (omega (arith, l, i))

-- ---- a byte behind one byte of a write

-- the byte that is written, where the guard is true and the places are one
pub byte_chosen : (g p a part byte before : ℕ) (bytes : List ℕ) → g < 2 → p < length bytes
    → byte ≡ (if nat_eq g 1 then slice_index bytes p else before)
    → (if nat_eq (bit_and g (bit (nat_eq p a))) 1 then part else byte) ≡ (if nat_eq g 1 then slice_index (slice_set bytes a part) p else before)
byte_chosen zero p a part byte before bytes truth there is = none (nat_eq p a) ∙ is
  where
    none : (b : Bool) → (if nat_eq (bit_and 0 (bit b)) 1 then part else byte) ≡ byte
    none true = refl
    none false = refl
byte_chosen (suc zero) p a part byte before bytes truth there is = by (eqb_tells p a)
  where
    by : ((nat_eq p a ≡ true) × (p ≡ a)) ⊎ ((nat_eq p a ≡ false) × (p ≢ a)) → (if nat_eq (bit_and 1 (bit (nat_eq p a))) 1 then part else byte) ≡ slice_index (slice_set bytes a part) p
    by (inl q) =
        ap (λ b. if nat_eq (bit_and 1 (bit b)) 1 then part else byte) q.0
        ∙ sym (ap (slice_index (slice_set bytes a part)) q.1 ∙ get_or-set_same bytes a part 0 (subst (λ k. k < length bytes) q.1 there))
    by (inr q) =
        ap (λ b. if nat_eq (bit_and 1 (bit b)) 1 then part else byte) q.0 ∙ is
        ∙ sym (get_or-set_other bytes a p part 0 q.1)
byte_chosen (suc (suc g)) p a part byte before bytes truth there is = absurd (omega (arith, truth))
