-- Words moved up, and partial products.
use Rattle.std.proofs.Common.{◌≡◌, ℕ, zero, suc, ◌+◌, ◌-◌, ◌*◌, ◌/◌, ◌%◌, ◌<◌, ◌≤◌, ◌^◌, Bool, true, false, not, eqb, neg_ℤ, if◌then◌else◌, List, ◌++◌, length, take, drop, replicate, ℤ, refl, sym, ◌∙◌, ap, arith}
use Rattle.std.proofs.lemmas.List.{length-replicate}
use Rattle.std.proofs.lemmas.List.Elements.{All-append, All-replicate, All-take}
use Rattle.std.proofs.lemmas.Nat.{mod-mul-add, mod-pow-add, pow_pos, pow-add, mod_below}
use Rattle.std.proofs.Math.Nat.{mul-le-mul_left, add-mod, mod-mod}
use Rattle.std.specs.List.{All}
use Rattle.hk_cnf.specs.Literal.{IsLiteral, IsWithin}
use Rattle.hk_circuit.proofs.Negated.{value_negated}
use Rattle.hk_cnf.specs.Circuit.{Circuit, gate_value}
use Rattle.hk_circuit.specs.Words.{bit, gate_number}
use Rattle.hk_circuit.proofs.WordNumbers.{front-below}
use Rattle.hk_circuit.proofs.WordArithmetic.{number-append, number-split, number-zeros}

up-value : (d t p q n a : ℕ) → a ≡ d * p + t → t < p → p * q ≡ n → 0 < q → q * t ≡ (a * q) % n
up-value d t p q n a e h f g =
    let room : q * (t + 1) ≤ q * p = mul-le-mul_left q (omega (arith, h)) in
    let below : q * t < n = omega (arith, room, f, g) in
    let k : d * (p * q) ≡ d * n = ap (λ x. d * x) f in
    let m : a * q ≡ (d * p + t) * q = ap (λ x. x * q) e in
    let whole : a * q ≡ d * n + q * t = omega (arith, m, k) in
    sym (ap (λ x. x % n) whole ∙ mod-mul-add d n (q * t) below)

pub number-up : (c : Circuit) (ls : List ℤ) (by : ℕ) (l : ℤ) (v : ℕ → Bool) → by ≤ length ls → gate_value c l v ≡ false → gate_number c (replicate by l ++ take (length ls - by) ls) v ≡ (gate_number c ls v * 2 ^ by) % 2 ^ length ls
number-up c ls by l v h e =
    let i : ℕ = length ls - by in
    let split : gate_number c ls v ≡ gate_number c (drop i ls) v * 2 ^ i + gate_number c (take i ls) v = number-split c ls i v (omega arith) in
    let power : 2 ^ i * 2 ^ by ≡ 2 ^ length ls = sym (pow-add 2 i by) ∙ ap (λ n. 2 ^ n) (sum h) in
    number-append c (replicate by l) (take i ls) v
    ∙ ((λ j. number-zeros c l by v e j + 2 ^ (length-replicate by l) j * gate_number c (take i ls) v)
    ∙ (plain (2 ^ by * gate_number c (take i ls) v)
    ∙ up-value (gate_number c (drop i ls) v) (gate_number c (take i ls) v) (2 ^ i) (2 ^ by) (2 ^ length ls) (gate_number c ls v) split (front-below c ls i v (omega arith)) power (pow_pos by)))
  where
    sum : by ≤ length ls → length ls - by + by ≡ length ls
    sum k = omega arith

    plain : (n : ℕ) → 0 + n ≡ n
    plain n = omega arith

pub within-up : (n : ℕ) (ls : List ℤ) (by : ℕ) (l : ℤ) → All (IsWithin n) ls → IsWithin n l → All (IsWithin n) (replicate by l ++ take (length ls - by) ls)
within-up n ls by l w k = All-append (IsWithin n) (replicate by l) (take (length ls - by) ls) (All-replicate (IsWithin n) by l k) (All-take (IsWithin n) (length ls - by) ls w)

-- one more partial product
pub product-step : (a b p q : ℕ) (x : Bool) → ((a * b) % p + (if x then (a * q) % p else 0)) % p ≡ (a * (b + q * bit x)) % p
product-step a b p q true =
    sym (add-mod (a * b) (a * q) p) ∙ ap (λ n. n % p) (turn a b q)
  where
    turn : (a b q : ℕ) → a * b + a * q ≡ a * (b + q * 1)
    turn a b q = omega arith
product-step a b p q false =
    ap (λ n. n % p) (plain ((a * b) % p)) ∙ (mod-mod (a * b) p ∙ ap (λ n. n % p) (turn a b q))
  where
    plain : (n : ℕ) → n + 0 ≡ n
    plain n = omega arith

    turn : (a b q : ℕ) → a * b ≡ a * (b + q * 0)
    turn a b q = omega arith

pub zero-product : (a p : ℕ) → 0 < p → 0 ≡ (a * 0) % p
zero-product a p h = sym (ap (λ n. n % p) (plain a p) ∙ mod-mul-add 0 p 0 h)
  where
    plain : (a p : ℕ) → a * 0 ≡ 0 * p + 0
    plain a p = omega arith

-- one more bit of a number
pub bit-step : (n i : ℕ) → n % 2 ^ (i + 1) ≡ n % 2 ^ i + 2 ^ i * bit (eqb (n / 2 ^ i % 2) 1)
bit-step n i =
    ap (λ k. n % 2 ^ k) (turn i) ∙ (mod-pow-add n 1 i ∙ (ap (λ x. x * 2 ^ i + n % 2 ^ i) (digit (n / 2 ^ i % 2) (mod_below (n / 2 ^ i) 2 (omega arith))) ∙ swap (bit (eqb (n / 2 ^ i % 2) 1)) (2 ^ i) (n % 2 ^ i)))
  where
    turn : (i : ℕ) → i + 1 ≡ 1 + i
    turn i = omega arith

    swap : (b p m : ℕ) → b * p + m ≡ m + p * b
    swap b p m = omega arith

    digit : (d : ℕ) → d < 2 → d ≡ bit (eqb d 1)
    digit zero h = refl
    digit (suc zero) h = refl
    digit (suc (suc d)) h = absurd (omega (arith, h))

pub literal-value : (c : Circuit) (l truth : ℤ) (b : Bool) (v : ℕ → Bool) → IsLiteral truth → gate_value c truth v ≡ true → l ≡ (if b then truth else neg_ℤ truth) → gate_value c l v ≡ b
literal-value c l truth true v h t e = ap (λ x. gate_value c x v) e ∙ t
literal-value c l truth false v h t e = ap (λ x. gate_value c x v) e ∙ (value_negated c truth v h ∙ ap not t)
