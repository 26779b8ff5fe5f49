-- Stages of shifts: each moves by its bit's worth, and at most by the width.
use Rattle.std.proofs.Common.{◌≡◌, ◌⊎◌, ℕ, ◌+◌, ◌-◌, ◌*◌, ◌/◌, ◌%◌, ◌<◌, ◌≤◌, ◌^◌, min, Bool, true, false, if◌then◌else◌, List, ◌++◌, length, drop, replicate, ℤ, inl, inr, sym, ◌∙◌, ap, arith}
use Rattle.std.proofs.lemmas.Bool.{cases_lt}
use Rattle.std.proofs.lemmas.Nat.{div-mul-add, pow_pos, pow-add, mul-mod}
use Rattle.std.proofs.Math.Nat.{mul-mod_left, mod-mod, div-div-eq-div-mul, mod-eq_of_lt}
use Rattle.hk_cnf.specs.Circuit.{Circuit, gate_value}
use Rattle.hk_circuit.specs.Words.{bit, gate_number}
use Rattle.hk_circuit.proofs.WordNumbers.{number-below}
use Rattle.hk_circuit.proofs.WordArithmetic.{number-append, number-drop, number-zeros}

pub number-down : (c : Circuit) (ls : List ℤ) (by : ℕ) (l : ℤ) (v : ℕ → Bool) → by ≤ length ls → gate_value c l v ≡ false → gate_number c (drop by ls ++ replicate by l) v ≡ gate_number c ls v / 2 ^ by
number-down c ls by l v h e =
    number-append c (drop by ls) (replicate by l) v
    ∙ (ap (λ n. gate_number c (drop by ls) v + 2 ^ length (drop by ls) * n) (number-zeros c l by v e)
    ∙ (plain (gate_number c (drop by ls) v) (2 ^ length (drop by ls)) ∙ number-drop c ls by v h))
  where
    plain : (n p : ℕ) → n + p * 0 ≡ n
    plain n p = omega arith

pub left-none : (c : Circuit) (ls : List ℤ) (v : ℕ → Bool) → gate_number c ls v ≡ (gate_number c ls v * 2 ^ 0) % 2 ^ length ls
left-none c ls v = sym (ap (λ n. n % 2 ^ length ls) (plain (gate_number c ls v)) ∙ mod-eq_of_lt (number-below c ls v))
  where
    plain : (n : ℕ) → n * 1 ≡ n
    plain n = omega arith

pub right-none : (c : Circuit) (ls : List ℤ) (v : ℕ → Bool) → gate_number c ls v ≡ gate_number c ls v / 2 ^ 0
right-none c ls v = sym (ap (λ n. n / 1) (plain (gate_number c ls v)) ∙ div-mul-add (gate_number c ls v) 1 0 (omega arith))
  where
    plain : (n : ℕ) → n ≡ n * 1 + 0
    plain n = omega arith

-- a power of two that is at least the width's is a multiple of it
pub lost : (a n k : ℕ) → n ≤ k → (a * 2 ^ k) % 2 ^ n ≡ 0
lost a n k h =
    let e : 2 ^ k ≡ 2 ^ (k - n) * 2 ^ n = ap (λ x. 2 ^ x) (sum h) ∙ pow-add 2 (k - n) n in
    let f : a * 2 ^ k ≡ (a * 2 ^ (k - n)) * 2 ^ n = ap (λ x. a * x) e ∙ turn a (2 ^ (k - n)) (2 ^ n) in
    ap (λ x. x % 2 ^ n) f ∙ mul-mod_left (a * 2 ^ (k - n)) (2 ^ n)
  where
    sum : n ≤ k → k ≡ k - n + n
    sum g = omega arith

    turn : (a b c : ℕ) → a * (b * c) ≡ a * b * c
    turn a b c = omega arith

again : (a s t n : ℕ) → ((a * 2 ^ s) % 2 ^ n * 2 ^ t) % 2 ^ n ≡ (a * 2 ^ (s + t)) % 2 ^ n
again a s t n =
    mul-mod ((a * 2 ^ s) % 2 ^ n) (2 ^ t) (2 ^ n)
    ∙ (ap (λ x. (x * (2 ^ t % 2 ^ n)) % 2 ^ n) (mod-mod (a * 2 ^ s) (2 ^ n))
    ∙ (sym (mul-mod (a * 2 ^ s) (2 ^ t) (2 ^ n)) ∙ ap (λ x. x % 2 ^ n) (turn a (2 ^ s) (2 ^ t) ∙ ap (λ x. a * x) (sym (pow-add 2 s t)))))
  where
    turn : (a b c : ℕ) → a * b * c ≡ a * (b * c)
    turn a b c = omega arith

pub left-step : (a s w n j by : ℕ) (x : Bool) → a < 2 ^ n → w ≡ (a * 2 ^ s) % 2 ^ n → by ≡ min (2 ^ j) n → (if x then (w * 2 ^ by) % 2 ^ n else w) ≡ (a * 2 ^ (s + 2 ^ j * bit x)) % 2 ^ n
left-step a s w n j by false h e f = e ∙ ap (λ k. (a * 2 ^ k) % 2 ^ n) (plain s (2 ^ j))
  where
    plain : (s p : ℕ) → s ≡ s + p * 0
    plain s p = omega arith
left-step a s w n j by true h e f = pick (cases_lt (2 ^ j) n)
  where
    plain : (p : ℕ) → p ≡ p * 1
    plain p = omega arith

    pick : (2 ^ j < n) ⊎ (n ≤ 2 ^ j) → (w * 2 ^ by) % 2 ^ n ≡ (a * 2 ^ (s + 2 ^ j * 1)) % 2 ^ n
    pick (inl l) =
        let m : by ≡ 2 ^ j * 1 = omega (arith, f, l) in
        (λ i. (e i * 2 ^ m i) % 2 ^ n) ∙ again a s (2 ^ j * 1) n
    pick (inr l) =
        let m : by ≡ n = omega (arith, f, l) in
        (λ i. (w * 2 ^ m i) % 2 ^ n) ∙ (lost w n n (omega arith) ∙ sym (lost a n (s + 2 ^ j * 1) (omega (arith, l))))

pub vanishes : (a n k : ℕ) → a < 2 ^ n → n ≤ k → a / 2 ^ k ≡ 0
vanishes a n k h l =
    let e : 2 ^ k ≡ 2 ^ (k - n) * 2 ^ n = ap (λ x. 2 ^ x) (sum l) ∙ pow-add 2 (k - n) n in
    ap (λ x. x / 2 ^ k) (plain a (2 ^ k)) ∙ div-mul-add 0 (2 ^ k) a (larger e (pow_pos (k - n)))
  where
    sum : n ≤ k → k ≡ k - n + n
    sum g = omega arith

    plain : (a p : ℕ) → a ≡ 0 * p + a
    plain a p = omega arith

    larger : 2 ^ k ≡ 2 ^ (k - n) * 2 ^ n → 0 < 2 ^ (k - n) → a < 2 ^ k
    larger e g = let m : 1 * 2 ^ n ≤ 2 ^ (k - n) * 2 ^ n = grind arith in omega (arith, e, m, h)

pub right-step : (a s w n j by : ℕ) (x : Bool) → a < 2 ^ n → w ≡ a / 2 ^ s → by ≡ min (2 ^ j) n → (if x then w / 2 ^ by else w) ≡ a / 2 ^ (s + 2 ^ j * bit x)
right-step a s w n j by false h e f = e ∙ ap (λ k. a / 2 ^ k) (plain s (2 ^ j))
  where
    plain : (s p : ℕ) → s ≡ s + p * 0
    plain s p = omega arith
right-step a s w n j by true h e f = pick (cases_lt (2 ^ j) n)
  where
    twice : (t : ℕ) → a / 2 ^ s / 2 ^ t ≡ a / 2 ^ (s + t)
    twice t = div-div-eq-div-mul a (2 ^ s) (2 ^ t) ∙ ap (λ x. a / x) (sym (pow-add 2 s t))

    pick : (2 ^ j < n) ⊎ (n ≤ 2 ^ j) → w / 2 ^ by ≡ a / 2 ^ (s + 2 ^ j * 1)
    pick (inl l) =
        let m : by ≡ 2 ^ j * 1 = omega (arith, f, l) in
        (λ i. e i / 2 ^ m i) ∙ twice (2 ^ j * 1)
    pick (inr l) =
        let m : by ≡ n = omega (arith, f, l) in
        (λ i. e i / 2 ^ m i) ∙ (twice n ∙ (vanishes a n (s + n) h (omega arith) ∙ sym (vanishes a n (s + 2 ^ j * 1) h (omega (arith, l)))))
