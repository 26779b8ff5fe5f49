-- The numbers of parts of words, and sums and signed readings as numbers of a width.
use Rattle.std.proofs.Common.{◌≡◌, ℕ, zero, suc, ◌+◌, ◌-◌, ◌*◌, ◌/◌, ◌%◌, ◌<◌, ◌≤◌, ◌^◌, Bool, true, false, not, cond, nat_lt, ltb, int_lt, neg_ℤ, List, [], ◌∷◌, ◌++◌, length, take, drop, replicate, get_or, ℤ, pos, negsuc, refl, sym, ◌∙◌, ap, arith, pow-suc, length-take}
use Rattle.std.proofs.lemmas.Bool.{lt-ltb, le-ltb}
use Rattle.std.proofs.lemmas.Bool.Decides.{Decides-ltb, Decides-like, same_from_decides}
use Rattle.std.proofs.lemmas.List.{take-append-drop, take_all}
use Rattle.std.proofs.lemmas.Nat.{div-mul-add, mod-mul-add}
use Rattle.std.specs.List.{All}
use Rattle.hk_num.specs.Numbers.{signed_of}
use Rattle.hk_cnf.specs.Literal.{IsWithin}
use Rattle.hk_cnf.specs.Circuit.{Circuit, gate_value}
use Rattle.hk_circuit.specs.Words.{bit, gate_number}
use Rattle.hk_circuit.proofs.Negated.{value_negated}
use Rattle.hk_circuit.proofs.WordNumbers.{number-push, number-more, front-below}

pub number-append : (c : Circuit) (xs ys : List ℤ) (v : ℕ → Bool) → gate_number c (xs ++ ys) v ≡ gate_number c xs v + 2 ^ length xs * gate_number c ys v
number-append c [] ys v = omega arith
number-append c (x ∷ xs) ys v =
    let p : ℕ = 2 ^ length xs in let n : ℕ = gate_number c ys v in
    ap (λ m. bit (gate_value c x v) + 2 * m) (number-append c xs ys v) ∙ step (bit (gate_value c x v)) (gate_number c xs v) (length xs) n
  where
    step : (b m k n : ℕ) → b + 2 * (m + 2 ^ k * n) ≡ (b + 2 * m) + 2 ^ suc k * n
    step b m k n = let e : 2 ^ suc k * n ≡ (2 ^ k * 2) * n = ap (λ x. x * n) (pow-suc 2 k) in omega (arith, e)

-- a word is its front and what is above it
pub number-split : (c : Circuit) (ls : List ℤ) (i : ℕ) (v : ℕ → Bool) → i ≤ length ls → gate_number c ls v ≡ gate_number c (drop i ls) v * 2 ^ i + gate_number c (take i ls) v
number-split c ls i v h =
    let n : length (take i ls) ≡ i = omega (arith, length-take i ls) in
    ap (λ x. gate_number c x v) (sym (take-append-drop i ls))
    ∙ (number-append c (take i ls) (drop i ls) v
    ∙ ((λ j. gate_number c (take i ls) v + 2 ^ n j * gate_number c (drop i ls) v)
    ∙ turn (gate_number c (take i ls) v) (2 ^ i) (gate_number c (drop i ls) v)))
  where
    turn : (a p m : ℕ) → a + p * m ≡ m * p + a
    turn a p m = omega arith

pub number-drop : (c : Circuit) (ls : List ℤ) (i : ℕ) (v : ℕ → Bool) → i ≤ length ls → gate_number c (drop i ls) v ≡ gate_number c ls v / 2 ^ i
number-drop c ls i v h =
    sym (ap (λ n. n / 2 ^ i) (number-split c ls i v h) ∙ div-mul-add (gate_number c (drop i ls) v) (2 ^ i) (gate_number c (take i ls) v) (front-below c ls i v h))

pub number-take : (c : Circuit) (ls : List ℤ) (i : ℕ) (v : ℕ → Bool) → i ≤ length ls → gate_number c (take i ls) v ≡ gate_number c ls v % 2 ^ i
number-take c ls i v h =
    sym (ap (λ n. n % 2 ^ i) (number-split c ls i v h) ∙ mod-mul-add (gate_number c (drop i ls) v) (2 ^ i) (gate_number c (take i ls) v) (front-below c ls i v h))

pub number-zeros : (c : Circuit) (l : ℤ) (n : ℕ) (v : ℕ → Bool) → gate_value c l v ≡ false → gate_number c (replicate n l) v ≡ 0
number-zeros c l zero v e = refl
number-zeros c l (suc n) v e = (λ j. bit (e j) + 2 * number-zeros c l n v e j)

-- the low part of a sum with its carry
pub low-part : (s p k x : ℕ) → s + p * k ≡ x → s < p → s ≡ x % p
low-part s p k x e h = sym (ap (λ n. n % p) (sym e ∙ turn s p k) ∙ mod-mul-add k p s h)
  where
    turn : (s p k : ℕ) → s + p * k ≡ k * p + s
    turn s p k = omega arith

pub sum-value : (s p k a b t : ℕ) → s + p * k ≡ a + b + t → t ≡ 0 → s < p → s ≡ (a + b) % p
sum-value s p k a b t e z h = low-part s p k (a + b) (omega (arith, e, z)) h

pub difference-value : (s p k a b o t : ℕ) → s + p * k ≡ a + o + t → o ≡ p - 1 - b → t ≡ 1 → b < p → s < p → s ≡ (p + a - b) % p
difference-value s p k a b o t e c z hb h = low-part s p k (p + a - b) (omega (arith, e, c, z, hb)) h

-- the signed reading of a word by its highest bit
signed-low : (w x : ℕ) → x < 2 ^ (w - 1) → signed_of w (x + 2 ^ (w - 1) * 0) ≡ pos (x + 2 ^ (w - 1) * 0)
signed-low w x h = ap (λ t. cond t (pos (x + 2 ^ (w - 1) * 0)) (negsuc (2 ^ w - 1 - (x + 2 ^ (w - 1) * 0)))) (lt-ltb (x + 2 ^ (w - 1) * 0) (2 ^ (w - 1)) (omega (arith, h)))

signed-high : (w x : ℕ) → signed_of w (x + 2 ^ (w - 1) * 1) ≡ negsuc (2 ^ w - 1 - (x + 2 ^ (w - 1) * 1))
signed-high w x = ap (λ t. cond t (pos (x + 2 ^ (w - 1) * 1)) (negsuc (2 ^ w - 1 - (x + 2 ^ (w - 1) * 1)))) (le-ltb (x + 2 ^ (w - 1) * 1) (2 ^ (w - 1)) (omega arith))

same-ltb : (a b c d : ℕ) → (a < b → c < d) → (c < d → a < b) → ltb a b ≡ ltb c d
same-ltb a b c d f g = same_from_decides (ltb a b) (ltb c d) (Decides-ltb a b) (Decides-like (ltb c d) g f (Decides-ltb c d))

whole : (w : ℕ) → 1 ≤ w → 2 ^ w ≡ 2 ^ (w - 1) * 2
whole zero h = absurd (omega (arith, h))
whole (suc w) h = pow-suc 2 w ∙ ap (λ n. 2 ^ n * 2) (less w)
  where
    less : (w : ℕ) → w ≡ suc w - 1
    less w = omega arith

-- two signed readings are in the order of the numbers with their highest bits turned
pub signed-order : (w x y : ℕ) (h k : Bool) → 1 ≤ w → x < 2 ^ (w - 1) → y < 2 ^ (w - 1) →
    nat_lt (x + 2 ^ (w - 1) * bit (not h)) (y + 2 ^ (w - 1) * bit (not k)) ≡ int_lt (signed_of w (x + 2 ^ (w - 1) * bit h)) (signed_of w (y + 2 ^ (w - 1) * bit k))
signed-order w x y false false n hx hy =
    same-ltb (x + 2 ^ (w - 1) * 1) (y + 2 ^ (w - 1) * 1) (x + 2 ^ (w - 1) * 0) (y + 2 ^ (w - 1) * 0) (λ e. omega (arith, e)) (λ e. omega (arith, e))
    ∙ sym (λ j. int_lt (signed-low w x hx j) (signed-low w y hy j))
signed-order w x y false true n hx hy =
    le-ltb (x + 2 ^ (w - 1) * 1) (y + 2 ^ (w - 1) * 0) (omega (arith, hx, hy))
    ∙ sym (λ j. int_lt (signed-low w x hx j) (signed-high w y j))
signed-order w x y true false n hx hy =
    lt-ltb (x + 2 ^ (w - 1) * 0) (y + 2 ^ (w - 1) * 1) (omega (arith, hx, hy))
    ∙ sym (λ j. int_lt (signed-high w x j) (signed-low w y hy j))
signed-order w x y true true n hx hy =
    let e : 2 ^ w ≡ 2 ^ (w - 1) * 2 = whole w n in
    same-ltb (x + 2 ^ (w - 1) * 0) (y + 2 ^ (w - 1) * 0) (2 ^ w - 1 - (y + 2 ^ (w - 1) * 1)) (2 ^ w - 1 - (x + 2 ^ (w - 1) * 1)) (λ l. omega (arith, e, hx, hy, l)) (λ l. omega (arith, e, hx, hy, l))
    ∙ sym (λ j. int_lt (signed-high w x j) (signed-high w y j))

-- the number of a word by its highest bit, and with that bit turned
pub number-top : (c : Circuit) (ls : List ℤ) (v : ℕ → Bool) → 1 ≤ length ls → gate_number c ls v ≡ gate_number c (take (length ls - 1) ls) v + 2 ^ (length ls - 1) * bit (gate_value c (get_or ls (length ls - 1) (pos 1)) v)
number-top c ls v h =
    ap (λ x. gate_number c x v) (sym (take_all (length ls - 1 + 1) ls (omega (arith, h)))) ∙ number-more c ls (length ls - 1) (pos 1) v (omega (arith, h))

pub number-turned : (c : Circuit) (ls : List ℤ) (n : ℕ) (v : ℕ → Bool) → 1 ≤ length ls → All (IsWithin n) ls →
    gate_number c (take (length ls - 1) ls ++ neg_ℤ (get_or ls (length ls - 1) (pos 1)) ∷ []) v ≡ gate_number c (take (length ls - 1) ls) v + 2 ^ (length ls - 1) * bit (not (gate_value c (get_or ls (length ls - 1) (pos 1)) v))
number-turned c ls n v h w =
    let size : length (take (length ls - 1) ls) ≡ length ls - 1 = omega (arith, length-take (length ls - 1) ls) in
    let top : IsWithin n (get_or ls (length ls - 1) (pos 1)) = w (length ls - 1) (pos 1) (omega (arith, h)) in
    number-push c (take (length ls - 1) ls) (neg_ℤ (get_or ls (length ls - 1) (pos 1))) v
    ∙ (λ j. gate_number c (take (length ls - 1) ls) v + 2 ^ size j * bit (value_negated c (get_or ls (length ls - 1) (pos 1)) v top.literal j))
