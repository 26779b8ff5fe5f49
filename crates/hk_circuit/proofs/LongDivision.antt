-- Long division of words: one subtraction where it fits, and one more digit of the quotient.
use Rattle.std.proofs.Common.{◌≡◌, ◌⊎◌, ℕ, zero, suc, ◌+◌, ◌-◌, ◌*◌, ◌/◌, ◌%◌, ◌<◌, ◌≤◌, ◌^◌, Bool, true, false, not, ◌&&◌, nat_eq, nat_lt, if◌then◌else◌, List, [], ◌∷◌, ◌++◌, length, drop, reverse, get_or, ℤ, pos, inl, inr, refl, sym, ◌∙◌, ap, subst, arith, add-one, pow-suc, drop-cons}
use Rattle.std.proofs.lemmas.Bool.{ne_eqb, lt-ltb, le-ltb, cases_lt}
use Rattle.std.proofs.lemmas.List.{drop_all, reverse-append, get_or_push, get_or_append_left}
use Rattle.std.proofs.lemmas.List.Elements.{All-head, All-tail, All-push}
use Rattle.std.proofs.lemmas.Nat.{div-mul-add, mod-mul-add, div-add-mod', pow_pos}
use Rattle.std.proofs.Math.Nat.{mod-lt, suc-mul}
use Rattle.std.specs.List.{All}
use Rattle.hk_cnf.specs.Literal.{IsWithin, place_of}
use Rattle.hk_cnf.specs.Circuit.{Circuit, gate_value}
use Rattle.hk_term.specs.Operations.{udiv_value, urem_value}
use Rattle.hk_circuit.specs.Words.{bit, gate_number}

-- the highest bits down to one place more
pub number-above : (c : Circuit) (ls : List ℤ) (j i : ℕ) (x : ℤ) (v : ℕ → Bool) → j < length ls → i ≡ length ls - 1 - j → x ≡ get_or ls i x →
    gate_number c (drop (length ls - (j + 1)) ls) v ≡ bit (gate_value c x v) + 2 * gate_number c (drop (length ls - j) ls) v
number-above c ls j i x v h e is =
    let from : length ls - (j + 1) ≡ i = omega (arith, e) in
    let next : suc i ≡ length ls - j = omega (arith, e, h) in
    let list : drop (length ls - (j + 1)) ls ≡ x ∷ drop (length ls - j) ls =
    ap (λ n. drop n ls) from ∙ (drop-cons ls i x (omega (arith, e, h)) ∙ (λ k. sym is k ∷ drop (next k) ls)) in
    ap (λ l. gate_number c l v) list

pub number-none-above : (c : Circuit) (ls : List ℤ) (v : ℕ → Bool) → gate_number c (drop (length ls - 0) ls) v ≡ 0
number-none-above c ls v = ap (λ l. gate_number c l v) (drop_all (length ls - 0) ls (omega arith))

pub number-all-above : (c : Circuit) (ls : List ℤ) (j : ℕ) (v : ℕ → Bool) → length ls ≤ j → gate_number c (drop (length ls - j) ls) v ≡ gate_number c ls v
number-all-above c ls j v h = let none : length ls - j ≡ 0 = omega (arith, h) in ap (λ n. gate_number c (drop n ls) v) none

some : (n : ℕ) → 0 < n → nat_eq n 0 ≡ false
some n h = ne_eqb n 0 (λ e. absurd (omega (arith, e, h)))

pub clear-step : (x : Bool) (n : ℕ) → (nat_eq n 0 && not x) ≡ nat_eq (bit x + 2 * n) 0
clear-step true zero = refl
clear-step true (suc n) = (λ j. some (suc n) (omega arith) j && false) ∙ sym (some (1 + 2 * suc n) (omega arith))
clear-step false zero = refl
clear-step false (suc n) = (λ j. some (suc n) (omega arith) j && true) ∙ sym (some (0 + 2 * suc n) (omega arith))

-- one more flag
pub flags-step : (c0 c1 c2 : Circuit) (flags more ls : List ℤ) (clear : ℤ) (k : ℕ) → more ≡ flags ++ clear ∷ [] → length flags ≡ k → All (IsWithin c1.vars) flags → IsWithin c1.vars clear
    → ((l : ℤ) → place_of l < c1.vars → (v : ℕ → Bool) → gate_value c2 l v ≡ gate_value c1 l v)
    → ((v : ℕ → Bool) → gate_value c1 clear v ≡ nat_eq (gate_number c0 (drop (length ls - k) ls) v) 0)
    → ((m : ℕ) → m < k → (v : ℕ → Bool) → gate_value c1 (get_or flags m (pos 1)) v ≡ nat_eq (gate_number c0 (drop (length ls - m) ls) v) 0)
    → (m : ℕ) → m < k + 1 → (v : ℕ → Bool) → gate_value c2 (get_or more m (pos 1)) v ≡ nat_eq (gate_number c0 (drop (length ls - m) ls) v) 0
flags-step c0 c1 c2 flags more ls clear k grown size within wc keeps now old m h v = pick (cases_lt m k)
  where
    pick : (m < k) ⊎ (k ≤ m) → gate_value c2 (get_or more m (pos 1)) v ≡ nat_eq (gate_number c0 (drop (length ls - m) ls) v) 0
    pick (inl l) =
        let there : m < length flags = omega (arith, size, l) in
        let w : IsWithin c1.vars (get_or flags m (pos 1)) = within m (pos 1) there in
        ap (λ x. gate_value c2 (get_or x m (pos 1)) v) grown
        ∙ (ap (λ x. gate_value c2 x v) (get_or_append_left flags (clear ∷ []) (pos 1) m there) ∙ (keeps (get_or flags m (pos 1)) w.below v ∙ old m l v))
    pick (inr g) =
        let same : m ≡ k = omega (arith, h, g) in
        ap (λ x. gate_value c2 (get_or x m (pos 1)) v) grown
        ∙ (ap (λ x. gate_value c2 x v) (get_or_push flags clear (pos 1) m (size ∙ sym same))
        ∙ (keeps clear wc.below v ∙ (now v ∙ ap (λ n. nat_eq (gate_number c0 (drop (length ls - n) ls) v) 0) (sym same))))

-- the carry of a sum with the complement and one says whether the second number is at most the first
pub fits-is : (s a o b b0 b1 p : ℕ) (x : Bool) → s + p * bit x ≡ a + o + 1 → o ≡ p - 1 - b0 → b ≡ b1 * p + b0 → b0 < p → a < p → s < p → (x && nat_eq b1 0) ≡ not (nat_lt a b)
fits-is s a o b b0 zero p true e f g hb ha hs = ap not (sym (le-ltb a b (omega (arith, e, f, g, hb, ha, hs))))
fits-is s a o b b0 (suc k) p true e f g hb ha hs = (λ j. true && some (suc k) (omega arith) j) ∙ ap not (sym (lt-ltb a b (omega (arith, g, suc-mul k p, ha))))
fits-is s a o b b0 b1 p false e f g hb ha hs = ap not (sym (lt-ltb a b (omega (arith, e, f, g, hb, ha, hs))))

pub fitting-is : (s a o b b0 b1 p : ℕ) (x : Bool) → s + p * bit x ≡ a + o + 1 → o ≡ p - 1 - b0 → b ≡ b1 * p + b0 → b0 < p → a < p → s < p → b ≤ a → s ≡ a - b
fitting-is s a o b b0 zero p true e f g hb ha hs h = omega (arith, e, f, g, hb, ha, hs)
fitting-is s a o b b0 (suc k) p true e f g hb ha hs h = absurd (omega (arith, g, suc-mul k p, ha, h))
fitting-is s a o b b0 b1 p false e f g hb ha hs h = absurd (omega (arith, e, f, g, hb, ha, hs, h))

-- a choice by whether the difference fits
pub reduced-is : (s t a b : ℕ) (x : Bool) → x ≡ not (nat_lt a b) → (b ≤ a → s ≡ a - b) → t ≡ (if x then s else a) → t ≡ (if nat_lt a b then a else a - b)
reduced-is s t a b x e f g = pick (cases_lt a b)
  where
    pick : (a < b) ⊎ (b ≤ a) → t ≡ (if nat_lt a b then a else a - b)
    pick (inl l) =
        let is : nat_lt a b ≡ true = lt-ltb a b l in
        g ∙ ((λ j. if (e ∙ ap not is) j then s else a) ∙ (λ j. if sym is j then a else a - b))
    pick (inr l) =
        let is : nat_lt a b ≡ false = le-ltb a b l in
        g ∙ ((λ j. if (e ∙ ap not is) j then f l j else a) ∙ (λ j. if sym is j then a else a - b))

-- quotients and remainders by another number than 0
udiv-some : (j d n : ℕ) → udiv_value j d (suc n) ≡ d / suc n
udiv-some j d n = ap (λ t. if t then 2 ^ j - 1 else d / suc n) (some (suc n) (omega arith))

urem-some : (j d n : ℕ) → urem_value j d (suc n) ≡ d % suc n
urem-some j d n = ap (λ t. if t then d else d % suc n) (some (suc n) (omega arith))

-- one more digit of the quotient, and what remains
pub quotient-step : (j d b q r : ℕ) (x : Bool) → q ≡ udiv_value j d b → r ≡ urem_value j d b → bit (not (nat_lt (bit x + 2 * r) b)) + 2 * q ≡ udiv_value (j + 1) (bit x + 2 * d) b
quotient-step j d zero q r x e f =
    let is : nat_lt (bit x + 2 * r) 0 ≡ false = le-ltb (bit x + 2 * r) 0 (omega arith) in
    (λ k. bit (not (is k)) + 2 * e k) ∙ rw add-one (omega (arith, pow-suc 2 j, pow_pos j))
quotient-step j d (suc n) q r x e f = pick (cases_lt (bit x + 2 * r) (suc n)) ∙ sym (udiv-some (j + 1) (bit x + 2 * d) n)
  where
    plain : (m : ℕ) → 0 + m ≡ m
    plain m = omega arith

    parts : d ≡ q * suc n + r
    parts = sym (div-add-mod' d (suc n)) ∙ (λ k. sym (e ∙ udiv-some j d n) k * suc n + sym (f ∙ urem-some j d n) k)

    pick : (bit x + 2 * r < suc n) ⊎ (suc n ≤ bit x + 2 * r) → bit (not (nat_lt (bit x + 2 * r) (suc n))) + 2 * q ≡ (bit x + 2 * d) / suc n
    pick (inl l) =
        let is : nat_lt (bit x + 2 * r) (suc n) ≡ true = lt-ltb (bit x + 2 * r) (suc n) l in
        let whole : bit x + 2 * d ≡ (2 * q) * suc n + (bit x + 2 * r) = omega (arith, parts) in
        (λ k. bit (not (is k)) + 2 * q) ∙ (plain (2 * q) ∙ sym (ap (λ m. m / suc n) whole ∙ div-mul-add (2 * q) (suc n) (bit x + 2 * r) l))
    pick (inr l) =
        let is : nat_lt (bit x + 2 * r) (suc n) ≡ false = le-ltb (bit x + 2 * r) (suc n) l in
        let below : r < suc n = subst (λ m. m < suc n) (sym (f ∙ urem-some j d n)) (mod-lt d (omega arith)) in
        let whole : bit x + 2 * d ≡ (1 + 2 * q) * suc n + (bit x + 2 * r - suc n) = omega (arith, parts, l) in
        (λ k. bit (not (is k)) + 2 * q) ∙ sym (ap (λ m. m / suc n) whole ∙ div-mul-add (1 + 2 * q) (suc n) (bit x + 2 * r - suc n) (less x below l))
      where
        less : (y : Bool) → r < suc n → suc n ≤ bit y + 2 * r → bit y + 2 * r - suc n < suc n
        less true h k = omega (arith, h, k)
        less false h k = omega (arith, h, k)

pub remainder-step : (j d b r : ℕ) (x : Bool) → r ≡ urem_value j d b → (if nat_lt (bit x + 2 * r) b then bit x + 2 * r else bit x + 2 * r - b) ≡ urem_value (j + 1) (bit x + 2 * d) b
remainder-step j d zero r x f =
    let is : nat_lt (bit x + 2 * r) 0 ≡ false = le-ltb (bit x + 2 * r) 0 (omega arith) in
    (λ k. if is k then bit x + 2 * r else bit x + 2 * r - 0) ∙ (plain (bit x + 2 * r) ∙ ap (λ m. bit x + 2 * m) f)
  where
    plain : (n : ℕ) → n - 0 ≡ n
    plain n = omega arith
remainder-step j d (suc n) r x f = pick (cases_lt (bit x + 2 * r) (suc n)) ∙ sym (urem-some (j + 1) (bit x + 2 * d) n)
  where
    parts : d ≡ d / suc n * suc n + r
    parts = sym (div-add-mod' d (suc n)) ∙ ap (λ m. d / suc n * suc n + m) (sym (f ∙ urem-some j d n))

    pick : (bit x + 2 * r < suc n) ⊎ (suc n ≤ bit x + 2 * r) → (if nat_lt (bit x + 2 * r) (suc n) then bit x + 2 * r else bit x + 2 * r - suc n) ≡ (bit x + 2 * d) % suc n
    pick (inl l) =
        let is : nat_lt (bit x + 2 * r) (suc n) ≡ true = lt-ltb (bit x + 2 * r) (suc n) l in
        let whole : bit x + 2 * d ≡ (2 * (d / suc n)) * suc n + (bit x + 2 * r) = omega (arith, parts) in
        (λ k. if is k then bit x + 2 * r else bit x + 2 * r - suc n) ∙ sym (ap (λ m. m % suc n) whole ∙ mod-mul-add (2 * (d / suc n)) (suc n) (bit x + 2 * r) l)
    pick (inr l) =
        let is : nat_lt (bit x + 2 * r) (suc n) ≡ false = le-ltb (bit x + 2 * r) (suc n) l in
        let below : r < suc n = subst (λ m. m < suc n) (sym (f ∙ urem-some j d n)) (mod-lt d (omega arith)) in
        let whole : bit x + 2 * d ≡ (1 + 2 * (d / suc n)) * suc n + (bit x + 2 * r - suc n) = omega (arith, parts, l) in
        (λ k. if is k then bit x + 2 * r else bit x + 2 * r - suc n) ∙ sym (ap (λ m. m % suc n) whole ∙ mod-mul-add (1 + 2 * (d / suc n)) (suc n) (bit x + 2 * r - suc n) (less x below l))
      where
        less : (y : Bool) → r < suc n → suc n ≤ bit y + 2 * r → bit y + 2 * r - suc n < suc n
        less true h k = omega (arith, h, k)
        less false h k = omega (arith, h, k)

-- digits from the highest on
pub reverse-push : (xs : List ℤ) (x : ℤ) → reverse (xs ++ x ∷ []) ≡ x ∷ reverse xs
reverse-push xs x = reverse-append xs (x ∷ [])

pub within-reverse : (n : ℕ) (ls : List ℤ) → All (IsWithin n) ls → All (IsWithin n) (reverse ls)
within-reverse n [] w = w
within-reverse n (x ∷ xs) w =
    subst (All (IsWithin n)) (sym (reverse-append (x ∷ []) xs))
    (All-push (IsWithin n) (reverse xs) x (within-reverse n xs (All-tail (IsWithin n) x xs w)) (All-head (IsWithin n) x xs w))
