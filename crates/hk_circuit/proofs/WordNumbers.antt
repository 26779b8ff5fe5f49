-- The numbers of words as bits are added and circuits grow.
use Rattle.std.proofs.Common.{◌≡◌, ℕ, suc, ◌+◌, ◌-◌, ◌*◌, ◌<◌, ◌≤◌, ◌^◌, Bool, true, false, not, ◌&&◌, ◌||◌, if◌then◌else◌, eqb, ltb, nat_lt, neg_ℤ, map, List, [], ◌∷◌, ◌++◌, length, take, get_or, ℤ, refl, sym, ◌∙◌, ap, subst, arith, pow-suc, length-take, length-append, add-one}
use Rattle.std.proofs.lemmas.Bool.{ne_eqb, lt-ltb, le-ltb}
use Rattle.std.proofs.lemmas.Bool.Decides.{Decides-eqb, Decides-ltb, Decides-like, same_from_decides}
use Rattle.std.proofs.lemmas.List.{take_more}
use Rattle.std.proofs.lemmas.List.Elements.{All-head, All-tail, All-weaker, All-push, All-map}
use Rattle.std.specs.List.{All}
use Rattle.hk_cnf.specs.Literal.{IsWithin, IsLiteral, place_of}
use Rattle.hk_cnf.proofs.CircuitLaws.{IsWithin-neg}
use Rattle.hk_circuit.proofs.Negated.{value_negated}
use Rattle.hk_cnf.specs.Circuit.{Circuit, gate_value}
use Rattle.hk_circuit.specs.Words.{bit, gate_number, differ, majority}

pub within_more : (n m : ℕ) (ls : List ℤ) → n ≤ m → All (IsWithin n) ls → All (IsWithin m) ls
within_more n m ls h w = All-weaker (IsWithin n) (IsWithin m) (λ l k. record { literal = k.literal; below = omega (arith, k.below) }) ls w

-- a word keeps its number in a circuit that has grown
pub number-same : (c d : Circuit) (n : ℕ) (ls : List ℤ) → All (IsWithin n) ls → ((l : ℤ) → place_of l < n → (v : ℕ → Bool) → gate_value d l v ≡ gate_value c l v) → (v : ℕ → Bool) → gate_number d ls v ≡ gate_number c ls v
number-same c d n [] w e v = refl
number-same c d n (l ∷ ls) w e v =
    let i : IsWithin n l = All-head (IsWithin n) l ls w in
    let x : gate_value d l v ≡ gate_value c l v = e l i.below v in
    let y : gate_number d ls v ≡ gate_number c ls v = number-same c d n ls (All-tail (IsWithin n) l ls w) e v in
    λ j. bit (x j) + 2 * y j

double : (p x y : ℕ) → x + 2 * (y + p) ≡ (x + 2 * y) + 2 * p
double p x y = omega arith

pub number-push : (c : Circuit) (ls : List ℤ) (l : ℤ) (v : ℕ → Bool) → gate_number c (ls ++ l ∷ []) v ≡ gate_number c ls v + 2 ^ length ls * bit (gate_value c l v)
number-push c [] l v = omega arith
number-push c (k ∷ ls) l v =
    let p : ℕ = 2 ^ length ls in let b : ℕ = bit (gate_value c l v) in
    ap (λ x. bit (gate_value c k v) + 2 * x) (number-push c ls l v)
    ∙ (double (p * b) (bit (gate_value c k v)) (gate_number c ls v)
    ∙ ap (λ x. bit (gate_value c k v) + 2 * gate_number c ls v + x) (power (length ls) b))
  where
    power : (n b : ℕ) → 2 * (2 ^ n * b) ≡ 2 ^ suc n * b
    power n b = let e : 2 ^ suc n * b ≡ (2 ^ n * 2) * b = ap (λ x. x * b) (pow-suc 2 n) in omega (arith, e)

pub bit-below : (b : Bool) → bit b ≤ 1
bit-below true = omega arith
bit-below false = omega arith

pub number-below : (c : Circuit) (ls : List ℤ) (v : ℕ → Bool) → gate_number c ls v < 2 ^ length ls
number-below c [] v = omega arith
number-below c (l ∷ ls) v = omega (arith, number-below c ls v, bit-below (gate_value c l v), pow-suc 2 (length ls))

-- one more bit of a front
pub number-more : (c : Circuit) (ls : List ℤ) (i : ℕ) (d : ℤ) (v : ℕ → Bool) → i < length ls → gate_number c (take (i + 1) ls) v ≡ gate_number c (take i ls) v + 2 ^ i * bit (gate_value c (get_or ls i d) v)
number-more c ls i d v h =
    ap (λ x. gate_number c x v) (take_more ls i d h) ∙ (number-push c (take i ls) (get_or ls i d) v ∙ ap (λ n. gate_number c (take i ls) v + 2 ^ n * bit (gate_value c (get_or ls i d) v)) (size h))
  where
    size : i < length ls → length (take i ls) ≡ i
    size k = omega (arith, length-take i ls)

pub full_add-number : (a b c : Bool) → bit (differ (differ a b) c) + 2 * bit (majority a b c) ≡ bit a + bit b + bit c
full_add-number true true true = refl
full_add-number true true false = refl
full_add-number true false true = refl
full_add-number true false false = refl
full_add-number false true true = refl
full_add-number false true false = refl
full_add-number false false true = refl
full_add-number false false false = refl

-- one digit of a sum
pub sum-step : (s x y z p : ℕ) (d k a b c : ℕ) → s + p * c ≡ x + y + z → d + 2 * k ≡ a + b + c → (s + p * d) + 2 * p * k ≡ (x + p * a) + (y + p * b) + z
sum-step s x y z p d k a b c e f =
    let g : p * (d + 2 * k) ≡ p * (a + b + c) = ap (λ n. p * n) f in omega (arith, e, g)

-- words grow by a bit each
pub number-pushed : (c d : Circuit) (n i : ℕ) (word : List ℤ) (l : ℤ) (v : ℕ → Bool) → length word ≡ i → All (IsWithin n) word → ((x : ℤ) → place_of x < n → (u : ℕ → Bool) → gate_value d x u ≡ gate_value c x u)
    → gate_number d (word ++ l ∷ []) v ≡ gate_number c word v + 2 ^ i * bit (gate_value d l v)
number-pushed c d n i word l v e w k =
    number-push d word l v ∙ ((λ j. number-same c d n word w k v j + 2 ^ e j * bit (gate_value d l v)))

twice : (i : ℕ) → 2 ^ (i + 1) ≡ 2 * 2 ^ i
twice i = rw add-one (omega (arith, pow-suc 2 i))

-- one step of a ripple adder
pub add-step : (c0 c1 c2 : Circuit) (i : ℕ) (word a b : List ℤ) (x y k s k' : ℤ) (z : (ℕ → Bool) → ℕ)
    → length word ≡ i → All (IsWithin c1.vars) word → i < length a → i < length b → x ≡ get_or a i x → y ≡ get_or b i y
    → IsWithin c0.vars x → IsWithin c0.vars y
    → ((l : ℤ) → place_of l < c0.vars → (v : ℕ → Bool) → gate_value c1 l v ≡ gate_value c0 l v)
    → ((l : ℤ) → place_of l < c1.vars → (v : ℕ → Bool) → gate_value c2 l v ≡ gate_value c1 l v)
    → ((v : ℕ → Bool) → gate_value c2 s v ≡ differ (differ (gate_value c1 x v) (gate_value c1 y v)) (gate_value c1 k v))
    → ((v : ℕ → Bool) → gate_value c2 k' v ≡ majority (gate_value c1 x v) (gate_value c1 y v) (gate_value c1 k v))
    → ((v : ℕ → Bool) → gate_number c1 word v + 2 ^ i * bit (gate_value c1 k v) ≡ gate_number c0 (take i a) v + gate_number c0 (take i b) v + z v)
    → (v : ℕ → Bool) → gate_number c2 (word ++ s ∷ []) v + 2 ^ (i + 1) * bit (gate_value c2 k' v) ≡ gate_number c0 (take (i + 1) a) v + gate_number c0 (take (i + 1) b) v + z v
add-step c0 c1 c2 i word a b x y k s k' z n w ha hb ex ey wx wy k01 k12 es ek e v =
    let f : bit (gate_value c2 s v) + 2 * bit (gate_value c2 k' v) ≡ bit (gate_value c1 x v) + bit (gate_value c1 y v) + bit (gate_value c1 k v) =
    (λ j. bit (es v j) + 2 * bit (ek v j)) ∙ full_add-number (gate_value c1 x v) (gate_value c1 y v) (gate_value c1 k v) in
    let g : bit (gate_value c2 s v) + 2 * bit (gate_value c2 k' v) ≡ bit (gate_value c0 x v) + bit (gate_value c0 y v) + bit (gate_value c1 k v) =
    f ∙ (λ j. bit (k01 x wx.below v j) + bit (k01 y wy.below v j) + bit (gate_value c1 k v)) in
    let step : (gate_number c1 word v + 2 ^ i * bit (gate_value c2 s v)) + 2 * 2 ^ i * bit (gate_value c2 k' v) ≡ (gate_number c0 (take i a) v + 2 ^ i * bit (gate_value c0 x v)) + (gate_number c0 (take i b) v + 2 ^ i * bit (gate_value c0 y v)) + z v =
    sum-step (gate_number c1 word v) (gate_number c0 (take i a) v) (gate_number c0 (take i b) v) (z v) (2 ^ i) (bit (gate_value c2 s v)) (bit (gate_value c2 k' v)) (bit (gate_value c0 x v)) (bit (gate_value c0 y v)) (bit (gate_value c1 k v)) (e v) g in
    let ma : gate_number c0 (take (i + 1) a) v ≡ gate_number c0 (take i a) v + 2 ^ i * bit (gate_value c0 x v) =
    number-more c0 a i x v ha ∙ ap (λ l. gate_number c0 (take i a) v + 2 ^ i * bit (gate_value c0 l v)) (sym ex) in
    let mb : gate_number c0 (take (i + 1) b) v ≡ gate_number c0 (take i b) v + 2 ^ i * bit (gate_value c0 y v) =
    number-more c0 b i y v hb ∙ ap (λ l. gate_number c0 (take i b) v + 2 ^ i * bit (gate_value c0 l v)) (sym ey) in
    (λ j. number-pushed c1 c2 c1.vars i word s v n w k12 j + twice i j * bit (gate_value c2 k' v)) ∙ (step ∙ (λ j. sym ma j + sym mb j + z v))

pub within-push : (n m : ℕ) (word : List ℤ) (l : ℤ) → n ≤ m → All (IsWithin n) word → IsWithin m l → All (IsWithin m) (word ++ l ∷ [])
within-push n m word l h w k = All-push (IsWithin m) word l (within_more n m word h w) k

pub size-push : (word more : List ℤ) (l : ℤ) (i : ℕ) → more ≡ word ++ l ∷ [] → length word ≡ i → length more ≡ i + 1
size-push word more l i e h = ap length e ∙ (length-append word (l ∷ []) ∙ ap (λ n. n + 1) h)

-- a literal of a word
pub at : (n : ℕ) (ls : List ℤ) (i : ℕ) (x : ℤ) → All (IsWithin n) ls → i < length ls → x ≡ get_or ls i x → IsWithin n x
at n ls i x w h e = subst (IsWithin n) (sym e) (w i x h)

-- earlier literals keep their values over two steps
pub through : (c d e : Circuit) → c.vars ≤ d.vars → ((l : ℤ) → place_of l < c.vars → (v : ℕ → Bool) → gate_value d l v ≡ gate_value c l v)
    → ((l : ℤ) → place_of l < d.vars → (v : ℕ → Bool) → gate_value e l v ≡ gate_value d l v) → (l : ℤ) → place_of l < c.vars → (v : ℕ → Bool) → gate_value e l v ≡ gate_value c l v
through c d e h k m l b v = m l (omega (arith, b, h)) v ∙ k l b v

pub words : (c d : Circuit) → ((l : ℤ) → place_of l < c.vars → (v : ℕ → Bool) → gate_value d l v ≡ gate_value c l v) → (ls : List ℤ) → All (IsWithin c.vars) ls → (v : ℕ → Bool) → gate_number d ls v ≡ gate_number c ls v
words c d k ls w v = number-same c d c.vars ls w k v

-- one more bit of two numbers that are compared
and-true : (x : Bool) → (x && true) ≡ x
and-true true = refl
and-true false = refl

and-false : (x : Bool) → (x && false) ≡ false
and-false true = refl
and-false false = refl

same-eqb : (a b c d : ℕ) → (a ≡ b → c ≡ d) → (c ≡ d → a ≡ b) → eqb a b ≡ eqb c d
same-eqb a b c d f g = same_from_decides (eqb a b) (eqb c d) (Decides-eqb a b) (Decides-like (eqb c d) g f (Decides-eqb c d))

same-ltb : (a b c d : ℕ) → (a < b → c < d) → (c < d → a < b) → ltb a b ≡ ltb c d
same-ltb a b c d f g = same_from_decides (ltb a b) (ltb c d) (Decides-ltb a b) (Decides-like (ltb c d) g f (Decides-ltb c d))

pub equal-step : (s x y : Bool) (a b p : ℕ) → a < p → b < p → ((s && eqb a b) && not (differ x y)) ≡ (s && eqb (a + p * bit x) (b + p * bit y))
equal-step s true true a b p h k = and-true (s && eqb a b) ∙ ap (λ t. s && t) (same-eqb a b (a + p * 1) (b + p * 1) (λ e. omega (arith, e)) (λ e. omega (arith, e)))
equal-step s true false a b p h k = and-false (s && eqb a b) ∙ (sym (and-false s) ∙ ap (λ t. s && t) (sym (ne_eqb (a + p * 1) (b + p * 0) (λ e. absurd (omega (arith, e, h, k))))))
equal-step s false true a b p h k = and-false (s && eqb a b) ∙ (sym (and-false s) ∙ ap (λ t. s && t) (sym (ne_eqb (a + p * 0) (b + p * 1) (λ e. absurd (omega (arith, e, h, k))))))
equal-step s false false a b p h k = and-true (s && eqb a b) ∙ ap (λ t. s && t) (same-eqb a b (a + p * 0) (b + p * 0) (λ e. omega (arith, e)) (λ e. omega (arith, e)))

abbrev pub below : Bool → ℕ → ℕ → Bool
below o a b = if o then not (nat_lt b a) else nat_lt a b

pub less-step : (o x y : Bool) (a b p : ℕ) → a < p → b < p → ((not x && y) || (below o a b && not (x && not y))) ≡ below o (a + p * bit x) (b + p * bit y)
less-step true true true a b p h k = and-true (not (ltb b a)) ∙ ap not (same-ltb b a (b + p * 1) (a + p * 1) (λ e. omega (arith, e)) (λ e. omega (arith, e)))
less-step false true true a b p h k = and-true (ltb a b) ∙ same-ltb a b (a + p * 1) (b + p * 1) (λ e. omega (arith, e)) (λ e. omega (arith, e))
less-step true false false a b p h k = and-true (not (ltb b a)) ∙ ap not (same-ltb b a (b + p * 0) (a + p * 0) (λ e. omega (arith, e)) (λ e. omega (arith, e)))
less-step false false false a b p h k = and-true (ltb a b) ∙ same-ltb a b (a + p * 0) (b + p * 0) (λ e. omega (arith, e)) (λ e. omega (arith, e))
less-step true true false a b p h k = and-false (not (ltb b a)) ∙ ap not (sym (lt-ltb (b + p * 0) (a + p * 1) (omega (arith, h, k))))
less-step false true false a b p h k = and-false (ltb a b) ∙ sym (le-ltb (a + p * 1) (b + p * 0) (omega (arith, h, k)))
less-step true false true a b p h k = ap not (sym (le-ltb (b + p * 1) (a + p * 0) (omega (arith, h, k))))
less-step false false true a b p h k = sym (lt-ltb (a + p * 0) (b + p * 1) (omega (arith, h, k)))

pub choose-step : (t x y z : Bool) (a b n p : ℕ) → n ≡ (if t then a else b) → z ≡ (if t then x else y) → n + p * bit z ≡ (if t then a + p * bit x else b + p * bit y)
choose-step true x y z a b n p e f = λ j. e j + p * bit (f j)
choose-step false x y z a b n p e f = λ j. e j + p * bit (f j)

-- a front of a word, and its next bit read in an earlier circuit
pub front-below : (c : Circuit) (ls : List ℤ) (i : ℕ) (v : ℕ → Bool) → i ≤ length ls → gate_number c (take i ls) v < 2 ^ i
front-below c ls i v h =
    let n : length (take i ls) ≡ i = omega (arith, length-take i ls) in subst (λ k. gate_number c (take i ls) v < 2 ^ k) n (number-below c (take i ls) v)

pub number-next : (c d : Circuit) (ls : List ℤ) (i : ℕ) (x : ℤ) (v : ℕ → Bool) → i < length ls → x ≡ get_or ls i x → gate_value d x v ≡ gate_value c x v → gate_number c (take (i + 1) ls) v ≡ gate_number c (take i ls) v + 2 ^ i * bit (gate_value d x v)
number-next c d ls i x v h e k =
    number-more c ls i x v h ∙ (λ j. gate_number c (take i ls) v + 2 ^ i * bit ((ap (λ l. gate_value c l v) (sym e) ∙ sym k) j))

-- the complement
pub number-complement : (c : Circuit) (ls : List ℤ) (v : ℕ → Bool) → All IsLiteral ls → gate_number c (map neg_ℤ ls) v ≡ 2 ^ length ls - 1 - gate_number c ls v
number-complement c [] v w = omega arith
number-complement c (l ∷ ls) v w =
    let n : ℕ = gate_number c ls v in
    let rest : gate_number c (map neg_ℤ ls) v ≡ 2 ^ length ls - 1 - n = number-complement c ls v (All-tail IsLiteral l ls w) in
    (λ j. bit (value_negated c l v (All-head IsLiteral l ls w) j) + 2 * rest j)
    ∙ (step (gate_value c l v) n (2 ^ length ls) (number-below c ls v) ∙ ap (λ p. p - 1 - (bit (gate_value c l v) + 2 * n)) (power (length ls)))
  where
    power : (k : ℕ) → 2 * 2 ^ k ≡ 2 ^ suc k
    power k = omega (arith, pow-suc 2 k)

    step : (x : Bool) (n p : ℕ) → n < p → bit (not x) + 2 * (p - 1 - n) ≡ 2 * p - 1 - (bit x + 2 * n)
    step true n p h = omega (arith, h)
    step false n p h = omega (arith, h)

pub complement-within : (n : ℕ) (ls : List ℤ) → All (IsWithin n) ls → All (IsWithin n) (map neg_ℤ ls)
complement-within n ls w = All-map (IsWithin n) neg_ℤ ls (All-weaker (IsWithin n) (λ l. IsWithin n (neg_ℤ l)) (λ l k. IsWithin-neg n l k) ls w)
