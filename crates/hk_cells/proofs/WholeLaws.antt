-- Numbers in whole cells.
use Rattle.std.proofs.Common.{◌≡◌, ℕ, zero, suc, ◌+◌, ◌*◌, ◌/◌, ◌%◌, ◌^◌, ◌<◌, ◌≤◌, List, sym, ◌∙◌, ap, subst, arith}
use Rattle.std.specs.Prelude.{slice_index}
use Rattle.std.proofs.Math.Nat.{mod-eq_of_lt, mod-mod}
use Rattle.std.proofs.lemmas.Nat.{pow-add, mod-pow-add}
use Rattle.ir_layout.specs.Bytes.{IsWidth, number_at}
use Rattle.hk_symmem.specs.Origins.{cells, object_from}
use Rattle.hk_symmem.proofs.Numbers.{bits_of_bytes, number_more}
use Rattle.hk_symmem.proofs.Wholes.{by_width}
use Rattle.hk_cells.proofs.CutLaws.{byte_there}

-- bytes behind others
number_split : (n m p : ℕ) (b : List ℕ) → number_at (m + n) p b ≡ number_at n (p + m) b * 256 ^ m + number_at m p b
number_split zero m p b = ap (λ k. number_at k p b) (none m) ∙ nothing (256 ^ m) (number_at m p b)
  where
    none : (m : ℕ) → m + 0 ≡ m
    none m = omega arith

    nothing : (q r : ℕ) → r ≡ 0 * q + r
    nothing q r = omega arith
number_split (suc n) m p b =
    ap (λ k. number_at k p b) (more m n) ∙ number_more (m + n) p b
    ∙ ap (λ r. slice_index b (p + (m + n)) * 256 ^ (m + n) + r) (number_split n m p b)
    ∙ ap (λ k. slice_index b k * 256 ^ (m + n) + (number_at n (p + m) b * 256 ^ m + number_at m p b)) (place p m n)
    ∙ gathered (slice_index b (p + m + n)) (256 ^ (m + n)) (256 ^ m) (256 ^ n) (number_at n (p + m) b) (number_at m p b) (pow-add 256 m n)
    ∙ ap (λ x. x * 256 ^ m + number_at m p b) (sym (number_more n (p + m) b))
  where
    more : (m n : ℕ) → m + suc n ≡ suc (m + n)
    more m n = omega arith

    place : (p m n : ℕ) → p + (m + n) ≡ p + m + n
    place p m n = omega arith

    gathered : (s t q u x y : ℕ) → t ≡ q * u → s * t + (x * q + y) ≡ (s * u + x) * q + y
    gathered s t q u x y e = ap (λ t. s * t + (x * q + y)) e ∙ grind arith

-- a place in a cell
in_cell : (c j n : ℕ) → IsWidth c → n < c → (c * j + n) / c ≡ j
in_cell c j n i = by_width (λ c. n < c → (c * j + n) / c ≡ j) (λ l. omega (arith, l)) (λ l. omega (arith, l)) (λ l. omega (arith, l)) (λ l. omega (arith, l)) c i

of_cell : (c j n : ℕ) → IsWidth c → n < c → (c * j + n) % c ≡ n
of_cell c j n i = by_width (λ c. n < c → (c * j + n) % c ≡ n) (λ l. omega (arith, l)) (λ l. omega (arith, l)) (λ l. omega (arith, l)) (λ l. omega (arith, l)) c i

-- one more byte of a number
byte_more : (x n : ℕ) → (x / 256 ^ n % 256) * 256 ^ n + x % 256 ^ n ≡ x % 256 ^ suc n
byte_more x n =
    (λ i. (x / sym (bits_of_bytes n) i % 256) * sym (bits_of_bytes n) i + x % sym (bits_of_bytes n) i)
    ∙ sym (mod-pow-add x 8 (8 * n)) ∙ ap (λ k. x % 2 ^ k) (more n) ∙ ap (λ q. x % q) (bits_of_bytes (suc n))
  where
    more : (n : ℕ) → 8 + 8 * n ≡ 8 * suc n
    more n = omega arith

-- the first bytes of a cell
part_of_cell : (c : ℕ) (a : ℕ → ℕ) (size j n : ℕ) → IsWidth c → n ≤ c → c * j + c ≤ size → number_at n (c * j) (object_from (cells size c) a) ≡ a j % 2 ^ (8 * c) % 256 ^ n
part_of_cell c a size j zero i l there = none (a j % 2 ^ (8 * c))
  where
    none : (x : ℕ) → 0 ≡ x % 256 ^ 0
    none x = omega arith
part_of_cell c a size j (suc n) i l there =
    number_more n (c * j) (object_from (cells size c) a)
    ∙ ap (λ b. b * 256 ^ n + number_at n (c * j) (object_from (cells size c) a)) (byte_there c a size (c * j + n) (within (c * j) there) ∙ (λ k. a (in_cell c j n i l k) % 2 ^ (8 * c) / 256 ^ of_cell c j n i l k % 256))
    ∙ ap (λ r. (a j % 2 ^ (8 * c) / 256 ^ n % 256) * 256 ^ n + r) (part_of_cell c a size j n i (omega (arith, l)) there)
    ∙ byte_more (a j % 2 ^ (8 * c)) n
  where
    within : (q : ℕ) → q + c ≤ size → q + n < size
    within q h = omega (arith, l, h)

-- a whole cell
whole_cell : (c : ℕ) (a : ℕ → ℕ) (size j : ℕ) → IsWidth c → c * j + c ≤ size → number_at c (c * j) (object_from (cells size c) a) ≡ a j % 2 ^ (8 * c)
whole_cell c a size j i there = part_of_cell c a size j c i (omega arith) there ∙ ap (λ q. a j % 2 ^ (8 * c) % q) (sym (bits_of_bytes c)) ∙ twice (a j) (2 ^ (8 * c))
  where
    twice : (x q : ℕ) → x % q % q ≡ x % q
    twice x q = mod-mod x q

-- ---- the cells of a number

-- the first of them
pub first_cell : (c m size p o index new : ℕ) (a : ℕ → ℕ) → IsWidth c → index ≡ o / c → o ≡ p → p % c ≡ 0 → c ≤ m → p + m ≤ size → new ≡ a index % 2 ^ (8 * c) → new ≡ number_at (c * 1) p (object_from (cells size c) a)
first_cell c m size p o index new a i at same multiple some there is =
    is ∙ ap (λ j. a j % 2 ^ (8 * c)) (at ∙ ap (λ q. q / c) same)
    ∙ sym (whole_cell c a size (p / c) i (subst (λ q. q + c ≤ size) (sym (whole_place c p i multiple)) (omega (arith, some, there))))
    ∙ (λ k. number_at (once c k) (whole_place c p i multiple k) (object_from (cells size c) a))
  where
    once : (c : ℕ) → c ≡ c * 1
    once c = omega arith

    whole_place : (c p : ℕ) → IsWidth c → p % c ≡ 0 → c * (p / c) ≡ p
    whole_place c p = by_width (λ c. p % c ≡ 0 → c * (p / c) ≡ p) (λ e. omega arith) (λ e. omega (arith, e)) (λ e. omega (arith, e)) (λ e. omega (arith, e)) c

-- there is room for one more
pub room_for : (c m k : ℕ) → IsWidth c → IsWidth m → k < m / c → c * k + c ≤ 8
room_for c m k i j l = by_width (λ c. k < m / c → c * k + c ≤ 8) (λ l. omega (arith, l, small)) (λ l. omega (arith, l, small)) (λ l. omega (arith, l, small)) (λ l. omega (arith, l, small)) c i l
  where
    small : m ≤ 8
    small = by_width (λ m. m ≤ 8) (omega arith) (omega arith) (omega arith) (omega arith) m j

-- one more
pub next_cell : (c m size p k index made new : ℕ) (a : ℕ → ℕ) → IsWidth c → k < m / c → size < 2 ^ 64 → p % c ≡ 0 → p + m ≤ size → index ≡ p / c
    → made ≡ number_at (c * k) p (object_from (cells size c) a) → new ≡ a ((index + k) % 2 ^ 64) % 2 ^ (8 * c) * 256 ^ (c * k) + made
    → new ≡ number_at (c * (k + 1)) p (object_from (cells size c) a)
next_cell c m size p k index made new a i l room multiple there at rest is =
    is ∙ (λ h. a (place h) % 2 ^ (8 * c) * 256 ^ (c * k) + rest h)
    ∙ ap (λ x. x * 256 ^ (c * k) + number_at (c * k) p (object_from (cells size c) a)) (sym (whole_cell c a size (p / c + k) i within) ∙ ap (λ q. number_at c q (object_from (cells size c) a)) on)
    ∙ sym (number_split c (c * k) p (object_from (cells size c) a)) ∙ ap (λ n. number_at n p (object_from (cells size c) a)) (more c k)
  where
    more : (c k : ℕ) → c * k + c ≡ c * (k + 1)
    more c k = grind arith

    on : c * (p / c + k) ≡ p + c * k
    on = by_width (λ c. p % c ≡ 0 → c * (p / c + k) ≡ p + c * k) (λ e. omega arith) (λ e. omega (arith, e)) (λ e. omega (arith, e)) (λ e. omega (arith, e)) c i multiple

    within : c * (p / c + k) + c ≤ size
    within = by_width (λ c. p % c ≡ 0 → k < m / c → c * (p / c + k) + c ≤ size) (λ e l. omega (arith, l, there)) (λ e l. omega (arith, e, l, there)) (λ e l. omega (arith, e, l, there)) (λ e l. omega (arith, e, l, there)) c i multiple l

    below : p / c + k < 2 ^ 64
    below = by_width (λ c. k < m / c → p / c + k < 2 ^ 64) (λ l. omega (arith, l, there, room)) (λ l. omega (arith, l, there, room)) (λ l. omega (arith, l, there, room)) (λ l. omega (arith, l, there, room)) c i l

    place : (index + k) % 2 ^ 64 ≡ p / c + k
    place = ap (λ q. (q + k) % 2 ^ 64) at ∙ mod-eq_of_lt below

-- all of them
pub all_cells : (c m k : ℕ) → IsWidth c → m % c ≡ 0 → k ≡ m / c → c * k ≡ m
all_cells c m k i e at = ap (λ k. c * k) at ∙ by_width (λ c. m % c ≡ 0 → c * (m / c) ≡ m) (λ e. omega arith) (λ e. omega (arith, e)) (λ e. omega (arith, e)) (λ e. omega (arith, e)) c i e

-- there is one
pub one_cell : (c m : ℕ) → IsWidth c → IsWidth m → m % c ≡ 0 → 1 ≤ m / c
one_cell c m i j e = by_width (λ c. m % c ≡ 0 → 1 ≤ m / c) (λ e. omega (arith, some)) (λ e. omega (arith, e, some)) (λ e. omega (arith, e, some)) (λ e. omega (arith, e, some)) c i e
  where
    some : 0 < m
    some = by_width (λ m. 0 < m) (omega arith) (omega arith) (omega arith) (omega arith) m j

pub at_least_cell : (c m : ℕ) → IsWidth c → IsWidth m → m % c ≡ 0 → c ≤ m
at_least_cell c m i j e = by_width (λ c. m % c ≡ 0 → c ≤ m) (λ e. omega (arith, some)) (λ e. omega (arith, e, some)) (λ e. omega (arith, e, some)) (λ e. omega (arith, e, some)) c i e
  where
    some : 0 < m
    some = by_width (λ m. 0 < m) (omega arith) (omega arith) (omega arith) (omega arith) m j
