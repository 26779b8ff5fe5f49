-- Laws of the order of numbers that were extended by copies of the sign.
use Rattle.std.proofs.Common.{◌≡◌, not, ◌+◌, ◌-◌, ◌*◌, ◌/◌, ◌^◌, ◌<◌, ◌≤◌, ◌⊎◌, ℕ, nat_lt, bit_and, Bool, if◌then◌else◌, true, false, arith, ap, sym, ◌∙◌, refl, subst, inl, inr}
use Rattle.std.proofs.Math.Nat.{mod-eq_of_lt, div-add-mod', div-lt_iff_lt-mul, mul-le-mul_left, mul-le-mul_right}
use Rattle.std.proofs.Math.Pow.{pow_mono}
use Rattle.std.proofs.lemmas.Bool.{cases_lt, lt-ltb, le-ltb, ltb-true, ltb-false}
use Rattle.std.proofs.lemmas.Nat.{and_mask, pow-add, pow_pos}
use Rattle.hk_num.specs.Numbers.{number_of, sign_extend}
use Rattle.hk_num.proofs.Readings.{reading_low, reading_high, halves}

nat_lt-iff : (a b c d : ℕ) → (a < b → c < d) → (c < d → a < b) → nat_lt a b ≡ nat_lt c d
nat_lt-iff a b c d there back = by (cases_lt a b) (cases_lt c d)
  where
    by : (a < b) ⊎ (b ≤ a) → (c < d) ⊎ (d ≤ c) → nat_lt a b ≡ nat_lt c d
    by (inl h) k = lt-ltb a b h ∙ sym (lt-ltb c d (there h))
    by (inr h) (inl k) = absurd (let less = back k in omega (arith, less, h))
    by (inr h) (inr k) = le-ltb a b h ∙ sym (le-ltb c d k)

-- the number of an extension: itself, or above by the difference of the widths
extended : (u w x : ℕ) → u ≤ w → x < 2 ^ u → ((x < 2 ^ (u - 1)) × (sign_extend u w x ≡ x)) ⊎ ((2 ^ (u - 1) ≤ x) × (sign_extend u w x + 2 ^ u ≡ 2 ^ w + x))
extended u w x wider below = by (cases_lt x (2 ^ (u - 1)))
  where
    by : (x < 2 ^ (u - 1)) ⊎ (2 ^ (u - 1) ≤ x) → ((x < 2 ^ (u - 1)) × (sign_extend u w x ≡ x)) ⊎ ((2 ^ (u - 1) ≤ x) × (sign_extend u w x + 2 ^ u ≡ 2 ^ w + x))
    by (inl low) =
        let fits : x < 2 ^ w = omega (arith, below, pow_mono wider) in
        inl (low, ap (number_of w) (reading_low u x low) ∙ mod-eq_of_lt fits)
    by (inr high) =
        let wide : 2 ^ u ≤ 2 ^ w = pow_mono wider in
        let fits : 2 ^ u - 1 - x < 2 ^ w = omega (arith, wide, below) in
        let is : sign_extend u w x ≡ 2 ^ w - 1 - (2 ^ u - 1 - x) = ap (number_of w) (reading_high u x high) ∙ ap (λ k. 2 ^ w - 1 - k) (mod-eq_of_lt fits) in
        inr (high, omega (arith, is, wide, below))

-- the limit of the numbers of the smaller width
pub limit_law : (u w n m x : ℕ) → 1 ≤ u → u ≤ w → x < 2 ^ u → ((n ≤ 2 ^ (u - 1)) × (m ≡ n)) ⊎ (((2 ^ (u - 1) < n) × (n + 2 ^ u ≤ 2 ^ w + 2 ^ (u - 1)) × (m ≡ 2 ^ (u - 1))) ⊎ ((2 ^ w + 2 ^ (u - 1) < n + 2 ^ u) × (m + 2 ^ w ≡ n + 2 ^ u))) → nat_lt x m ≡ nat_lt (sign_extend u w x) n
limit_law u w n m x some wider below limit = by (extended u w x wider below) limit
  where
    wide : 2 ^ u ≤ 2 ^ w
    wide = pow_mono wider

    two : 2 ^ u ≡ 2 ^ (u - 1) + 2 ^ (u - 1)
    two = halves u some

    by : ((x < 2 ^ (u - 1)) × (sign_extend u w x ≡ x)) ⊎ ((2 ^ (u - 1) ≤ x) × (sign_extend u w x + 2 ^ u ≡ 2 ^ w + x)) → ((n ≤ 2 ^ (u - 1)) × (m ≡ n)) ⊎ (((2 ^ (u - 1) < n) × (n + 2 ^ u ≤ 2 ^ w + 2 ^ (u - 1)) × (m ≡ 2 ^ (u - 1))) ⊎ ((2 ^ w + 2 ^ (u - 1) < n + 2 ^ u) × (m + 2 ^ w ≡ n + 2 ^ u))) → nat_lt x m ≡ nat_lt (sign_extend u w x) n
    by (inl p) (inl q) = nat_lt-iff x m (sign_extend u w x) n (λ h. omega (arith, h, p.1, q.1)) (λ h. omega (arith, h, p.1, q.1))
    by (inl p) (inr (inl q)) = nat_lt-iff x m (sign_extend u w x) n (λ h. omega (arith, p.0, p.1, q.0)) (λ h. omega (arith, p.0, q.2))
    by (inl p) (inr (inr q)) = nat_lt-iff x m (sign_extend u w x) n (λ h. omega (arith, p.0, p.1, q.0, wide, two)) (λ h. omega (arith, p.0, q.0, q.1))
    by (inr p) (inl q) = nat_lt-iff x m (sign_extend u w x) n (λ h. omega (arith, h, p.0, q.0, q.1)) (λ h. omega (arith, h, p.0, p.1, q.0, wide))
    by (inr p) (inr (inl q)) = nat_lt-iff x m (sign_extend u w x) n (λ h. omega (arith, h, p.0, q.2)) (λ h. omega (arith, h, p.0, p.1, q.1))
    by (inr p) (inr (inr q)) = nat_lt-iff x m (sign_extend u w x) n (λ h. omega (arith, h, p.1, q.1)) (λ h. omega (arith, h, p.1, q.1))

-- half of the numbers of a width
pub half_is : (u : ℕ) → 1 ≤ u → (2 ^ u - 1) / 2 + 1 ≡ 2 ^ (u - 1)
half_is u some = omega (arith, halves u some, pow_pos (u - 1))

-- ---- what is below the next number, and a concatenation

pub next_below : (a n : ℕ) → not (nat_lt a (n + 1)) ≡ nat_lt n a
next_below a n = by (cases_lt n a)
  where
    by : (n < a) ⊎ (a ≤ n) → not (nat_lt a (n + 1)) ≡ nat_lt n a
    by (inl h) =
        let above : n + 1 ≤ a = omega (arith, h) in
        ap not (le-ltb a (n + 1) above) ∙ sym (lt-ltb n a h)
    by (inr h) =
        let less : a < n + 1 = omega (arith, h) in
        ap not (lt-ltb a (n + 1) less) ∙ sym (le-ltb n a h)

-- where the lower part is below, so are the parts where the upper one is at most equal
pub upper_below : (p x y h l : ℕ) → y < l → l < p → nat_lt x (h + 1) ≡ nat_lt (x * p + y) (h * p + l)
upper_below p x y h l less small = nat_lt-iff x (h + 1) (x * p + y) (h * p + l) there (λ k. back k (cases_lt x (h + 1)))
  where
    there : x < h + 1 → x * p + y < h * p + l
    there k = let m : x * p ≤ h * p = mul-le-mul_right p (omega (arith, k)) in omega (arith, m, less)

    back : x * p + y < h * p + l → (x < h + 1) ⊎ (h + 1 ≤ x) → x < h + 1
    back k (inl q) = q
    back k (inr q) = absurd (let m : (h + 1) * p ≤ x * p = mul-le-mul_right p q in omega (arith, m, k, small))

-- where it is not, where the upper one is below
pub upper_above : (p x y h l : ℕ) → l ≤ y → y < p → nat_lt x h ≡ nat_lt (x * p + y) (h * p + l)
upper_above p x y h l most small = nat_lt-iff x h (x * p + y) (h * p + l) there (λ k. back k (cases_lt x h))
  where
    there : x < h → x * p + y < h * p + l
    there k = let m : (x + 1) * p ≤ h * p = mul-le-mul_right p (omega (arith, k)) in omega (arith, m, small)

    back : x * p + y < h * p + l → (x < h) ⊎ (h ≤ x) → x < h
    back k (inl q) = q
    back k (inr q) = absurd (let m : h * p ≤ x * p = mul-le-mul_right p q in omega (arith, m, k, most))

-- behind a lower, an equal and a higher upper part
pub behind_lower : (p c y h l : ℕ) → c < h → y < p → nat_lt y p ≡ nat_lt (c * p + y) (h * p + l)
behind_lower p c y h l less small =
    let m : (c + 1) * p ≤ h * p = mul-le-mul_right p (omega (arith, less)) in
    lt-ltb y p small ∙ sym (lt-ltb (c * p + y) (h * p + l) (omega (arith, m, small)))

pub behind_equal : (p c y h l : ℕ) → c ≡ h → nat_lt y l ≡ nat_lt (c * p + y) (h * p + l)
behind_equal p c y h l same =
    let m : c * p ≡ h * p = ap (λ k. k * p) same in
    nat_lt-iff y l (c * p + y) (h * p + l) (λ k. omega (arith, k, m)) (λ k. omega (arith, k, m))

pub behind_higher : (p c y h l : ℕ) → h < c → l < p → nat_lt y 0 ≡ nat_lt (c * p + y) (h * p + l)
behind_higher p c y h l more small =
    let m : (h + 1) * p ≤ c * p = mul-le-mul_right p (omega (arith, more)) in
    le-ltb y 0 (omega arith) ∙ sym (le-ltb (c * p + y) (h * p + l) (omega (arith, m, small)))

-- the parts of a number
pub parts_whole : (u n low : ℕ) → low ≡ bit_and n (2 ^ u - 1) → n / 2 ^ u * 2 ^ u + low ≡ n
parts_whole u n low is = ap (λ k. n / 2 ^ u * 2 ^ u + k) (is ∙ and_mask n u) ∙ div-add-mod' n (2 ^ u)

pub high_small : (u n : ℕ) → 1 ≤ u → n < 2 ^ 64 → n / 2 ^ u < 2 ^ 63
high_small u n some below =
    let two : 2 ^ 1 ≤ 2 ^ u = pow_mono some in
    let product : 2 ^ 63 * 2 ^ 1 ≤ 2 ^ 63 * 2 ^ u = mul-le-mul_left (2 ^ 63) two in
    (div-lt_iff_lt-mul (pow_pos u)).1 (omega (arith, below, product))

pub upper_fits : (w u h l n : ℕ) → h * 2 ^ u + l ≡ n → n < 2 ^ (w + u) → h < 2 ^ w
upper_fits w u h l n whole below = by (cases_lt h (2 ^ w))
  where
    by : (h < 2 ^ w) ⊎ (2 ^ w ≤ h) → h < 2 ^ w
    by (inl k) = k
    by (inr k) = absurd (let m : 2 ^ w * 2 ^ u ≤ h * 2 ^ u = mul-le-mul_right (2 ^ u) k in omega (arith, m, whole, below, pow-add 2 w u))

-- ---- the limit of a concatenation a of x and y, of u bits

module _ (u k x y a n h l : ℕ) (same : u ≡ k) (whole : h * 2 ^ u + l ≡ n) (known : a ≡ x * 2 ^ k + y) where
  joined_is : (c : ℕ) → x ≡ c → c * 2 ^ u + y ≡ a
  joined_is c constant = ap (λ j. j * 2 ^ u + y) (sym constant) ∙ ap (λ j. x * 2 ^ j + y) same ∙ sym known

  pub constant_limit : (c m : ℕ) → x ≡ c → nat_lt y m ≡ nat_lt (c * 2 ^ u + y) (h * 2 ^ u + l) → nat_lt y m ≡ nat_lt a n
  constant_limit c m constant limit = limit ∙ (λ i. nat_lt (joined_is c constant i) (whole i))

  pub upper_limit : (less : Bool) → l < 2 ^ u → y < 2 ^ u → nat_lt y l ≡ less → nat_lt x (if less then h + 1 else h) ≡ nat_lt a n
  upper_limit true small below e = upper_below (2 ^ u) x y h l (ltb-true y l e) small ∙ (λ i. nat_lt (joined_is x refl i) (whole i))
  upper_limit false small below e = upper_above (2 ^ u) x y h l (ltb-false y l e) below ∙ (λ i. nat_lt (joined_is x refl i) (whole i))

pub limit_room : (less : Bool) (h p : ℕ) → h < p → (if less then h + 1 else h) ≤ p
limit_room true h p below = omega (arith, below)
limit_room false h p below = omega (arith, below)

pub upper_room : (w u k b h l n : ℕ) → u ≡ k → b ≡ w + k → h * 2 ^ u + l ≡ n → n < 2 ^ b → h < 2 ^ w
upper_room w u k b h l n same total whole below =
    upper_fits w u h l n whole (subst (λ j. n < 2 ^ j) (total ∙ ap (λ j. w + j) (sym same)) below)
