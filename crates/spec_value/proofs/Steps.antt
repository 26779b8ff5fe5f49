-- One size of a list of sizes, and what is left behind it.
use Rattle.std.proofs.Common.{◌≡◌, ◌+◌, ◌-◌, ◌*◌, ◌/◌, ◌%◌, ◌^◌, ◌<◌, ◌≤◌, ℕ, zero, suc, List, [], ◌∷◌, ◌++◌, drop, take, length, arith, ap, sym, ◌∙◌, subst}
use Rattle.std.specs.Prelude.{All, get_or, map, slice_index_or}
use Rattle.std.proofs.Math.Nat.{mul-le-mul_right, mul_assoc, mod-lt, mul-div_cancel_left}
use Rattle.std.proofs.Math.Seq.{drop-cons, take-length}
use Rattle.std.proofs.lemmas.List.{append_assoc}
use Rattle.std.proofs.lemmas.List.Elements.{All-head, All-tail}
use Rattle.spec_tree.specs.Plain.{Key}
use Rattle.spec_tree.specs.View.{view_key, size_of}
use Rattle.spec_tree.specs.declared.sort.Sort.{Sort}
use Rattle.spec_tree.specs.Sorted.{IsSize, key_sizes, product}
use Rattle.spec_tree.specs.Value.{tuple_at}

positive : (n p k : ℕ) → k < n * p → 0 < p
positive n zero k h = let e : n * 0 ≡ 0 = omega arith in absurd (omega (arith, h, e))
positive n (suc p) k h = omega arith

pub at_least_one : (ns : List ℕ) → All IsSize ns → 1 ≤ product ns
at_least_one [] h = omega arith
at_least_one (n ∷ ns) h =
    let head : IsSize n = All-head IsSize n ns h in
    let rest : 1 ≤ product ns = at_least_one ns (All-tail IsSize n ns h) in
    let more : 1 * product ns ≤ n * product ns = mul-le-mul_right (product ns) head.0 in
    omega (arith, rest, more)

pub rest_at_least_one : (ns : List ℕ) (k : ℕ) → All IsSize ns → 1 ≤ product (drop k ns)
rest_at_least_one ns zero h = at_least_one ns h
rest_at_least_one [] (suc k) h = omega arith
rest_at_least_one (n ∷ ns) (suc k) h = rest_at_least_one ns k (All-tail IsSize n ns h)

pub one_more : (ns : List ℕ) (k n d : ℕ) → k < length ns → n ≡ get_or ns k d → drop k ns ≡ n ∷ drop (k + 1) ns
one_more ns k n d low is =
    let e : suc k ≡ k + 1 = omega arith in
    drop-cons ns k d low ∙ ap (λ m. m ∷ drop (suc k) ns) (sym is) ∙ ap (λ j. n ∷ drop j ns) e

-- ---- counting: the product so far, times what is left

pub counts_below : (ns : List ℕ) (k n d all whole : ℕ) → All IsSize ns → k < length ns → n ≡ get_or ns k d → all * product (drop k ns) ≡ whole → all * n ≤ whole
counts_below ns k n d all whole sizes low is h =
    let rest = product (drop (k + 1) ns) in
    let e : all * n * rest ≡ whole = mul_assoc all n rest ∙ ap (λ ms. all * product ms) (sym (one_more ns k n d low is)) ∙ h in
    let some : 1 ≤ rest = rest_at_least_one ns (k + 1) sizes in
    let more : 1 * (all * n) ≤ rest * (all * n) = mul-le-mul_right (all * n) some in
    omega (arith, e, more)

-- ---- a tuple by its place: one index, and the place of the rest

pub stride_next : (ns : List ℕ) (k n d stride rest : ℕ) → k < length ns → n ≡ get_or ns k d → stride ≡ product (drop k ns) → rest < stride → stride / n ≡ product (drop (k + 1) ns)
stride_next ns k zero d stride rest low is h within =
    let e : stride ≡ zero * product (drop (k + 1) ns) = h ∙ ap product (one_more ns k zero d low is) in
    absurd (omega (arith, e, within))
stride_next ns k (suc n) d stride rest low is h within =
    let e : stride ≡ suc n * product (drop (k + 1) ns) = h ∙ ap product (one_more ns k (suc n) d low is) in
    ap (λ m. m / suc n) e ∙ mul-div_cancel_left (product (drop (k + 1) ns)) (omega arith)

pub rest_next : (ns : List ℕ) (k n d stride rest : ℕ) → k < length ns → n ≡ get_or ns k d → stride ≡ product (drop k ns) → rest < stride → rest % (stride / n) < stride / n
rest_next ns k n d stride rest low is h within =
    let p = product (drop (k + 1) ns) in
    let s : stride / n ≡ p = stride_next ns k n d stride rest low is h within in
    let e : stride ≡ n * p = h ∙ ap product (one_more ns k n d low is) in
    mod-lt rest (subst (λ m. 0 < m) (sym s) (positive n p rest (omega (arith, e, within))))

pub left_next : (ns t : List ℕ) (k n d stride rest : ℕ) → k < length ns → n ≡ get_or ns k d → stride ≡ product (drop k ns) → rest < stride →
    (t ++ rest / (stride / n) ∷ []) ++ tuple_at (drop (k + 1) ns) (rest % (stride / n)) ≡ t ++ tuple_at (drop k ns) rest
left_next ns t k n d stride rest low is h within =
    let s : stride / n ≡ product (drop (k + 1) ns) = stride_next ns k n d stride rest low is h within in
    ap (λ p. (t ++ rest / p ∷ []) ++ tuple_at (drop (k + 1) ns) (rest % p)) s
    ∙ append_assoc t (rest / product (drop (k + 1) ns) ∷ []) (tuple_at (drop (k + 1) ns) (rest % product (drop (k + 1) ns)))
    ∙ ap (λ ms. t ++ tuple_at ms rest) (sym (one_more ns k n d low is))

-- ---- a place by a tuple: one key more

pub few_next : (ks : List Key) (n before index : ℕ) → (before + 1) * (n * product (key_sizes ks)) ≤ 2 ^ 20 → index < n → (before * n + index + 1) * product (key_sizes ks) ≤ 2 ^ 20
few_next ks n before index few low =
    let p = product (key_sizes ks) in
    let e : (before + 1) * n ≡ before * n + n = omega arith in
    let less : before * n + index + 1 ≤ (before + 1) * n = omega (arith, e, low) in
    let wide : (before * n + index + 1) * p ≤ (before + 1) * n * p = mul-le-mul_right p less in
    omega (arith, wide, mul_assoc (before + 1) n p, few)

sizes_of : (ks : List Key) → All (λ k. IsSize k.size) ks → 1 ≤ product (key_sizes ks)
sizes_of [] h = omega arith
sizes_of (k ∷ ks) h =
    let head : IsSize k.size = All-head (λ a. IsSize a.size) k ks h in
    let rest : 1 ≤ product (key_sizes ks) = sizes_of ks (All-tail (λ a. IsSize a.size) k ks h) in
    let more : 1 * product (key_sizes ks) ≤ k.size * product (key_sizes ks) = mul-le-mul_right (product (key_sizes ks)) head.0 in
    omega (arith, rest, more)

pub place_fits : (ks : List Key) (n before index : ℕ) → All (λ k. IsSize k.size) ks → (before + 1) * (n * product (key_sizes ks)) ≤ 2 ^ 20 → index < n → before * n + index < 2 ^ 64
place_fits ks n before index sizes few low =
    let next : (before * n + index + 1) * product (key_sizes ks) ≤ 2 ^ 20 = few_next ks n before index few low in
    let some : 1 * (before * n + index + 1) ≤ product (key_sizes ks) * (before * n + index + 1) = mul-le-mul_right (before * n + index + 1) (sizes_of ks sizes) in
    omega (arith, next, some)

-- the same of the first key of a list of sorts
pub first_fits : (keys : List Sort) (d : Sort) (n before index : ℕ) → 1 ≤ length keys → n ≡ size_of (slice_index_or keys 0 d).size → All (λ k. IsSize k.size) (map view_key keys) → (before + 1) * product (key_sizes (map view_key keys)) ≤ 2 ^ 20 → index < n → before * n + index < 2 ^ 64
first_fits [] d n before index long is sizes few low = absurd (omega (arith, long))
first_fits (k ∷ ks) d n before index long is sizes few low =
    place_fits (map view_key ks) n before index (All-tail (λ a. IsSize a.size) (view_key k) (map view_key ks) sizes) (subst (λ m. (before + 1) * (m * product (key_sizes (map view_key ks))) ≤ 2 ^ 20) (sym is) few) low

rest_is : (k : Sort) (ks : List Sort) → take (length (k ∷ ks) - 1) (drop 1 (k ∷ ks)) ≡ ks
rest_is k ks = let e : length (k ∷ ks) - 1 ≡ length ks = omega arith in ap (λ m. take m ks) e ∙ take-length ks

pub rest_shorter : (keys : List Sort) → 1 ≤ length keys → length (take (length keys - 1) (drop 1 keys)) < length keys
rest_shorter [] long = absurd (omega (arith, long))
rest_shorter (k ∷ ks) long = omega (arith, ap length (rest_is k ks))

pub rest_sizes : (keys : List Sort) → 1 ≤ length keys → All (λ k. IsSize k.size) (map view_key keys) → All (λ k. IsSize k.size) (map view_key (take (length keys - 1) (drop 1 keys)))
rest_sizes [] long sizes = absurd (omega (arith, long))
rest_sizes (k ∷ ks) long sizes =
    subst (λ l. All (λ a. IsSize a.size) (map view_key l)) (sym (rest_is k ks)) (All-tail (λ a. IsSize a.size) (view_key k) (map view_key ks) sizes)

pub rest_few : (keys : List Sort) (d : Sort) (n before index next : ℕ) → 1 ≤ length keys → n ≡ size_of (slice_index_or keys 0 d).size → (before + 1) * product (key_sizes (map view_key keys)) ≤ 2 ^ 20 → index < n → next ≡ before * n + index →
    (next + 1) * product (key_sizes (map view_key (take (length keys - 1) (drop 1 keys)))) ≤ 2 ^ 20
rest_few [] d n before index next long is few low here = absurd (omega (arith, long))
rest_few (k ∷ ks) d n before index next long is few low here =
    subst (λ l. (next + 1) * product (key_sizes (map view_key l)) ≤ 2 ^ 20) (sym (rest_is k ks))
    (subst (λ m. (m + 1) * product (key_sizes (map view_key ks)) ≤ 2 ^ 20) (sym here)
    (few_next (map view_key ks) n before index (subst (λ m. (before + 1) * (m * product (key_sizes (map view_key ks))) ≤ 2 ^ 20) (sym is) few) low))
