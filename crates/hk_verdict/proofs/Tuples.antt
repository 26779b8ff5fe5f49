-- A tuple by its place, one key at a time.
use Rattle.std.proofs.Common.{◌≡◌, ◌+◌, ◌*◌, ◌/◌, ◌%◌, ◌<◌, ℕ, zero, suc, List, [], ◌∷◌, ◌++◌, drop, length, map, get_or, arith, ap, sym, ◌∙◌, subst, refl}
use Rattle.std.proofs.Math.Nat.{mod-lt, mul-div_cancel_left}
use Rattle.std.proofs.lemmas.List.{append_assoc}
use Rattle.spec_tree.specs.declared.sort.Sort.{Sort}
use Rattle.spec_tree.specs.View.{view_key, size_of}
use Rattle.spec_tree.specs.Sorted.{key_sizes, product}
use Rattle.spec_tree.specs.Value.{tuple_at}

-- the sizes of keys
abbrev pub sizes : List Sort → List ℕ
sizes keys = key_sizes (map view_key keys)

pub size_next : (keys : List Sort) (k : ℕ) (d : Sort) → k < length keys → drop k (sizes keys) ≡ size_of (get_or keys k d).size ∷ drop (k + 1) (sizes keys)
size_next [] k d low = absurd (omega (arith, low))
size_next (x ∷ keys) zero d low = refl
size_next (x ∷ keys) (suc k) d low =
    let e : suc (k + 1) ≡ suc k + 1 = omega arith in
    size_next keys k d (omega (arith, low)) ∙ ap (λ n. size_of (get_or keys k d).size ∷ drop n (sizes (x ∷ keys))) e

positive : (n p k : ℕ) → k < n * p → 0 < p
positive n zero k h = let e : n * 0 ≡ 0 = omega arith in absurd (omega (arith, h, e))
positive n (suc p) k h = omega arith

module _ (keys : List Sort) (k n : ℕ) (d : Sort) (stride rest : ℕ) (low : k < length keys) (is : n ≡ size_of (get_or keys k d).size) (whole : stride ≡ product (drop k (sizes keys))) (within : rest < stride) where
  split : stride ≡ n * product (drop (k + 1) (sizes keys))
  split = whole ∙ ap product (size_next keys k d low) ∙ ap (λ m. m * product (drop (k + 1) (sizes keys))) (sym is)

  pub size_positive : 0 < n
  size_positive = positive_first n (product (drop (k + 1) (sizes keys))) rest (subst (λ m. rest < m) split within)
    where
      positive_first : (n p k : ℕ) → k < n * p → 0 < n
      positive_first zero p k h = let e : 0 * p ≡ 0 = omega arith in absurd (omega (arith, h, e))
      positive_first (suc n) p k h = omega arith

  pub stride_next : stride / n ≡ product (drop (k + 1) (sizes keys))
  stride_next = ap (λ m. m / n) split ∙ mul-div_cancel_left (product (drop (k + 1) (sizes keys))) size_positive

  pub stride_positive : 0 < stride / n
  stride_positive = subst (λ m. 0 < m) (sym stride_next) (positive n (product (drop (k + 1) (sizes keys))) rest (subst (λ m. rest < m) split within))

  pub rest_next : rest % (stride / n) < stride / n
  rest_next = mod-lt rest stride_positive

  pub left_next : (t : List ℕ) → (t ++ rest / (stride / n) ∷ []) ++ tuple_at (drop (k + 1) (sizes keys)) (rest % (stride / n)) ≡ t ++ tuple_at (drop k (sizes keys)) rest
  left_next t =
      let p = product (drop (k + 1) (sizes keys)) in
      ap (λ q. (t ++ rest / q ∷ []) ++ tuple_at (drop (k + 1) (sizes keys)) (rest % q)) stride_next
      ∙ append_assoc t (rest / p ∷ []) (tuple_at (drop (k + 1) (sizes keys)) (rest % p))
      ∙ ap (λ ms. t ++ tuple_at ms rest) (sym (size_next keys k d low))
