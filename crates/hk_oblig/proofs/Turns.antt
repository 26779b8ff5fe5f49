-- One part more of a list that is gone through.
use Rattle.std.proofs.Common.{◌≡◌, ◌+◌, ◌*◌, ◌^◌, ◌<◌, ◌≤◌, ℕ, Some, List, [], ◌∷◌, ◌++◌, length, map, drop, get_or, sym, ap, ◌∙◌, subst, arith, lit<, mul_assoc}
use Rattle.std.specs.Prelude.{All, slice_get, slice_index_or, None}
use Rattle.std.proofs.Math.Nat.{pow-le-pow_right}
use Rattle.std.proofs.lemmas.List.{get_or-map, length-map}
use Rattle.std.specs.List.{range_with_len}
use Rattle.std.proofs.lemmas.List.FromFn.{map-range_with_len_more}
use Rattle.std.proofs.lemmas.List.Elements.{All-get_or, All-map}
use Rattle.std.proofs.lemmas.Option.{get_or_from_slice_get}
use Rattle.spec_tree.specs.Plain.{Key}
use Rattle.spec_tree.specs.Sorted.{FieldSort, IsSize, IsFieldSort, product, key_sizes}
use Rattle.spec_tree.specs.View.{view_key, size_of}
use Rattle.spec_tree.specs.declared.sort.Sort.{Sort}
use Rattle.spec_value.proofs.Steps.{one_more}

no_sort : Sort
no_sort = record { width = 0; size = None }

pub size_there : (keys : List Sort) (k n : ℕ) → k < length keys → ((d : Sort) → n ≡ size_of (slice_index_or keys k d).size) → n ≡ get_or (key_sizes (map view_key keys)) k 0
size_there keys k n low h =
    h no_sort
    ∙ ap (λ (x : Key). x.size) (sym (get_or-map view_key keys k no_sort (view_key no_sort) low))
    ∙ sym (get_or-map (λ (x : Key). x.size) (map view_key keys) k (view_key no_sort) 0 (omega (arith, low, length-map keys view_key)))

pub product_on : (ns : List ℕ) (k n all whole : ℕ) → k < length ns → n ≡ get_or ns k 0 → all * product (drop k ns) ≡ whole → all * n * product (drop (k + 1) ns) ≡ whole
product_on ns k n all whole low is h = mul_assoc all n (product (drop (k + 1) ns)) ∙ ap (λ ms. all * product ms) (sym (one_more ns k n 0 low is)) ∙ h

pub many_keys : (keys : List Sort) → length (key_sizes (map view_key keys)) ≡ length keys
many_keys keys = length-map (map view_key keys) _ ∙ length-map keys view_key

pub wide : (n w : ℕ) → n < 2 ^ 64 → 64 ≤ w → n < 2 ^ w
wide n w low high =
    let more : 2 ^ 64 ≤ 2 ^ w = pow-le-pow_right (lit< tt) high in
    omega (arith, low, more)

pub sizes_hold : (f : FieldSort) → IsFieldSort f → All IsSize (key_sizes f.keys)
sizes_hold f h = All-map IsSize (λ k. k.size) f.keys (λ k d l. (h.keyed k d l).1)

-- one number more of those that a function gives
pub one_pushed : (f : ℕ → ℕ) (before now : List ℕ) (x k : ℕ) → now ≡ before ++ x ∷ [] → before ≡ map f (range_with_len 0 k) → x ≡ f k → now ≡ map f (range_with_len 0 (k + 1))
one_pushed f before now x k put is here =
    let none : 0 + k ≡ k = omega arith in
    put ∙ ap (λ l. l ++ x ∷ []) is ∙ ap (λ y. map f (range_with_len 0 k) ++ y ∷ []) here ∙ sym (map-range_with_len_more f 0 k k none)

-- ---- the element at a place, seen as plain data

pub seen_at : {X Y : Type 0} (view : X → Y) (xs : List X) (i : ℕ) (x : X) → i < length xs → x ≡ get_or xs i x → get_or (map view xs) i (view x) ≡ view x
seen_at view xs i x low is = get_or-map view xs i x (view x) low ∙ ap view (sym is)

pub found_at : {X Y : Type 0} (view : X → Y) (xs : List X) (i : ℕ) (x : X) (y : Y) → i < length xs → x ≡ get_or xs i x → slice_get (map view xs) i ≡ Some y → view x ≡ y
found_at view xs i x y low is found = sym (seen_at view xs i x low is) ∙ get_or_from_slice_get (map view xs) i y (view x) found

pub all_at : {X Y : Type 0} (P : Y → Type 0) (view : X → Y) (xs : List X) (i : ℕ) (x : X) → i < length xs → x ≡ get_or xs i x → All P (map view xs) → P (view x)
all_at P view xs i x low is all = subst P (seen_at view xs i x low is) (All-get_or P (map view xs) i (view x) (omega (arith, low, length-map xs view)) all)
