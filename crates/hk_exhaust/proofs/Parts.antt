-- One part more of a list that is gone through.
use Rattle.std.proofs.Common.{◌≡◌, ◌+◌, ◌-◌, ◌*◌, ◌^◌, ◌<◌, ◌≤◌, ℕ, suc, min, List, [], ◌∷◌, length, map, drop, replicate, get_or, sym, ap, ◌∙◌, arith, lit<, mul_assoc, drop-cons, add-one, true}
use Rattle.std.specs.Prelude.{sum_by, slice_index_or, None}
use Rattle.std.proofs.lemmas.List.Sums.{sum_by-cons}
use Rattle.std.proofs.Math.Nat.{pow-le-pow_right}
use Rattle.std.proofs.lemmas.List.{get_or-map, length-map}
use Rattle.spec_tree.specs.Plain.{Key}
use Rattle.spec_tree.specs.Sorted.{product, key_sizes}
use Rattle.spec_tree.specs.View.{view_key, size_of}
use Rattle.spec_tree.specs.declared.sort.Sort.{Sort}
use Rattle.ir_layout.specs.declared.object.Object.{Object}
use Rattle.spec_value.proofs.Steps.{one_more}

pub fewer : {X : Type 0} (count k : ℕ) (x : X) → k < count → replicate (count - k) x ≡ x ∷ replicate (count - (k + 1)) x
fewer count k x low =
    let e : count - k ≡ suc (count - (k + 1)) = omega (arith, low) in
    ap (λ n. replicate n x) e

pub no_more : {X : Type 0} (count k : ℕ) (x : X) → count ≤ k → replicate (count - k) x ≡ []
no_more count k x high =
    let e : count - k ≡ 0 = omega (arith, high) in
    ap (λ n. replicate n x) e

-- a sum that stops at a limit
pub added : (most before x now rest all : ℕ) → now ≡ min (before + x) most → min (before + (x + rest)) most ≡ min all most → min (now + rest) most ≡ min all most
added most before x now rest all e h = omega (arith, e, h)

pub added_one : {X : Type 0} (f : X → ℕ) (most before now all x : ℕ) (a : X) (left rest : List X) → left ≡ a ∷ rest → x ≡ f a → now ≡ min (before + x) most → min (before + sum_by f left) most ≡ min all most → min (now + sum_by f rest) most ≡ min all most
added_one f most before now all x a left rest is e n h =
    added most before x now (sum_by f rest) all n
    (ap (λ y. min (before + (y + sum_by f rest)) most) e ∙ ap (λ s. min (before + s) most) (sym (ap (sum_by f) is ∙ sum_by-cons f a rest)) ∙ h)

no_sort : Sort
no_sort = record { width = 0; size = None }

pub size_there : (keys : List Sort) (k n : ℕ) → k < length keys → ((d : Sort) → n ≡ size_of (slice_index_or keys k d).size) → n ≡ get_or (key_sizes (map view_key keys)) k 0
size_there keys k n low h =
    h no_sort
    ∙ ap (λ (x : Key). x.size) (sym (get_or-map view_key keys k no_sort (view_key no_sort) low))
    ∙ sym (get_or-map (λ (x : Key). x.size) (map view_key keys) k (view_key no_sort) 0 (omega (arith, low, length-map keys view_key)))

pub product_on : (ns : List ℕ) (k n all whole : ℕ) → k < length ns → n ≡ get_or ns k 0 → all * product (drop k ns) ≡ whole → all * n * product (drop (k + 1) ns) ≡ whole
product_on ns k n all whole low is h = mul_assoc all n (product (drop (k + 1) ns)) ∙ ap (λ ms. all * product ms) (sym (one_more ns k n 0 low is)) ∙ h

pub many_keys : (keys : List Sort) → length (key_sizes (map view_key keys)) ≡ length keys
many_keys keys = length-map (map view_key keys) _ ∙ length-map keys view_key

pub wide : (n w : ℕ) → n < 2 ^ 64 → 64 ≤ w → n < 2 ^ w
wide n w low high =
    let more : 2 ^ 64 ≤ 2 ^ w = pow-le-pow_right (lit< tt) high in
    omega (arith, low, more)

pub added_cut : {X : Type 0} (f : X → ℕ) (most before now all x : ℕ) (a : X) (left rest : List X) → left ≡ a ∷ rest → x ≡ min (f a) most → now ≡ min (before + x) most → min (before + sum_by f left) most ≡ min all most → min (now + sum_by f rest) most ≡ min all most
added_cut f most before now all x a left rest is e n h =
    let s : sum_by f left ≡ f a + sum_by f rest = ap (sum_by f) is ∙ sum_by-cons f a rest in
    omega (arith, s, e, n, h)

pub at_place : {X : Type 0} (items : List X) (k : ℕ) (d : X) → k < length items → drop k items ≡ get_or items k d ∷ drop (k + 1) items
at_place items k d low = drop-cons items k d low ∙ ap (λ q. get_or items k d ∷ drop q items) (sym (add-one k))

pub no_object : Object
no_object = record { size = 0; align = 0; constant = true; bytes = [] }
