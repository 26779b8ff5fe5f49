-- Index tuples and their places.
use Rattle.std.proofs.Common.{◌≡◌, ◌+◌, ◌*◌, ◌%◌, ◌<◌, ◌≤◌, ℕ, zero, suc, Bool, true, false, ◌&&◌, Option, Some, None, List, [], ◌∷◌, length, arith, ap, sym, ◌∙◌, refl}
use Rattle.std.specs.Prelude.{if◌then◌else◌, nat_lt}
use Rattle.std.proofs.Math.Nat.{mul-le-mul_right}
use Rattle.std.proofs.lemmas.Bool.{ltb-true}
use Rattle.spec_tree.specs.Plain.{Key}
use Rattle.spec_tree.specs.Sorted.{product, key_sizes}
use Rattle.spec_tree.specs.Value.{place_behind, tuple_at}
use Rattle.spec_tree.specs.Shapes.{AreBelow}
use Rattle.spec_tree.proofs.Entries.{place_of_tuple}
use Rattle.hk_symspec.specs.Ranges.{in_range}

-- ---- a place, or none

pub record Placed (at : ℕ) (keys : List Key) (is : List ℕ) : Type 0 where
  pub place : ℕ
  pub found : place_behind at keys is ≡ Some place

some_in : (b r : Bool) (x : Option ℕ) → (b && r) ≡ true → (r ≡ true → (p : ℕ) × (x ≡ Some p)) → (p : ℕ) × ((if b then x else None) ≡ Some p)
some_in true r x h f = f h
some_in false r x h f = cc

none_in : (b r : Bool) (x : Option ℕ) → (b && r) ≡ false → (r ≡ false → x ≡ None) → (if b then x else None) ≡ None
none_in true r x h f = f h
none_in false r x h f = refl

place_pair : (at : ℕ) (keys : List Key) (is : List ℕ) → in_range keys is ≡ true → (p : ℕ) × (place_behind at keys is ≡ Some p)
place_pair at [] is h = (at, refl)
place_pair at (k ∷ ks) [] h = cc
place_pair at (k ∷ ks) (i ∷ is) h = some_in (nat_lt i k.size) (in_range ks is) (place_behind (at * k.size + i) ks is) h (λ r. place_pair (at * k.size + i) ks is r)

pub placed : (at : ℕ) (keys : List Key) (is : List ℕ) → in_range keys is ≡ true → Placed at keys is
placed at keys is h = let p = place_pair at keys is h in record { place = p.0; found = p.1 }

pub no_place : (at : ℕ) (keys : List Key) (is : List ℕ) → in_range keys is ≡ false → place_behind at keys is ≡ None
no_place at [] is h = cc
no_place at (k ∷ ks) [] h = refl
no_place at (k ∷ ks) (i ∷ is) h = none_in (nat_lt i k.size) (in_range ks is) (place_behind (at * k.size + i) ks is) h (λ r. no_place (at * k.size + i) ks is r)

-- ---- what a place tells

pub taken : (b : Bool) (x : Option ℕ) (p : ℕ) → (if b then x else None) ≡ Some p → (b ≡ true) × (x ≡ Some p)
taken true x p h = (refl, h)
taken false x p h = cc

pub below_sizes : (at : ℕ) (keys : List Key) (is : List ℕ) (p : ℕ) → length is ≡ length keys → place_behind at keys is ≡ Some p → AreBelow (key_sizes keys) is
below_sizes at [] [] p l h = refl
below_sizes at [] (i ∷ is) p l h = absurd (omega (arith, l))
below_sizes at (k ∷ ks) [] p l h = cc
below_sizes at (k ∷ ks) (i ∷ is) p l h =
    let t = taken (nat_lt i k.size) (place_behind (at * k.size + i) ks is) p h in
    (ltb-true i k.size t.0, below_sizes (at * k.size + i) ks is p (omega (arith, l)) t.1)

at_least : (a n i : ℕ) → i < n → a ≤ a * n + i
at_least a n i l =
    let some : 1 ≤ n = omega (arith, l) in
    let more : 1 * a ≤ n * a = mul-le-mul_right a some in
    let e : n * a ≡ a * n = omega arith in
    omega (arith, more, e)

-- a place is not below the places of the earlier indices
pub place_above : (at : ℕ) (keys : List Key) (is : List ℕ) (p : ℕ) → place_behind at keys is ≡ Some p → at ≤ p
place_above at [] is p h = let e : at ≡ p = cc in omega (arith, e)
place_above at (k ∷ ks) [] p h = cc
place_above at (k ∷ ks) (i ∷ is) p h =
    let t = taken (nat_lt i k.size) (place_behind (at * k.size + i) ks is) p h in
    omega (arith, at_least at k.size i (ltb-true i k.size t.0), place_above (at * k.size + i) ks is p t.1)

-- one number of two digits has one first and one second digit
digits : (a b n i j : ℕ) → i < n → j < n → a * n + i ≡ b * n + j → (a ≡ b) × (i ≡ j)
digits zero zero n i j l m e = (refl, omega (arith, e))
digits zero (suc b) n i j l m e = let d : suc b * n ≡ b * n + n = omega arith in absurd (omega (arith, l, e, d))
digits (suc a) zero n i j l m e = let d : suc a * n ≡ a * n + n = omega arith in absurd (omega (arith, m, e, d))
digits (suc a) (suc b) n i j l m e =
    let d : suc a * n ≡ a * n + n = omega arith in let f : suc b * n ≡ b * n + n = omega arith in
    let r = digits a b n i j l m (omega (arith, e, d, f)) in
    (ap suc r.0, r.1)

-- two index tuples with one place are one
one_tuple : (a b : ℕ) (keys : List Key) (is js : List ℕ) (p : ℕ) → length is ≡ length keys → length js ≡ length keys
    → place_behind a keys is ≡ Some p → place_behind b keys js ≡ Some p → (a ≡ b) × (is ≡ js)
one_tuple a b [] [] [] p l m h g = let e : a ≡ p = cc in let d : b ≡ p = cc in (e ∙ sym d, refl)
one_tuple a b [] [] (j ∷ js) p l m h g = absurd (omega (arith, m))
one_tuple a b [] (i ∷ is) js p l m h g = absurd (omega (arith, l))
one_tuple a b (k ∷ ks) [] js p l m h g = cc
one_tuple a b (k ∷ ks) (i ∷ is) [] p l m h g = cc
one_tuple a b (k ∷ ks) (i ∷ is) (j ∷ js) p l m h g =
    let t = taken (nat_lt i k.size) (place_behind (a * k.size + i) ks is) p h in
    let u = taken (nat_lt j k.size) (place_behind (b * k.size + j) ks js) p g in
    let r = one_tuple (a * k.size + i) (b * k.size + j) ks is js p (omega (arith, l)) (omega (arith, m)) t.1 u.1 in
    let d = digits a b k.size i j (ltb-true i k.size t.0) (ltb-true j k.size u.0) r.0 in
    (d.0, λ n. d.1 n ∷ r.1 n)

pub same_tuple : (keys : List Key) (is js : List ℕ) (p : ℕ) → length is ≡ length keys → length js ≡ length keys
    → place_behind 0 keys is ≡ Some p → place_behind 0 keys js ≡ Some p → is ≡ js
same_tuple keys is js p l m h g = (one_tuple 0 0 keys is js p l m h g).1

tuple_length : (sizes : List ℕ) (k : ℕ) → length (tuple_at sizes k) ≡ length sizes
tuple_length [] k = refl
tuple_length (n ∷ ns) k = ap suc (tuple_length ns (k % product ns))

sizes_length : (keys : List Key) → length (key_sizes keys) ≡ length keys
sizes_length [] = refl
sizes_length (k ∷ ks) = ap suc (sizes_length ks)

-- a tuple is the one at its place
pub tuple_there : (keys : List Key) (is : List ℕ) (p : ℕ) → length is ≡ length keys → p < product (key_sizes keys) → place_behind 0 keys is ≡ Some p → tuple_at (key_sizes keys) p ≡ is
tuple_there keys is p l low h =
    same_tuple keys (tuple_at (key_sizes keys) p) is p (tuple_length (key_sizes keys) p ∙ sizes_length keys) l (place_of_tuple keys p low) h
