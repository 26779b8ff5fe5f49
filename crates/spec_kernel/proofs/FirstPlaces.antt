-- The steps of putting names into an index with their first places.
use Rattle.std.proofs.Common.{◌≡◌, ℕ, ◌+◌, ◌<◌, add-one, length-take, Bool, true, false, cond, List, [], ◌∷◌, ◌++◌, map, length, take, get_or, Option, None, Some, is_some, bytes_eq, refl, sym, ap, subst, ◌∙◌, if◌then◌else◌, arith}
use Rattle.std.specs.Map.{lookup}
use Rattle.std.specs.Prelude.{position}
use Rattle.std.specs.List.{position_from}
use Rattle.std.specs.Option.{option_or}
use Rattle.std.proofs.Math.Seq.{take-suc}
use Rattle.std.proofs.lemmas.Iterator.Adapters.{position_from-zero}
use Rattle.std.proofs.lemmas.Slice.Eq.{bytes_eq-Decides}
use Rattle.std.proofs.lemmas.List.{length-map, get_or_default}
use Rattle.spec_kernel.specs.Firsts.{placed, place_at, with_place, AreFirsts}
use denote.Ref.{Bor}

pub place_placed : (n : List ℕ) (es : List (Bor (List ℕ) × ℕ)) → place_at n (placed es) ≡ lookup (λ (k : Bor (List ℕ)). bytes_eq n k.now) es
place_placed n [] = refl
place_placed n (e ∷ es) = ap (λ o. cond (bytes_eq n e.0.now) (Some e.1) o) (place_placed n es)

pub placed_push : (es : List (Bor (List ℕ) × ℕ)) (k : Bor (List ℕ)) (v : ℕ) → placed (es ++ (k, v) ∷ []) ≡ placed es ++ (k.now, v) ∷ []
placed_push [] k v = refl
placed_push (e ∷ es) k v = ap (λ xs. (e.0.now, e.1) ∷ xs) (placed_push es k v)

-- a name that is not there is put behind the others
pub added : (es after : List (Bor (List ℕ) × ℕ)) (k : Bor (List ℕ)) (v : ℕ) → lookup (λ (w : Bor (List ℕ)). bytes_eq k.now w.now) es ≡ None → after ≡ es ++ (k, v) ∷ [] → placed after ≡ with_place (placed es) k.now v
added es after k v none put = ap placed put ∙ placed_push es k v
    ∙ sym (ap (λ o. if is_some o then placed es else placed es ++ (k.now, v) ∷ []) (place_placed k.now es ∙ none))

pub none_is : {X : Type 0} (o : Option X) → is_some o ≡ false → o ≡ None
none_is None h = refl
none_is (Some x) h = search h

lookup_push : {K X : Type 0} (t : K → Bool) (es : List (K × X)) (k : K) (v : X) → lookup t (es ++ (k, v) ∷ []) ≡ option_or (lookup t es) (cond (t k) (Some v) None)
lookup_push t [] k v = refl
lookup_push {K} {X} t (e ∷ es) k v = by (t e.0) (lookup_push t es k v)
  where
    by : (b : Bool) → lookup t (es ++ (k, v) ∷ []) ≡ option_or (lookup t es) (cond (t k) (Some v) None)
        → cond b (Some e.1) (lookup t (es ++ (k, v) ∷ [])) ≡ option_or (cond b (Some e.1) (lookup t es)) (cond (t k) (Some v) None)
    by true rest = refl
    by false rest = rest

position_from_push : {X : Type 0} (t : X → Bool) (i : ℕ) (xs : List X) (x : X) → position_from t i (xs ++ x ∷ []) ≡ option_or (position_from t i xs) (cond (t x) (Some (i + length xs)) None)
position_from_push t i [] x =
    let none_more : i ≡ i + 0 = omega arith in
    ap (λ n. cond (t x) (Some n) None) none_more
position_from_push {X} t i (y ∷ xs) x = by (t y) (position_from_push t (i + 1) xs x ∙ ap (λ n. option_or (position_from t (i + 1) xs) (cond (t x) (Some n) None)) (omega arith))
  where
    by : (b : Bool) → position_from t (i + 1) (xs ++ x ∷ []) ≡ option_or (position_from t (i + 1) xs) (cond (t x) (Some (i + length (y ∷ xs))) None)
        → cond b (Some i) (position_from t (i + 1) (xs ++ x ∷ [])) ≡ option_or (cond b (Some i) (position_from t (i + 1) xs)) (cond (t x) (Some (i + length (y ∷ xs))) None)
    by true rest = refl
    by false rest = rest

place_push : (n : List ℕ) (names : List (List ℕ)) (x : List ℕ) → position (bytes_eq n) (names ++ x ∷ []) ≡ option_or (position (bytes_eq n) names) (cond (bytes_eq n x) (Some (length names)) None)
place_push n names x =
    let zero_more : 0 + length names ≡ length names = omega arith in
    position_from-zero (bytes_eq n) (names ++ x ∷ [])
    ∙ position_from_push (bytes_eq n) 0 names x
    ∙ ap (λ k. option_or (position_from (bytes_eq n) 0 names) (cond (bytes_eq n x) (Some k) None)) zero_more
    ∙ ap (λ o. option_or o (cond (bytes_eq n x) (Some (length names)) None)) (sym (position_from-zero (bytes_eq n) names))

or_none : {X : Type 0} (o : Option X) → option_or o None ≡ o
or_none None = refl
or_none (Some x) = refl

or_some : {X : Type 0} (o p : Option X) → is_some o ≡ true → option_or o p ≡ o
or_some None p h = search h
or_some (Some x) p h = refl

-- a name that has a place keeps it, whatever stands behind
place_kept : (names : List (List ℕ)) (x n : List ℕ) → is_some (position (bytes_eq x) names) ≡ true → position (bytes_eq n) (names ++ x ∷ []) ≡ position (bytes_eq n) names
place_kept names x n there = place_push n names x ∙ by (bytes_eq n x) refl
  where
    by : (b : Bool) → bytes_eq n x ≡ b → option_or (position (bytes_eq n) names) (cond b (Some (length names)) None) ≡ position (bytes_eq n) names
    by false e = or_none (position (bytes_eq n) names)
    by true e = or_some (position (bytes_eq n) names) (Some (length names)) (subst (λ w. is_some (position (bytes_eq w) names) ≡ true) (sym ((bytes_eq-Decides n x).0 e)) there)

-- the next name, with its place
pub first_added : (firsts : List (List ℕ × ℕ)) (names : List (List ℕ)) (x : List ℕ) → AreFirsts firsts names → AreFirsts (with_place firsts x (length names)) (names ++ x ∷ [])
first_added firsts names x are n = by (is_some (place_at x firsts)) refl
  where
    by : (b : Bool) → is_some (place_at x firsts) ≡ b → place_at n (if b then firsts else firsts ++ (x, length names) ∷ []) ≡ position (bytes_eq n) (names ++ x ∷ [])
    by true e = are n ∙ sym (place_kept names x n (sym (ap is_some (are x)) ∙ e))
    by false e = lookup_push (bytes_eq n) firsts x (length names)
        ∙ ap (λ o. option_or o (cond (bytes_eq n x) (Some (length names)) None)) (are n)
        ∙ sym (place_push n names x)

map_push : {X : Type 0} (name : X → List ℕ) (xs : List X) (x : X) → map name (xs ++ x ∷ []) ≡ map name xs ++ name x ∷ []
map_push name [] x = refl
map_push name (y ∷ xs) x = ap (λ ns. name y ∷ ns) (map_push name xs x)

length_taken : {X : Type 0} (name : X → List ℕ) (xs : List X) (i : ℕ) → i < length xs → length (map name (take i xs)) ≡ i
length_taken name xs i h = length-map (take i xs) name ∙ omega (arith, length-take i xs)

-- the same for the names of a list's elements, one element further
pub firsts_next : {X : Type 0} (name : X → List ℕ) (xs : List X) (i : ℕ) (x : X) (firsts after : List (List ℕ × ℕ)) → i < length xs → x ≡ get_or xs i x
    → AreFirsts firsts (map name (take i xs)) → after ≡ with_place firsts (name x) i → AreFirsts after (map name (take (i + 1) xs))
firsts_next name xs i x firsts after h is are put =
    let names : map name (take i xs) ++ name x ∷ [] ≡ map name (take (i + 1) xs)
    = sym (map_push name (take i xs) x) ∙ ap (λ y. map name (take i xs ++ y ∷ [])) is ∙ ap (map name) (sym (take-suc xs i x h)) ∙ ap (λ k. map name (take k xs)) (sym (add-one i)) in
    subst (λ ns. AreFirsts after ns) names
    (subst (λ fs. AreFirsts fs (map name (take i xs) ++ name x ∷ [])) (ap (with_place firsts (name x)) (length_taken name xs i h) ∙ sym put)
    (first_added firsts (map name (take i xs)) (name x) are))

-- the same for an element of a slice, whatever stands for none
pub firsts_any : {X : Type 0} (name : X → List ℕ) (xs : List X) (i : ℕ) (d : X) (firsts after : List (List ℕ × ℕ)) → i < length xs
    → AreFirsts firsts (map name (take i xs)) → after ≡ with_place firsts (name (get_or xs i d)) i → AreFirsts after (map name (take (i + 1) xs))
firsts_any name xs i d firsts after h are put = firsts_next name xs i (get_or xs i d) firsts after h (get_or_default xs i d (get_or xs i d) h) are put
