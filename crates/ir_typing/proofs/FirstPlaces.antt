-- Entries of a table by name, and places that are added.
use Rattle.std.proofs.Common.{◌≡◌, ℕ, ◌+◌, ◌<◌, ◌≤◌, Bool, true, false, cond, if◌then◌else◌, Option, Some, None, option_map, is_some, List, [], ◌∷◌, ◌++◌, length, map, refl, sym, ◌∙◌, ap, subst, arith, take, get_or, add-one, length-take, length-append}
use Rattle.std.specs.Prelude.{slice_get, bytes_eq, find, position, IsSome}
use Rattle.std.specs.List.{position_from}
use Rattle.std.specs.Option.{option_or}
use Rattle.std.proofs.Math.Seq.{take-suc}
use Rattle.std.proofs.lemmas.Iterator.Adapters.{position_from-zero}
use Rattle.std.proofs.lemmas.List.{length-map}
use Rattle.std.proofs.lemmas.Slice.Eq.{bytes_eq-Decides}
use Rattle.ir_ast.specs.Table.{place_of}
use Rattle.ir_type.specs.Names.{entry_of}
use Rattle.ir_type.proofs.Places.{at_place, no_place}
use Rattle.ir_typing.specs.Places.{with_place, AreFirsts}

-- the entry at the place of a name
pub found_entry : {E : Type 0} (entries : List (List ℕ × E)) (x : List ℕ) (p : ℕ) (e : E) → place_of x entries ≡ Some p
    → option_map (λ entry. entry.1) (slice_get entries p) ≡ Some e → entry_of x entries ≡ Some e
found_entry {E} entries x p e there is =
    let s = at_place entries x p there in
    let second : List ℕ × E → E = λ entry. entry.1 in
    s.1.found ∙ sym (ap (option_map second) s.1.there) ∙ is

-- a new name
pub added : (table after : List (List ℕ × ℕ)) (x : List ℕ) (p : ℕ) → place_of x table ≡ None → after ≡ table ++ (x, p) ∷ [] → after ≡ with_place table x p
added table after x p none is = is ∙ sym (ap (λ o. if is_some o then table else table ++ (x, p) ∷ []) (no_place table x none))

-- a name that is there
pub repeated : (table after : List (List ℕ × ℕ)) (x : List ℕ) (p : ℕ) → IsSome (place_of x table) → after ≡ table → after ≡ with_place table x p
repeated table after x p there is = pick (place_of x table) refl there
  where
    pick : (o : Option ℕ) → place_of x table ≡ o → IsSome o → after ≡ with_place table x p
    pick None h s = search s
    pick (Some q) h s =
        let e = at_place table x q h in
        is ∙ sym (ap (λ o. if is_some o then table else table ++ (x, p) ∷ []) e.1.found)

entry_push : {E : Type 0} (y : List ℕ) (entries : List (List ℕ × E)) (x : List ℕ) (e : E)
    → entry_of y (entries ++ (x, e) ∷ []) ≡ option_or (entry_of y entries) (cond (bytes_eq y x) (Some e) None)
entry_push {E} y [] x e = pick (bytes_eq y x)
  where
    pick : (b : Bool) → option_map {T = List ℕ × E} (λ f. f.1) (cond b (Some (x, e)) None) ≡ cond b (Some e) None
    pick true = refl
    pick false = refl
entry_push {E} y (f ∷ entries) x e = pick (bytes_eq y f.0) (entry_push y entries x e)
  where
    pick : (b : Bool) → entry_of y (entries ++ (x, e) ∷ []) ≡ option_or (entry_of y entries) (cond (bytes_eq y x) (Some e) None)
        → option_map {T = List ℕ × E} (λ f. f.1) (cond b (Some f) (find (λ g. bytes_eq y g.0) (entries ++ (x, e) ∷ [])))
        ≡ option_or (option_map {T = List ℕ × E} (λ f. f.1) (cond b (Some f) (find (λ g. bytes_eq y g.0) entries))) (cond (bytes_eq y x) (Some e) None)
    pick true rest = refl
    pick false rest = rest

position_from_push : {X : Type 0} (t : X → Bool) (i : ℕ) (xs : List X) (x : X) → position_from t i (xs ++ x ∷ []) ≡ option_or (position_from t i xs) (cond (t x) (Some (i + length xs)) None)
position_from_push t i [] x =
    let none_more : i ≡ i + 0 = omega arith in
    ap (λ n. cond (t x) (Some n) None) none_more
position_from_push {X} t i (y ∷ xs) x = by (t y) (position_from_push t (i + 1) xs x ∙ ap (λ n. option_or (position_from t (i + 1) xs) (cond (t x) (Some n) None)) (omega arith))
  where
    by : (b : Bool) → position_from t (i + 1) (xs ++ x ∷ []) ≡ option_or (position_from t (i + 1) xs) (cond (t x) (Some (i + length (y ∷ xs))) None)
        → cond b (Some i) (position_from t (i + 1) (xs ++ x ∷ [])) ≡ option_or (cond b (Some i) (position_from t (i + 1) xs)) (cond (t x) (Some (i + length (y ∷ xs))) None)
    by true rest = refl
    by false rest = rest

place_push : (n : List ℕ) (names : List (List ℕ)) (x : List ℕ) → position (bytes_eq n) (names ++ x ∷ []) ≡ option_or (position (bytes_eq n) names) (cond (bytes_eq n x) (Some (length names)) None)
place_push n names x =
    let zero_more : 0 + length names ≡ length names = omega arith in
    position_from-zero (bytes_eq n) (names ++ x ∷ [])
    ∙ position_from_push (bytes_eq n) 0 names x
    ∙ ap (λ k. option_or (position_from (bytes_eq n) 0 names) (cond (bytes_eq n x) (Some k) None)) zero_more
    ∙ ap (λ o. option_or o (cond (bytes_eq n x) (Some (length names)) None)) (sym (position_from-zero (bytes_eq n) names))

or_none : {X : Type 0} (o : Option X) → option_or o None ≡ o
or_none None = refl
or_none (Some x) = refl

or_some : {X : Type 0} (o p : Option X) → is_some o ≡ true → option_or o p ≡ o
or_some None p h = search h
or_some (Some x) p h = refl

-- a name that has a place keeps it, whatever stands behind
place_kept : (names : List (List ℕ)) (x n : List ℕ) → is_some (position (bytes_eq x) names) ≡ true → position (bytes_eq n) (names ++ x ∷ []) ≡ position (bytes_eq n) names
place_kept names x n there = place_push n names x ∙ by (bytes_eq n x) refl
  where
    by : (b : Bool) → bytes_eq n x ≡ b → option_or (position (bytes_eq n) names) (cond b (Some (length names)) None) ≡ position (bytes_eq n) names
    by false e = or_none (position (bytes_eq n) names)
    by true e = or_some (position (bytes_eq n) names) (Some (length names)) (subst (λ w. is_some (position (bytes_eq w) names) ≡ true) (sym ((bytes_eq-Decides n x).0 e)) there)

-- the next name, with its place
pub first_added : (firsts : List (List ℕ × ℕ)) (names : List (List ℕ)) (x : List ℕ) → AreFirsts firsts names → AreFirsts (with_place firsts x (length names)) (names ++ x ∷ [])
first_added firsts names x are n = by (is_some (entry_of x firsts)) refl
  where
    by : (b : Bool) → is_some (entry_of x firsts) ≡ b → entry_of n (if b then firsts else firsts ++ (x, length names) ∷ []) ≡ position (bytes_eq n) (names ++ x ∷ [])
    by true e = are n ∙ sym (place_kept names x n (sym (ap is_some (are x)) ∙ e))
    by false e = entry_push n firsts x (length names)
        ∙ ap (λ o. option_or o (cond (bytes_eq n x) (Some (length names)) None)) (are n)
        ∙ sym (place_push n names x)

-- one name makes a table longer by one at most
pub grown : (firsts : List (List ℕ × ℕ)) (x : List ℕ) (p : ℕ) → length (with_place firsts x p) ≤ length firsts + 1
grown firsts x p = by (is_some (entry_of x firsts))
  where
    by : (b : Bool) → length (if b then firsts else firsts ++ (x, p) ∷ []) ≤ length firsts + 1
    by true = omega arith
    by false = let l = length-append firsts ((x, p) ∷ []) in omega arith

pub map_push : {X : Type 0} (name : X → List ℕ) (xs : List X) (x : X) → map name (xs ++ x ∷ []) ≡ map name xs ++ name x ∷ []
map_push name [] x = refl
map_push name (y ∷ xs) x = ap (λ ns. name y ∷ ns) (map_push name xs x)

length_taken : {X : Type 0} (name : X → List ℕ) (xs : List X) (i : ℕ) → i < length xs → length (map name (take i xs)) ≡ i
length_taken name xs i h = length-map (take i xs) name ∙ omega (arith, length-take i xs)

-- the same for the names of a list's elements, one element further
pub firsts_next : {X : Type 0} (name : X → List ℕ) (xs : List X) (i : ℕ) (x : X) (firsts after : List (List ℕ × ℕ)) → i < length xs → x ≡ get_or xs i x
    → AreFirsts firsts (map name (take i xs)) → after ≡ with_place firsts (name x) i → AreFirsts after (map name (take (i + 1) xs))
firsts_next name xs i x firsts after h is are put =
    let names : map name (take i xs) ++ name x ∷ [] ≡ map name (take (i + 1) xs)
    = sym (map_push name (take i xs) x) ∙ ap (λ y. map name (take i xs ++ y ∷ [])) is ∙ ap (map name) (sym (take-suc xs i x h)) ∙ ap (λ k. map name (take k xs)) (sym (add-one i)) in
    subst (λ ns. AreFirsts after ns) names
    (subst (λ fs. AreFirsts fs (map name (take i xs) ++ name x ∷ [])) (ap (with_place firsts (name x)) (length_taken name xs i h) ∙ sym put)
    (first_added firsts (map name (take i xs)) (name x) are))

-- the names of what is seen
pub seen_names : {X Y : Type 0} (see : X → Y) (name : Y → List ℕ) (xs : List X) → map name (map see xs) ≡ map (λ x. name (see x)) xs
seen_names see name [] = refl
seen_names see name (x ∷ xs) = ap (λ ns. name (see x) ∷ ns) (seen_names see name xs)
