-- A name more in an index of names by their places.
use Rattle.std.proofs.Common.{◌≡◌, ℕ, suc, ◌+◌, Bool, true, false, ◌||◌, cond, List, [], ◌∷◌, ◌++◌, map, length, position, Option, None, Some, is_some, Result, Ok, Err, OnOk, OnErr, bytes_eq, refl, sym, ap, subst, ◌∙◌, arith}
use Rattle.std.specs.List.{position_from, list_any, IsDistinct}
use Rattle.std.specs.Option.{option_or}
use Rattle.std.specs.BTreeMap.{BTreeMap, get, is_at, Updates}
use Rattle.std.specs.Map.{lookup}
use Rattle.std.specs.Cmp.Lexicographic.{slice_cmp}
use Rattle.std.specs.Ordering.{nat_cmp}
use Rattle.std.proofs.lemmas.Iterator.Adapters.{position_from-zero}
use Rattle.std.proofs.lemmas.Slice.Eq.{bytes_eq-Decides}
use Rattle.std.proofs.lemmas.Map.Text.{is_eq-slice_cmp}
use Rattle.std.proofs.lemmas.Map.Keys.{IsDistinct-push}
use Rattle.std.specs.Cmp.Lexicographic.{nat_list_eq_equiv}
use Rattle.ir_ast.specs.Table.{names_of, place_of, IsIndex, PutsName}

-- ---- places in a longer list

position_from-push : {X : Type 0} (t : X → Bool) (i : ℕ) (xs : List X) (x : X) → position_from t i (xs ++ x ∷ []) ≡ option_or (position_from t i xs) (cond (t x) (Some (i + length xs)) None)
position_from-push t i [] x =
    let none_more : i ≡ i + 0 = omega arith in
    ap (λ n. cond (t x) (Some n) None) none_more
position_from-push {X} t i (y ∷ xs) x = by (t y) (position_from-push t (i + 1) xs x ∙ ap (λ n. option_or (position_from t (i + 1) xs) (cond (t x) (Some n) None)) (omega arith))
  where
    by : (b : Bool) → position_from t (i + 1) (xs ++ x ∷ []) ≡ option_or (position_from t (i + 1) xs) (cond (t x) (Some (i + length (y ∷ xs))) None)
        → cond b (Some i) (position_from t (i + 1) (xs ++ x ∷ [])) ≡ option_or (cond b (Some i) (position_from t (i + 1) xs)) (cond (t x) (Some (i + length (y ∷ xs))) None)
    by true rest = refl
    by false rest = rest

pub position-push : (n : List ℕ) (names : List (List ℕ)) (x : List ℕ) → position (bytes_eq n) (names ++ x ∷ []) ≡ option_or (position (bytes_eq n) names) (cond (bytes_eq n x) (Some (length names)) None)
position-push n names x =
    let zero_more : 0 + length names ≡ length names = omega arith in
    position_from-zero (bytes_eq n) (names ++ x ∷ [])
    ∙ position_from-push (bytes_eq n) 0 names x
    ∙ ap (λ k. option_or (position_from (bytes_eq n) 0 names) (cond (bytes_eq n x) (Some k) None)) zero_more
    ∙ ap (λ o. option_or o (cond (bytes_eq n x) (Some (length names)) None)) (sym (position_from-zero (bytes_eq n) names))

-- a name without a place is none of them
position_from-absent : (n : List ℕ) (i : ℕ) (names : List (List ℕ)) → position_from (bytes_eq n) i names ≡ None → list_any (bytes_eq n) names ≡ false
position_from-absent n i [] none = refl
position_from-absent n i (x ∷ names) none = by (bytes_eq n x) none (position_from-absent n (i + 1) names)
  where
    by : (b : Bool) → cond b (Some i) (position_from (bytes_eq n) (i + 1) names) ≡ None
        → (position_from (bytes_eq n) (i + 1) names ≡ None → list_any (bytes_eq n) names ≡ false) → (b || list_any (bytes_eq n) names) ≡ false
    by true some rest = search some
    by false none rest = rest none

-- a name has a place where it is one of them
some_from : (n : List ℕ) (i : ℕ) (names : List (List ℕ)) → is_some (position_from (bytes_eq n) i names) ≡ list_any (bytes_eq n) names
some_from n i [] = refl
some_from n i (x ∷ names) = by (bytes_eq n x) (some_from n (i + 1) names)
  where
    by : (b : Bool) → is_some (position_from (bytes_eq n) (i + 1) names) ≡ list_any (bytes_eq n) names → is_some (cond b (Some i) (position_from (bytes_eq n) (i + 1) names)) ≡ (b || list_any (bytes_eq n) names)
    by true rest = refl
    by false rest = rest

pub place_among : {E : Type 0} (name : List ℕ) (entries : List (List ℕ × E)) → is_some (place_of name entries) ≡ list_any (bytes_eq name) (names_of entries)
place_among name entries = ap is_some (position_from-zero (bytes_eq name) (names_of entries)) ∙ some_from name 0 (names_of entries)

-- ---- the index

none_or : {X : Type 0} (o : Option X) → option_or o None ≡ o
none_or None = refl
none_or (Some x) = refl

pub placed : (old new : BTreeMap (List ℕ) ℕ) (names : List (List ℕ)) (name : List ℕ) → IsIndex old names → position (bytes_eq name) names ≡ None
    → PutsName name (length names) old new → IsIndex new (names ++ name ∷ [])
placed old new names name index none puts = record {
  each = λ q. puts q ∙ ap (λ o. cond (bytes_eq name q) (Some (length names)) o) (index.each q) ∙ at q (bytes_eq name q) refl ∙ sym (position-push q names name);
  distinct = IsDistinct-push nat_list_eq_equiv names name index.distinct (position_from-absent name 0 names (sym (position_from-zero (bytes_eq name) names) ∙ none));
}
  where
    at : (q : List ℕ) (b : Bool) → bytes_eq name q ≡ b
        → cond b (Some (length names)) (position (bytes_eq q) names) ≡ option_or (position (bytes_eq q) names) (cond (bytes_eq q name) (Some (length names)) None)
    at q true e =
        let same = (bytes_eq-Decides name q).0 e in
        let absent = subst (λ z. position (bytes_eq z) names ≡ None) same none in
        let equal = subst (λ z. bytes_eq z name ≡ true) same ((bytes_eq-Decides name name).1 refl) in
        rw absent (rw equal refl)
    at q false e = rw (sym (nat_list_eq_equiv.symm name q) ∙ e) (sym (none_or (position (bytes_eq q) names)))

-- the same for entries with their names
pub names_push : {E : Type 0} (entries : List (List ℕ × E)) (name : List ℕ) (entry : E) → names_of (entries ++ (name, entry) ∷ []) ≡ names_of entries ++ name ∷ []
names_push [] name entry = refl
names_push (e ∷ entries) name entry = ap (λ xs. e.0 ∷ xs) (names_push entries name entry)

pub names-length : {E : Type 0} (entries : List (List ℕ × E)) → length (names_of entries) ≡ length entries
names-length [] = refl
names-length (e ∷ entries) = ap suc (names-length entries)

pub entered : {E : Type 0} (old new : BTreeMap (List ℕ) ℕ) (entries : List (List ℕ × E)) (name : List ℕ) (entry : E) → IsIndex old (names_of entries)
    → position (bytes_eq name) (names_of entries) ≡ None → PutsName name (length entries) old new → IsIndex new (names_of (entries ++ (name, entry) ∷ []))
entered old new entries name entry index none puts =
    subst (IsIndex new) (sym (names_push entries name entry))
    (placed old new (names_of entries) name index none (subst (λ n. PutsName name n old new) (sym (names-length entries)) puts))

pub put_is : (old new : BTreeMap (List ℕ) ℕ) (name : List ℕ) (place : ℕ) → Updates (slice_cmp nat_cmp) old new name (Some place) → PutsName name place old new
put_is old new name place h q = h.0 q ∙ ap (λ b. cond b (Some place) (get (slice_cmp nat_cmp) old q)) (is_eq-slice_cmp name q)

none_differ : IsDistinct bytes_eq []
unfolding IsDistinct
none_differ = tt

-- an index without entries
pub nothing_placed : (map : BTreeMap (List ℕ) ℕ) → map.entries ≡ [] → IsIndex map []
nothing_placed map none = record { each = λ q. rw none refl; distinct = none_differ }

-- the same entries
pub kept_placed : (old new : BTreeMap (List ℕ) ℕ) (names : List (List ℕ)) → new.entries ≡ old.entries → IsIndex old names → IsIndex new names
kept_placed old new names same index = record { each = λ q. ap (lookup (is_at (slice_cmp nat_cmp q))) same ∙ index.each q; distinct = index.distinct }

-- behind a step that puts an entry with its name, or leaves both lists as they are
pub stepped : {E T F : Type 0} (result : Result T F) (old new : BTreeMap (List ℕ) ℕ) (entries after : List (List ℕ × E)) (key name : List ℕ) (entry : E)
    → IsIndex old (names_of entries) → key ≡ name → position (bytes_eq name) (names_of entries) ≡ None
    → OnOk result (PutsName key (length entries) old new) → OnOk result (after ≡ entries ++ (name, entry) ∷ [])
    → OnErr result (new.entries ≡ old.entries) → OnErr result (after ≡ entries) → IsIndex new (names_of after)
stepped (Ok x) old new entries after key name entry index same none puts added kept stays =
    subst (λ es. IsIndex new (names_of es)) (sym added) (entered old new entries name entry index none (subst (λ k. PutsName k (length entries) old new) same puts))
stepped (Err e) old new entries after key name entry index same none puts added kept stays =
    subst (λ es. IsIndex new (names_of es)) (sym stays) (kept_placed old new (names_of entries) kept index)

pub absent : {X : Type 0} (found : Option X) → is_some found ≡ false → found ≡ None
absent None none = refl
absent (Some x) none = search none
