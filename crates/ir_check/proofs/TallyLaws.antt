-- Counts and first places in a longer list, and two lists in which each place stands as often.
use Rattle.std.proofs.Common.{Result, Ok, Err, OnOk, OnErr, ◌≡◌, ◌⊎◌, inl, inr, ℕ, ◌+◌, Bool, true, false, ◌&&◌, cond, List, [], ◌∷◌, ◌++◌, length, position, Option, None, Some, nat_eq, refl, sym, ap, subst, ◌∙◌, arith}
use Rattle.std.specs.Prelude.{count_by, option_map, ◌==◌}
use Rattle.std.specs.List.{position_from, list_all}
use Rattle.std.specs.Option.{option_or}
use Rattle.std.specs.BTreeMap.{BTreeMap, get, is_at, Updates}
use Rattle.std.specs.Map.{lookup}
use Rattle.std.specs.Ordering.{nat_cmp, is_eq}
use Rattle.std.proofs.lemmas.Bool.{eqb-true, cases_Bool}
use Rattle.std.proofs.lemmas.List.Sums.{sum_by-cons, sum_by-append}
use Rattle.std.proofs.lemmas.Iterator.Adapters.{position_from-zero}
use Rattle.ir_check.specs.declared.tally.Seen.{Seen}
use Rattle.ir_check.specs.Tallies.{times_at, seen_in, IsTallied, Puts, IsOneMore, agrees_at}

pub count-cons : {X : Type 0} (p : X → Bool) (x : X) (xs : List X) → count_by p (x ∷ xs) ≡ cond (p x) (1 + count_by p xs) (count_by p xs)
count-cons {X} p x xs = sum_by-cons (λ y. cond (p y) 1 0) x xs ∙ by (p x)
  where
    by : (b : Bool) → cond b 1 0 + count_by p xs ≡ cond b (1 + count_by p xs) (count_by p xs)
    by true = refl
    by false = omega arith

pub count-append : {X : Type 0} (p : X → Bool) (xs ys : List X) → count_by p (xs ++ ys) ≡ count_by p xs + count_by p ys
count-append p xs ys = sum_by-append (λ y. cond (p y) 1 0) xs ys

pub count_one : {X : Type 0} (p : X → Bool) (xs : List X) (x : X) → count_by p (xs ++ x ∷ []) ≡ cond (p x) (count_by p xs + 1) (count_by p xs)
count_one {X} p xs x = count-append p xs (x ∷ []) ∙ ap (λ n. count_by p xs + n) (count-cons p x []) ∙ by (p x)
  where
    by : (b : Bool) → count_by p xs + cond b (1 + 0) 0 ≡ cond b (count_by p xs + 1) (count_by p xs)
    by true = refl
    by false = omega arith

from-push : {X : Type 0} (t : X → Bool) (i : ℕ) (xs : List X) (x : X) → position_from t i (xs ++ x ∷ []) ≡ option_or (position_from t i xs) (cond (t x) (Some (i + length xs)) None)
from-push t i [] x =
    let none_more : i ≡ i + 0 = omega arith in
    ap (λ n. cond (t x) (Some n) None) none_more
from-push {X} t i (y ∷ xs) x = by (t y) (from-push t (i + 1) xs x ∙ ap (λ n. option_or (position_from t (i + 1) xs) (cond (t x) (Some n) None)) (omega arith))
  where
    by : (b : Bool) → position_from t (i + 1) (xs ++ x ∷ []) ≡ option_or (position_from t (i + 1) xs) (cond (t x) (Some (i + length (y ∷ xs))) None)
        → cond b (Some i) (position_from t (i + 1) (xs ++ x ∷ [])) ≡ option_or (cond b (Some i) (position_from t (i + 1) xs)) (cond (t x) (Some (i + length (y ∷ xs))) None)
    by true rest = refl
    by false rest = rest

pub place-push : (q : ℕ) (xs : List ℕ) (x : ℕ) → position (nat_eq q) (xs ++ x ∷ []) ≡ option_or (position (nat_eq q) xs) (cond (nat_eq q x) (Some (length xs)) None)
place-push q xs x =
    let zero_more : 0 + length xs ≡ length xs = omega arith in
    position_from-zero (nat_eq q) (xs ++ x ∷ [])
    ∙ from-push (nat_eq q) 0 xs x
    ∙ ap (λ k. option_or (position_from (nat_eq q) 0 xs) (cond (nat_eq q x) (Some k) None)) zero_more
    ∙ ap (λ o. option_or o (cond (nat_eq q x) (Some (length xs)) None)) (sym (position_from-zero (nat_eq q) xs))

-- what has no place does not stand there
absent_from : {X : Type 0} (t : X → Bool) (i : ℕ) (xs : List X) → position_from t i xs ≡ None → count_by t xs ≡ 0
absent_from t i [] none = refl
absent_from {X} t i (x ∷ xs) none = count-cons t x xs ∙ by (t x) none (absent_from t (i + 1) xs)
  where
    by : (b : Bool) → cond b (Some i) (position_from t (i + 1) xs) ≡ None → (position_from t (i + 1) xs ≡ None → count_by t xs ≡ 0) → cond b (1 + count_by t xs) (count_by t xs) ≡ 0
    by true some rest = search some
    by false none rest = rest none

pub absent_count : {X : Type 0} (t : X → Bool) (xs : List X) → position t xs ≡ None → count_by t xs ≡ 0
absent_count t xs none = absent_from t 0 xs (sym (position_from-zero t xs) ∙ none)

-- ---- one more

key_is : (k q : ℕ) → is_eq (nat_cmp k q) ≡ nat_eq k q
key_is k q = grind arith

pub put_is : (old new : BTreeMap ℕ Seen) (place : ℕ) (more : Seen) → Updates nat_cmp old new place (Some more) → Puts place more old new
put_is old new place more h q = h.0 q ∙ ap (λ b. cond b (Some more) (get nat_cmp old q)) (key_is place q)

eq_sym : (a b : ℕ) → nat_eq a b ≡ nat_eq b a
eq_sym a b = grind arith

pub eq_self : (a : ℕ) → nat_eq a a ≡ true
eq_self a = grind arith

seen_more : (places : List ℕ) (place : ℕ) (more : Seen) → IsOneMore (seen_in places place) (length places) more
    → Some more ≡ seen_in (places ++ place ∷ []) place
seen_more places place more one =
    pick (position (nat_eq place) places) refl one
    ∙ sym (ap (λ o. option_map (λ k. record { first = k; count = times_at (places ++ place ∷ []) place }) o) (place-push place places place ∙ ap (λ b. option_or (position (nat_eq place) places) (cond b (Some (length places)) None)) (eq_self place)))
  where
    counted : times_at (places ++ place ∷ []) place ≡ times_at places place + 1
    counted = count_one (nat_eq place) places place ∙ ap (λ b. cond b (times_at places place + 1) (times_at places place)) (eq_self place)

    row : ℕ → ℕ → Seen
    row k n = record { first = k; count = n }

    pick : (o : Option ℕ) → position (nat_eq place) places ≡ o → IsOneMore (option_map (λ k. record { first = k; count = times_at places place }) o) (length places) more
        → Some more ≡ option_map (λ k. row k (times_at (places ++ place ∷ []) place)) (option_or o (cond true (Some (length places)) None))
    pick None none m =
        let one : 1 ≡ times_at places place + 1 = (let z = absent_count (nat_eq place) places none in omega (arith, z)) in
        ap Some (m ∙ ap (row (length places)) (one ∙ sym counted))
    pick (Some k) some m = ap Some (m ∙ ap (row k) (sym counted))

seen_other : (places : List ℕ) (place q : ℕ) → nat_eq q place ≡ false → seen_in places q ≡ seen_in (places ++ place ∷ []) q
seen_other places place q e =
    ap (λ o. option_map (λ k. record { first = k; count = times_at places q }) o) (sym (none_or (position (nat_eq q) places)) ∙ sym (place-push q places place ∙ ap (λ b. option_or (position (nat_eq q) places) (cond b (Some (length places)) None)) e))
    ∙ ap (λ n. option_map (λ k. record { first = k; count = n }) (position (nat_eq q) (places ++ place ∷ []))) (sym (count_one (nat_eq q) places place ∙ ap (λ b. cond b (times_at places q + 1) (times_at places q)) e))
  where
    none_or : {X : Type 0} (o : Option X) → option_or o None ≡ o
    none_or None = refl
    none_or (Some x) = refl

pub tallied : (old new : BTreeMap ℕ Seen) (places : List ℕ) (place : ℕ) (more : Seen) (found : Option Seen) → IsTallied old places → found ≡ get nat_cmp old place → IsOneMore found (length places) more
    → Puts place more old new → IsTallied new (places ++ place ∷ [])
tallied old new places place more found index is one puts = record { each = λ q. puts q ∙ at q (cases_Bool (nat_eq place q)) }
  where
    now : IsOneMore (seen_in places place) (length places) more
    now = subst (λ o. IsOneMore o (length places) more) (is ∙ index.each place) one

    at : (q : ℕ) → (nat_eq place q ≡ true) ⊎ (nat_eq place q ≡ false) → cond (nat_eq place q) (Some more) (get nat_cmp old q) ≡ seen_in (places ++ place ∷ []) q
    at q (inl e) =
        ap (λ b. cond b (Some more) (get nat_cmp old q)) e
        ∙ seen_more places place more now ∙ ap (seen_in (places ++ place ∷ [])) (eqb-true place q e)
    at q (inr e) =
        ap (λ b. cond b (Some more) (get nat_cmp old q)) e
        ∙ index.each q ∙ seen_other places place q (eq_sym q place ∙ e)

pub nothing_tallied : (map : BTreeMap ℕ Seen) → map.entries ≡ [] → IsTallied map []
nothing_tallied map none = record { each = λ q. rw none refl }

pub kept_tallied : (old new : BTreeMap ℕ Seen) (places : List ℕ) → new.entries ≡ old.entries → IsTallied old places → IsTallied new places
kept_tallied old new places same index = record { each = λ q. ap (lookup (is_at (nat_cmp q))) same ∙ index.each q }

pub counted_none : (places : List ℕ) (q : ℕ) → seen_in places q ≡ None → 0 ≡ times_at places q
counted_none places q e = pick (position (nat_eq q) places) refl e
  where
    row : ℕ → Seen
    row k = record { first = k; count = times_at places q }

    pick : (o : Option ℕ) → position (nat_eq q) places ≡ o → option_map row o ≡ None → 0 ≡ times_at places q
    pick None none n = sym (absent_count (nat_eq q) places none)
    pick (Some k) some n = search n

-- ---- each place as often

and_left : (a b : Bool) → (a && b) ≡ true → a ≡ true
and_left true b e = refl
and_left false b e = absurd cc

and_right : (a b : Bool) → (a && b) ≡ true → b ≡ true
and_right true b e = e
and_right false b e = absurd cc

tried : (f : ℕ → Bool) (xs : List ℕ) (q : ℕ) → list_all f xs ≡ true → (times_at xs q ≡ 0) ⊎ (f q ≡ true)
tried f [] q all = inl refl
tried f (x ∷ xs) q all = by (cases_Bool (nat_eq q x)) (tried f xs q)
  where
    by : (nat_eq q x ≡ true) ⊎ (nat_eq q x ≡ false) → (list_all f xs ≡ true → (times_at xs q ≡ 0) ⊎ (f q ≡ true)) → (times_at (x ∷ xs) q ≡ 0) ⊎ (f q ≡ true)
    by (inl e) more = inr (ap f (eqb-true q x e) ∙ and_left (f x) (list_all f xs) all)
    by (inr e) more = rest (more (and_right (f x) (list_all f xs) all))
      where
        rest : (times_at xs q ≡ 0) ⊎ (f q ≡ true) → (times_at (x ∷ xs) q ≡ 0) ⊎ (f q ≡ true)
        rest (inl z) = inl (count-cons (nat_eq q) x xs ∙ ap (λ b. cond b (1 + times_at xs q) (times_at xs q)) e ∙ z)
        rest (inr t) = inr t

pub as_often : (a b : List ℕ) → (list_all (agrees_at a b) a && list_all (agrees_at a b) b) ≡ true → (q : ℕ) → times_at a q ≡ times_at b q
as_often a b e q = by (tried (agrees_at a b) a q (and_left (list_all (agrees_at a b) a) (list_all (agrees_at a b) b) e)) (tried (agrees_at a b) b q (and_right (list_all (agrees_at a b) a) (list_all (agrees_at a b) b) e))
  where
    by : (times_at a q ≡ 0) ⊎ (agrees_at a b q ≡ true) → (times_at b q ≡ 0) ⊎ (agrees_at a b q ≡ true) → times_at a q ≡ times_at b q
    by (inr t) other = eqb-true (times_at a q) (times_at b q) t
    by (inl x) (inr t) = eqb-true (times_at a q) (times_at b q) t
    by (inl x) (inl y) = x ∙ sym y

all_hold : (f : ℕ → Bool) (xs : List ℕ) → ((q : ℕ) → f q ≡ true) → list_all f xs ≡ true
all_hold f [] each = refl
all_hold f (x ∷ xs) each = rw (each x) (all_hold f xs each)

pub not_as_often : (a b : List ℕ) → (list_all (agrees_at a b) a && list_all (agrees_at a b) b) ≡ false → ((q : ℕ) → times_at a q ≡ times_at b q) → ⊥
not_as_often a b e same = clash (list_all (agrees_at a b) a) (list_all (agrees_at a b) b) (all_hold (agrees_at a b) a each) (all_hold (agrees_at a b) b each) e
  where
    each : (q : ℕ) → agrees_at a b q ≡ true
    each q = ap (λ n. n == times_at b q) (same q) ∙ eq_self (times_at b q)

    clash : (s t : Bool) → s ≡ true → t ≡ true → (s && t) ≡ false → ⊥
    clash s t x y z = cc

-- ---- behind a step that puts a place, or leaves all as it was

pub stepped : {T F : Type 0} (result : Result T F) (old new : BTreeMap ℕ Seen) (places after : List ℕ) (place : ℕ) (more : Seen) (found : Option Seen) → IsTallied old places
    → found ≡ get nat_cmp old place → IsOneMore found (length places) more
    → OnOk result (Puts place more old new) → OnOk result (after ≡ places ++ place ∷ [])
    → OnErr result (new.entries ≡ old.entries) → OnErr result (after ≡ places) → IsTallied new after
stepped (Ok x) old new places after place more found index is one puts added kept stays = subst (IsTallied new) (sym added) (tallied old new places place more found index is one puts)
stepped (Err e) old new places after place more found index is one puts added kept stays = subst (IsTallied new) (sym stays) (kept_tallied old new places kept index)
