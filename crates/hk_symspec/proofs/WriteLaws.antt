-- What a state has behind a write.
use Rattle.std.proofs.Common.{◌≡◌, ◌≢◌, ◌<◌, ◌⊎◌, ℕ, Bool, true, false, ◌&&◌, Option, Some, None, List, [], ◌∷◌, length, arith, ap, sym, ◌∙◌, refl, inl, inr}
use Rattle.std.specs.Prelude.{if◌then◌else◌, nat_eq, slice_set, slice_index, slice_index_or}
use Rattle.std.proofs.lemmas.Bool.{eqb-true, eq-eqb, cases_eq}
use Rattle.std.proofs.lemmas.List.{length-set, get_or-set_same, get_or-set_other}
use Rattle.spec_tree.specs.Plain.{Key}
use Rattle.spec_tree.specs.Sorted.{FieldSort, no_field, product, key_sizes}
use Rattle.spec_tree.specs.Value.{place_behind}
use Rattle.spec_tree.specs.Meaning.{State, entry_set}
use Rattle.hk_symspec.specs.Ranges.{IsLong, same_numbers}
use Rattle.hk_symspec.proofs.PlaceLaws.{same_tuple}

equal_or_not : (a b : ℕ) → (a ≡ b) ⊎ (a ≢ b)
equal_or_not a b = cases_eq a b

set_long : (fields : List FieldSort) (state : State) (f p n : ℕ) → IsLong fields state → IsLong fields (entry_set state f (Some p) n)
set_long fields state f p n s = record {
  count = length-set state f (slice_set (slice_index_or state f []) p n) ∙ s.count;
  each = λ g l. by_field g l (equal_or_not g f);
}
  where
    by_field : (g : ℕ) → g < length fields → (g ≡ f) ⊎ (g ≢ f)
        → length (slice_index_or (slice_set state f (slice_set (slice_index_or state f []) p n)) g []) ≡ product (key_sizes (slice_index_or fields g no_field).keys)
    by_field g l (inl e) =
        let row : List ℕ = slice_set (slice_index_or state f []) p n in
        let low : f < length state = omega (arith, l, e, s.count) in
        ap (λ k. length (slice_index_or (slice_set state f row) k [])) e ∙ ap length (get_or-set_same state f row [] low)
        ∙ length-set (slice_index_or state f []) p n ∙ ap (λ k. length (slice_index_or state k [])) (sym e) ∙ s.each g l
    by_field g l (inr e) = ap length (get_or-set_other state f g (slice_set (slice_index_or state f []) p n) [] e) ∙ s.each g l

place_long : (fields : List FieldSort) (state : State) (f n : ℕ) (place : Option ℕ) → IsLong fields state → IsLong fields (entry_set state f place n)
place_long fields state f n None s = s
place_long fields state f n (Some p) s = set_long fields state f p n s

pub write_long : (fields : List FieldSort) (state : State) (f n : ℕ) (place : Option ℕ) (b : Bool) → IsLong fields state → IsLong fields (if b then entry_set state f place n else state)
write_long fields state f n place true s = place_long fields state f n place s
write_long fields state f n place false s = s

-- the entry of another field, and at another place
pub other_field : (state : State) (g f n p : ℕ) (place : Option ℕ) → f ≢ g → slice_index (slice_index_or (entry_set state g place n) f []) p ≡ slice_index (slice_index_or state f []) p
other_field state g f n p None e = refl
other_field state g f n p (Some q) e = ap (λ row. slice_index row p) (get_or-set_other state g f (slice_set (slice_index_or state g []) q n) [] e)

set_there : (state : State) (f n p : ℕ) → f < length state → p < length (slice_index_or state f []) → slice_index (slice_index_or (entry_set state f (Some p) n) f []) p ≡ n
set_there state f n p low short =
    ap (λ row. slice_index row p) (get_or-set_same state f (slice_set (slice_index_or state f []) p n) [] low)
    ∙ get_or-set_same (slice_index_or state f []) p n 0 short

set_elsewhere : (state : State) (f n p q : ℕ) → f < length state → p ≢ q → slice_index (slice_index_or (entry_set state f (Some q) n) f []) p ≡ slice_index (slice_index_or state f []) p
set_elsewhere state f n p q low e =
    ap (λ row. slice_index row p) (get_or-set_same state f (slice_set (slice_index_or state f []) q n) [] low)
    ∙ get_or-set_other (slice_index_or state f []) q p n 0 e

pub same_is : (is js : List ℕ) → length is ≡ length js → same_numbers is js ≡ true → is ≡ js
same_is [] [] l h = refl
same_is [] (j ∷ js) l h = absurd (omega (arith, l))
same_is (i ∷ is) [] l h = cc
same_is (i ∷ is) (j ∷ js) l h = let t = parts (nat_eq i j) (same_numbers is js) h in λ n. eqb-true i j t.0 n ∷ same_is is js (omega (arith, l)) t.1 n
  where
    parts : (a b : Bool) → (a && b) ≡ true → (a ≡ true) × (b ≡ true)
    parts true b e = (refl, e)
    parts false b e = cc

self_eq : (i : ℕ) → nat_eq i i ≡ true
self_eq i = eq-eqb i i refl

self_same : (is : List ℕ) → same_numbers is is ≡ true
self_same [] = refl
self_same (i ∷ is) = (λ n. self_eq i n && same_numbers is is) ∙ self_same is

-- the entry at a place behind a write to this field
pub entry_behind : (fields : List FieldSort) (state : State) (f n p g : ℕ) (keys : List Key) (is js : List ℕ) → IsLong fields state → f < length fields
    → keys ≡ (slice_index_or fields f no_field).keys → p < product (key_sizes keys) → length is ≡ length keys → length js ≡ length keys
    → place_behind 0 keys js ≡ Some p
    → slice_index (slice_index_or (if nat_eq g 1 then entry_set state f (place_behind 0 keys is) n else state) f []) p
    ≡ (if nat_eq g 1 && same_numbers is js then n else slice_index (slice_index_or state f []) p)
entry_behind fields state f n p g keys is js s low k short l m found = by_guard (nat_eq g 1)
  where
    there : f < length state
    there = omega (arith, low, s.count)

    within : p < length (slice_index_or state f [])
    within = let e : product (key_sizes keys) ≡ product (key_sizes (slice_index_or fields f no_field).keys) = ap (λ x. product (key_sizes x)) k in
        omega (arith, short, e, s.each f low)

    by_place : (place : Option ℕ) → place_behind 0 keys is ≡ place → (t : Bool) → same_numbers is js ≡ t
        → slice_index (slice_index_or (entry_set state f place n) f []) p ≡ (if t then n else slice_index (slice_index_or state f []) p)
    by_place place at true e =
        let q : place ≡ Some p = sym at ∙ ap (place_behind 0 keys) (same_is is js (l ∙ sym m) e) ∙ found in
        ap (λ x. slice_index (slice_index_or (entry_set state f x n) f []) p) q ∙ set_there state f n p there within
    by_place None at false e = refl
    by_place (Some q) at false e = set_elsewhere state f n p q there (λ same.
        let one : is ≡ js = same_tuple keys is js q l m at (found ∙ ap Some same) in
        let yes : same_numbers is js ≡ true = ap (λ x. same_numbers x js) one ∙ self_same js in
        apart (sym yes ∙ e))
      where
        apart : true ≡ false → ⊥
        apart h = cc

    by_guard : (b : Bool) → slice_index (slice_index_or (if b then entry_set state f (place_behind 0 keys is) n else state) f []) p
        ≡ (if b && same_numbers is js then n else slice_index (slice_index_or state f []) p)
    by_guard true = by_place (place_behind 0 keys is) refl (same_numbers is js) refl
    by_guard false = refl
