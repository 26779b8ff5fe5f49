-- Where an index tuple stands among those of a field, and what tuples there are.
use Rattle.std.proofs.Common.{◌≡◌, ◌+◌, ◌*◌, ◌/◌, ◌%◌, ◌<◌, ◌≤◌, ℕ, zero, suc, Bool, true, false, Option, Some, None, List, [], ◌∷◌, ◌++◌, map, length, arith, ap, sym, ◌∙◌, subst, refl, inl, inr}
use Rattle.std.specs.Prelude.{slice_get, slice_index, slice_index_or, All, if◌then◌else◌, nat_lt}
use Rattle.std.specs.List.{flat_map}
use Rattle.std.proofs.Math.Nat.{mul-le-mul_right, mul_assoc, add-mul, mod-lt, div-add-mod, div-lt_iff_lt-mul}
use Rattle.std.proofs.lemmas.Bool.{ltb-true, lt-ltb, le-ltb, cases_lt}
use Rattle.std.proofs.lemmas.List.{length-map, length-append, get_or_append_left, get_or-append-add, get_or-map}
use Rattle.std.proofs.lemmas.Grind.{flat_map-append}
use Rattle.std.proofs.lemmas.List.Elements.{All-append, All-push, All-map}
use Rattle.spec_tree.specs.Plain.{Key, Trees, entry}
use Rattle.spec_tree.specs.Sorted.{Context, no_field, product, key_sizes}
use Rattle.spec_tree.specs.Value.{Env, state_of, entry_at, place_behind, value, values, below, tuples, tuple_at}
use Rattle.spec_tree.specs.Shapes.{AreBelow}
use Rattle.spec_tree.specs.declared.expr.StateName.{StateName}

-- ---- places

chosen_none : (c : Bool) (p : Option ℕ) → p ≡ None → (if c then p else None) ≡ None
chosen_none true p h = h
chosen_none false p h = refl

taken : (c : Bool) (p : Option ℕ) (n : ℕ) → (if c then p else None) ≡ Some n → (c ≡ true) × (p ≡ Some n)
taken true p n h = (refl, h)
taken false p n h = cc

pub no_place : (keys : List Key) (indices : List ℕ) (k at : ℕ) (key : Key) → slice_get keys k ≡ Some key → key.size ≤ slice_index indices k → place_behind at keys indices ≡ None
no_place [] indices k at key g h = cc
no_place (a ∷ keys) [] k at key g h = refl
no_place (a ∷ keys) (i ∷ indices) zero at key g h =
    let e : a ≡ key = cc in
    let l : a.size ≤ i = subst (λ x. x.size ≤ i) (sym e) h in
    rw (le-ltb i a.size l) refl
no_place (a ∷ keys) (i ∷ indices) (suc k) at key g h =
    chosen_none (nat_lt i a.size) (place_behind (at * a.size + i) keys indices) (no_place keys indices k (at * a.size + i) key g h)

pub place_within : (keys : List Key) (indices : List ℕ) (at place : ℕ) → place_behind at keys indices ≡ Some place → place < (at + 1) * product (key_sizes keys)
place_within [] indices at place h = let e : at ≡ place = cc in omega (arith, e)
place_within (a ∷ keys) [] at place h = cc
place_within (a ∷ keys) (i ∷ indices) at place h =
    let t = taken (nat_lt i a.size) (place_behind (at * a.size + i) keys indices) place h in
    let low : i < a.size = ltb-true i a.size t.0 in
    let rest : place < (at * a.size + i + 1) * product (key_sizes keys) = place_within keys indices (at * a.size + i) place t.1 in
    let e : (at + 1) * a.size ≡ at * a.size + a.size = omega arith in
    let more : at * a.size + i + 1 ≤ (at + 1) * a.size = omega (arith, e, low) in
    let wide : (at * a.size + i + 1) * product (key_sizes keys) ≤ (at + 1) * a.size * product (key_sizes keys) = mul-le-mul_right (product (key_sizes keys)) more in
    subst (λ n. place < n) (mul_assoc (at + 1) a.size (product (key_sizes keys))) (omega (arith, rest, wide))

pub reads_nothing : (c : Context) (v : Env) (s : StateName) (f : ℕ) (at : Trees) (k : ℕ) (key : Key) → slice_get (slice_index_or c.fields f no_field).keys k ≡ Some key → key.size ≤ slice_index (values c v at) k → value c v (entry s f at) ≡ 0
reads_nothing c v s f at k key g h = ap (entry_at (slice_index_or (state_of v s) f [])) (no_place (slice_index_or c.fields f no_field).keys (values c v at) k 0 key g h)

-- ---- tuples

rows : (f : ℕ → List (List ℕ)) (m n : ℕ) → ((i : ℕ) → length (f i) ≡ m) → length (flat_map f (below n)) ≡ n * m
rows f m zero h = omega arith
rows f m (suc n) h =
    let e : flat_map f (below n ++ n ∷ []) ≡ flat_map f (below n) ++ flat_map f (n ∷ []) = flat_map-append f (below n) (n ∷ []) in
    let l : length (flat_map f (below n ++ n ∷ [])) ≡ length (flat_map f (below n)) + length (flat_map f (n ∷ [])) = ap length e ∙ length-append (flat_map f (below n)) (flat_map f (n ∷ [])) in
    let last : length (flat_map f (n ∷ [])) ≡ m = length-append (f n) [] ∙ omega (arith, h n) in
    omega (arith, l, last, rows f m n h)

pub how_many : (sizes : List ℕ) → length (tuples sizes) ≡ product sizes
how_many [] = refl
how_many (n ∷ ns) = rows (λ i. map (λ t. i ∷ t) (tuples ns)) (product ns) n (λ i. length-map (tuples ns) (λ t. i ∷ t) ∙ how_many ns)

rows_hold : (P : List ℕ → Type 0) (f : ℕ → List (List ℕ)) (n : ℕ) → ((i : ℕ) → i < n → All P (f i)) → All P (flat_map f (below n))
rows_hold P f zero h = λ k d l. absurd (omega (arith, l))
rows_hold P f (suc n) h =
    subst (All P) (sym (flat_map-append f (below n) (n ∷ [])))
    (All-append P (flat_map f (below n)) (flat_map f (n ∷ [])) (rows_hold P f n (λ i l. h i (omega (arith, l))))
    (All-append P (f n) [] (h n (omega arith)) (λ k d l. absurd (omega (arith, l)))))

pub all_below : (sizes : List ℕ) → All (AreBelow sizes) (tuples sizes)
all_below [] = All-push (AreBelow []) [] [] (λ k d l. absurd (omega (arith, l))) refl
all_below (n ∷ ns) =
    rows_hold (AreBelow (n ∷ ns)) (λ i. map (λ t. i ∷ t) (tuples ns)) n
    (λ i low. All-map (AreBelow (n ∷ ns)) (λ t. i ∷ t) (tuples ns) (λ k d l. (low, all_below ns k d l)))

-- ---- the k-th tuple

row_at : (f : ℕ → List (List ℕ)) (m n i j : ℕ) (d : List ℕ) → ((i : ℕ) → length (f i) ≡ m) → i < n → j < m → slice_index_or (flat_map f (below n)) (i * m + j) d ≡ slice_index_or (f i) j d
row_at f m zero i j d h low short = absurd (omega (arith, low))
row_at f m (suc n) i j d h low short =
    let e : flat_map f (below n ++ n ∷ []) ≡ flat_map f (below n) ++ flat_map f (n ∷ []) = flat_map-append f (below n) (n ∷ []) in
    let before : length (flat_map f (below n)) ≡ n * m = rows f m n h in
    ap (λ l. slice_index_or l (i * m + j) d) e ∙ elim (cases_lt i n) [
      | inl l ↦
          let whole : (i + 1) * m ≤ n * m = mul-le-mul_right m (omega (arith, l)) in
          let split : (i + 1) * m ≡ i * m + m = omega arith in
          get_or_append_left (flat_map f (below n)) (flat_map f (n ∷ [])) d (i * m + j) (omega (arith, before, whole, split, short))
          ∙ row_at f m n i j d h l short
      | inr l ↦
          let same : i ≡ n = omega (arith, l, low) in
          let place : i * m + j ≡ length (flat_map f (below n)) + j = ap (λ k. k * m + j) same ∙ omega (arith, before) in
          ap (λ k. slice_index_or (flat_map f (below n) ++ flat_map f (n ∷ [])) k d) place
          ∙ get_or-append-add (flat_map f (below n)) (flat_map f (n ∷ [])) j d
          ∙ get_or_append_left (f n) [] d j (omega (arith, h n, short))
          ∙ ap (λ k. slice_index_or (f k) j d) (sym same)
    ]

positive : (n p k : ℕ) → k < n * p → 0 < p
positive n zero k h = let e : n * 0 ≡ 0 = omega arith in absurd (omega (arith, h, e))
positive n (suc p) k h = omega arith

pub tuple_is : (sizes : List ℕ) (k : ℕ) (d : List ℕ) → k < product sizes → slice_index_or (tuples sizes) k d ≡ tuple_at sizes k
tuple_is [] zero d h = refl
tuple_is [] (suc k) d h = absurd (omega (arith, h))
tuple_is (n ∷ ns) k d h =
    let p = product ns in
    let f : ℕ → List (List ℕ) = λ i. map (λ t. i ∷ t) (tuples ns) in
    let some : 0 < p = positive n p k h in
    let low : k / p < n = (div-lt_iff_lt-mul some).1 h in
    let short : k % p < p = mod-lt k some in
    let place : k ≡ k / p * p + k % p = omega (arith, div-add-mod k p) in
    ap (λ i. slice_index_or (flat_map f (below n)) i d) place
    ∙ row_at f p n (k / p) (k % p) d (λ i. length-map (tuples ns) (λ t. i ∷ t) ∙ how_many ns) low short
    ∙ get_or-map (λ t. k / p ∷ t) (tuples ns) (k % p) d d (omega (arith, short, how_many ns))
    ∙ ap (λ t. k / p ∷ t) (tuple_is ns (k % p) d short)

pub place_is : (keys : List Key) (at k : ℕ) → k < product (key_sizes keys) → place_behind at keys (tuple_at (key_sizes keys) k) ≡ Some (at * product (key_sizes keys) + k)
place_is [] at k h = let e : at ≡ at * 1 + k = omega (arith, h) in ap Some e
place_is (a ∷ keys) at k h =
    let p = product (key_sizes keys) in
    let some : 0 < p = positive a.size p k h in
    let low : k / p < a.size = (div-lt_iff_lt-mul some).1 h in
    let split : k / p * p + k % p ≡ k = omega (arith, div-add-mod k p) in
    let whole : (at * a.size + k / p) * p + k % p ≡ at * (a.size * p) + k = omega (arith, add-mul (at * a.size) (k / p) p, mul_assoc at a.size p, split) in
    rw (lt-ltb (k / p) a.size low) (place_is keys (at * a.size + k / p) (k % p) (mod-lt k some) ∙ ap Some whole)

pub place_of_tuple : (keys : List Key) (k : ℕ) → k < product (key_sizes keys) → place_behind 0 keys (tuple_at (key_sizes keys) k) ≡ Some k
place_of_tuple keys k h = let e : 0 * product (key_sizes keys) + k ≡ k = omega arith in place_is keys 0 k h ∙ ap Some e
