-- States that are those of arrays.
use Rattle.std.proofs.Common.{◌≡◌, ◌+◌, ◌-◌, ◌%◌, ◌^◌, ◌<◌, ℕ, suc, List, [], ◌∷◌, length, get_or, arith, ap, sym, ◌∙◌, refl}
use Rattle.std.specs.Prelude.{All, slice_index, slice_index_or}
use Rattle.std.proofs.Math.Nat.{mod-eq_of_lt}
use Rattle.std.proofs.lemmas.List.{ext_get_or}
use Rattle.std.proofs.lemmas.List.FromFn.{length-map-range_with_len, get_or-map-range_with_len}
use Rattle.spec_tree.specs.Sorted.{FieldSort, key_sizes, product}
use Rattle.spec_tree.specs.Meaning.{State}
use Rattle.spec_tree.specs.Shapes.{IsState}
use Rattle.hk_symspec.specs.States.{array_entries, free_state}

zero_plus : (k : ℕ) → 0 + k ≡ k
zero_plus k = omega arith

row_given : (f : FieldSort) (array : ℕ → ℕ) (entries : List ℕ) → length entries ≡ product (key_sizes f.keys) → All (λ n. n < 2 ^ f.width) entries
    → ((j : ℕ) → array j ≡ slice_index entries j) → array_entries f array ≡ entries
row_given f array entries long small is = ext_get_or 0 (array_entries f array) entries (count ∙ sym long) each
  where
    count : length (array_entries f array) ≡ product (key_sizes f.keys)
    count = length-map-range_with_len (λ k. array k % 2 ^ f.width) 0 (product (key_sizes f.keys))

    each : (k : ℕ) → k < length (array_entries f array) → get_or (array_entries f array) k 0 ≡ get_or entries k 0
    each k l =
        get_or-map-range_with_len (λ k. array k % 2 ^ f.width) 0 (product (key_sizes f.keys)) k k 0 (omega (arith, l, count)) (zero_plus k)
        ∙ ap (λ n. n % 2 ^ f.width) (is k) ∙ mod-eq_of_lt (small k 0 (omega (arith, l, count, long)))

given_from : (fields : List FieldSort) (state : State) (first : ℕ) (entry : ℕ → ℕ → ℕ) → IsState fields state
    → ((k j : ℕ) → entry (first + k) j ≡ slice_index (slice_index_or state k []) j) → free_state first fields entry ≡ state
given_from [] state first entry h is = sym h
given_from (f ∷ fs) [] first entry h is = absurd h
given_from (f ∷ fs) (entries ∷ state) first entry h is =
    λ i. row_given f (entry first) entries h.0.0 h.0.1 (λ j. ap (λ n. entry n j) none ∙ is 0 j) i ∷ given_from fs state (first + 1) entry h.1 (λ k j. ap (λ n. entry n j) (next k) ∙ is (suc k) j) i
  where
    none : first ≡ first + 0
    none = omega arith

    next : (k : ℕ) → first + 1 + k ≡ first + suc k
    next k = omega arith

-- every state is that of some arrays
pub every_state : (fields : List FieldSort) (state : State) (first : ℕ) → IsState fields state → (entry : ℕ → ℕ → ℕ) × (free_state first fields entry ≡ state)
every_state fields state first h =
    let entry : ℕ → ℕ → ℕ = λ o j. slice_index (slice_index_or state (o - first) []) j in
    (entry, given_from fields state first entry h (λ k j. ap (λ n. slice_index (slice_index_or state n []) j) (back k)))
  where
    back : (k : ℕ) → first + k - first ≡ k
    back k = omega arith

row_alone : (f : FieldSort) (d e : ℕ → ℕ) → ((j : ℕ) → d j ≡ e j) → array_entries f d ≡ array_entries f e
row_alone f d e same = λ i. array_entries f (λ j. same j i)

-- it depends on these arrays alone
pub these_alone : (fields : List FieldSort) (first : ℕ) (d e : ℕ → ℕ → ℕ) → ((k j : ℕ) → k < length fields → d (first + k) j ≡ e (first + k) j) → free_state first fields d ≡ free_state first fields e
these_alone [] first d e same = refl
these_alone (f ∷ fs) first d e same =
    λ i. row_alone f (d first) (e first) (λ j. ap (λ n. d n j) none ∙ same 0 j (omega arith) ∙ ap (λ n. e n j) (sym none)) i
    ∷ these_alone fs (first + 1) d e (λ k j l. ap (λ n. d n j) (next k) ∙ same (suc k) j (omega (arith, l)) ∙ ap (λ n. e n j) (sym (next k))) i
  where
    none : first ≡ first + 0
    none = omega arith

    next : (k : ℕ) → first + 1 + k ≡ first + suc k
    next k = omega arith
