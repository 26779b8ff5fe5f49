-- Entries that are those of arrays.
use Rattle.std.proofs.Common.{◌≡◌, ◌+◌, ◌*◌, ◌%◌, ◌^◌, ◌<◌, ◌≤◌, ℕ, zero, suc, Some, List, [], ◌∷◌, length, drop, arith, ap, sym, ◌∙◌, refl}
use Rattle.std.specs.Prelude.{nat_lt, slice_get, slice_index, slice_index_or}
use Rattle.std.proofs.lemmas.List.FromFn.{length-map-range_with_len, get_or-map-range_with_len}
use Rattle.hk_term.specs.Meaning.{Reading, value}
use Rattle.hk_term.specs.declared.node.Node.{Node}
use Rattle.spec_tree.specs.Plain.{Key}
use Rattle.spec_tree.specs.Sorted.{FieldSort, no_field, key_sizes, product}
use Rattle.spec_tree.specs.Value.{place_behind}
use Rattle.spec_tree.specs.Meaning.{State}
use Rattle.spec_tree.specs.Shapes.{IsState}
use Rattle.hk_symexpr.specs.Naming.{index_values}
use Rattle.hk_symexpr.specs.declared.names.Limit.{Limit}
use Rattle.hk_symspec.specs.States.{array_entries, free_state}
use Rattle.hk_symspec.specs.Ranges.{IsLong}
use Rattle.hk_symspec.proofs.Turning.{left_at, none_left}
use Rattle.hk_symspec.proofs.PlaceLaws.{place_above, taken}

-- entry p of a field is entry p of its array
pub array_number : (fields : List FieldSort) (first field p : ℕ) (entry : ℕ → ℕ → ℕ) → field < length fields → p < product (key_sizes (slice_index_or fields field no_field).keys)
    → slice_index (slice_index_or (free_state first fields entry) field []) p ≡ entry (first + field) p % 2 ^ (slice_index_or fields field no_field).width
array_number [] first field p entry l low = absurd (omega (arith, l))
array_number (f ∷ fs) first zero p entry l low =
    let none : 0 + p ≡ p = omega arith in let same : first ≡ first + 0 = omega arith in
    get_or-map-range_with_len (λ k. entry first k % 2 ^ f.width) 0 (product (key_sizes f.keys)) p p 0 low none ∙ ap (λ n. entry n p % 2 ^ f.width) same
array_number (f ∷ fs) first (suc field) p entry l low =
    let same : first + 1 + field ≡ first + suc field = omega arith in
    array_number fs (first + 1) field p entry (omega (arith, l)) low ∙ ap (λ n. entry n p % 2 ^ (slice_index_or fs field no_field).width) same

pub long_push : (f : FieldSort) (fs : List FieldSort) (entries : List ℕ) (state : State) → length entries ≡ product (key_sizes f.keys) → IsLong fs state → IsLong (f ∷ fs) (entries ∷ state)
long_push f fs entries state e s = record { count = ap suc s.count; each = each }
  where
    each : (k : ℕ) → k < length (f ∷ fs) → length (slice_index_or (entries ∷ state) k []) ≡ product (key_sizes (slice_index_or (f ∷ fs) k no_field).keys)
    each zero l = e
    each (suc k) l = s.each k (omega (arith, l))

pub free_long : (fields : List FieldSort) (first : ℕ) (entry : ℕ → ℕ → ℕ) → IsLong fields (free_state first fields entry)
free_long [] first entry = record { count = refl; each = λ f l. absurd (omega (arith, l)) }
free_long (f ∷ fs) first entry =
    long_push f fs (array_entries f (entry first)) (free_state (first + 1) fs entry) (length-map-range_with_len (λ k. entry first k % 2 ^ f.width) 0 (product (key_sizes f.keys))) (free_long fs (first + 1) entry)

pub state_long : (fields : List FieldSort) (state : State) → IsState fields state → IsLong fields state
state_long [] state h = record { count = ap length h; each = λ f l. absurd (omega (arith, l)) }
state_long (f ∷ fs) [] h = absurd h
state_long (f ∷ fs) (entries ∷ state) h = long_push f fs entries state h.0.0 (state_long fs state h.1)

-- behind the place of the indices so far, those that are left lead to the whole place
pub place_on : (nodes : List Node) (keys : List Key) (index : List Limit) (k : ℕ) (v : Reading) (at next p : ℕ) (key : Key) (i : Limit)
    → slice_get keys k ≡ Some key → slice_get index k ≡ Some i
    → (at * key.size + value nodes i.term v < 2 ^ 64 → next ≡ at * key.size + value nodes i.term v)
    → p < 2 ^ 64
    → place_behind at (drop k keys) (index_values nodes (drop k index) v) ≡ Some p → place_behind next (drop (k + 1) keys) (index_values nodes (drop (k + 1) index) v) ≡ Some p
place_on nodes keys index k v at next p key i a b step small found =
    let n : ℕ = value nodes i.term v in
    let opened : place_behind at (key ∷ drop (suc k) keys) (index_values nodes (i ∷ drop (suc k) index) v) ≡ Some p =
    (λ j. place_behind at (sym (left_at keys k key a) j) (index_values nodes (sym (left_at index k i b) j) v)) ∙ found in
    let t = taken (nat_lt n key.size) (place_behind (at * key.size + n) (drop (suc k) keys) (index_values nodes (drop (suc k) index) v)) p opened in
    let low : at * key.size + n ≤ p = place_above (at * key.size + n) (drop (suc k) keys) (index_values nodes (drop (suc k) index) v) p t.1 in
    let one : k + 1 ≡ suc k = omega arith in
    (λ j. place_behind next (drop (one j) keys) (index_values nodes (drop (one j) index) v))
    ∙ ap (λ x. place_behind x (drop (suc k) keys) (index_values nodes (drop (suc k) index) v)) (step (omega (arith, low, small))) ∙ t.1

pub place_end : (nodes : List Node) (keys : List Key) (index : List Limit) (k : ℕ) (v : Reading) (at p : ℕ) → length keys ≤ k
    → place_behind at (drop k keys) (index_values nodes (drop k index) v) ≡ Some p → at ≡ p
place_end nodes keys index k v at p high found =
    let e : Some at ≡ Some p = ap (λ l. place_behind at l (index_values nodes (drop k index) v)) (sym (none_left keys k high)) ∙ found in cc
