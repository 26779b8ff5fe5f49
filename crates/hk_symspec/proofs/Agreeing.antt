-- Fields that have the same entries at all index tuples.
use Rattle.std.proofs.Common.{◌≡◌, ◌↔◌, ◌+◌, ◌-◌, ◌/◌, ◌%◌, ◌<◌, ◌≤◌, ◌^◌, ℕ, zero, suc, Bool, true, false, Some, List, [], ◌∷◌, ◌++◌, length, take, get_or, mod-eq_of_lt, arith, ap, sym, ◌∙◌, subst, refl}
use Rattle.std.specs.Prelude.{nat_eq, slice_get, slice_index, slice_index_or}
use Rattle.std.specs.List.{list_all}
use Rattle.std.proofs.Math.Nat.{pow-le-pow_right}
use Rattle.std.proofs.lemmas.Bool.{eqb-true, eq-eqb}
use Rattle.std.proofs.lemmas.List.{length-map, ext_get_or, take_more}
use Rattle.std.proofs.lemmas.Option.{get_or_from_slice_get, slice_get_within}
use Rattle.std.proofs.lemmas.List.Folds.{list_all_at}
use Rattle.std.proofs.lemmas.List.Elements.{All-cons, All-map}
use Rattle.hk_term.specs.Operations.{bit}
use Rattle.hk_term.specs.Shape.{width}
use Rattle.hk_term.specs.Meaning.{Reading, every_tuple, value}
use Rattle.hk_term.specs.declared.node.Node.{Node}
use Rattle.spec_tree.specs.Plain.{Key, Spec}
use Rattle.spec_tree.specs.Sorted.{IsFieldSort, IsWellSorted, field_sorts, key_sizes, no_field, product, sort_of}
use Rattle.spec_tree.specs.Shapes.{AreBelow}
use Rattle.spec_tree.specs.Value as tree
use Rattle.spec_tree.specs.Value.{entry_at, place_behind, tuple_at, tuples}
use Rattle.spec_tree.proofs.Entries.{all_below, how_many, place_of_tuple, tuple_is}
use Rattle.hk_symexpr.specs.Sources.{Agrees, Keeps}
use Rattle.hk_symexpr.specs.Naming.{AreIndexTerms, AreLimited, AreSteady, bounds_from, index_values, variables_from}
use Rattle.hk_symexpr.specs.declared.names.Limit.{Limit}
use Rattle.hk_symexpr.proofs.Tuples.{all_same, every_tuple_is, variables_agree, variables_are, with_vars, with_vars_agree}
use Rattle.hk_symspec.specs.States.{StateView, base_at, state_at}
use Rattle.hk_symspec.specs.Standing.{IsStateOver, IsSteady, IsSteadyMemory, entry_base, formula_base}
use Rattle.hk_symspec.specs.Ranges.{IsLong}
use Rattle.hk_symspec.specs.KeptLaws.{KeepsValues, kernel_at_kept, state_kept}
use Rattle.hk_symspec.specs.Agreement.{AreKeyVariables, IsKeyVariable}
use Rattle.hk_symspec.proofs.OverlayLaws.{writes_long}
use Rattle.hk_symspec.proofs.ReadLaws.{base_long}

-- ---- variables for keys

pub cut_width : (w : ℕ) → 1 ≤ w → suc (w - 1) - 0 ≡ w
cut_width w h = omega (arith, h)

-- a variable of 64 bits, cut to a width that has its number
pub cut_is : (n w size : ℕ) → 1 ≤ w → w ≤ 64 → size ≤ 2 ^ w → n < size → n % 2 ^ 64 / 2 ^ 0 % 2 ^ (suc (w - 1) - 0) ≡ n
cut_is n w size some few most low =
    let room : 2 ^ w ≤ 2 ^ 64 = pow-le-pow_right {n = 2} (omega arith) {i = w} {j = 64} few in
    let whole : n % 2 ^ 64 ≡ n = mod-eq_of_lt (omega (arith, low, most, room)) in
    let first : n % 2 ^ 64 / 2 ^ 0 ≡ n % 2 ^ 64 = omega arith in
    let small : n < 2 ^ w = omega (arith, low, most) in
    (λ i. (first ∙ whole) i % 2 ^ cut_width w some i) ∙ mod-eq_of_lt small

taken_length : {X : Type 0} (xs : List X) (k : ℕ) (x : X) → slice_get xs k ≡ Some x → length (take k xs) ≡ k
taken_length [] k x h = cc
taken_length (y ∷ xs) zero x h = refl
taken_length (y ∷ xs) (suc k) x h = ap suc (taken_length xs k x h)

push_variable : (nodes : List Node) (id : ℕ) (keys : List Key) (index : List Limit) (k : Key) (l : Limit) → AreKeyVariables nodes id keys index → IsKeyVariable nodes (id + length keys) k l
    → AreKeyVariables nodes id (keys ++ k ∷ []) (index ++ l ∷ [])
push_variable nodes id [] index k l h g =
    let P : ℕ → Type 0 = λ j. IsKeyVariable nodes j k l in
    let e : id + 0 ≡ id = omega arith in
    let Q : List Limit → Type 0 = λ ls. AreKeyVariables nodes id (k ∷ []) (ls ++ l ∷ []) in
    subst Q (sym h) (subst P e g, refl)
push_variable nodes id (x ∷ ks) [] k l h g = absurd h
push_variable nodes id (x ∷ ks) (y ∷ ls) k l h g =
    let P : ℕ → Type 0 = λ j. IsKeyVariable nodes j k l in
    let e : id + suc (length ks) ≡ id + 1 + length ks = omega arith in
    (h.0, push_variable nodes (id + 1) ks ls k l h.1 (subst P e g))

variables_kept : (old new : List Node) (id : ℕ) (keys : List Key) (index : List Limit) → length old ≤ length new → ((k : ℕ) → k < length old → width new k ≡ width old k) → KeepsValues old new
    → AreKeyVariables old id keys index → AreKeyVariables new id keys index
variables_kept old new id [] index longer widths values h = h
variables_kept old new id (k ∷ ks) [] longer widths values h = h
variables_kept old new id (k ∷ ks) (l ∷ ls) longer widths values h =
    let one : IsKeyVariable new id k l = record {
      within = omega (arith, h.0.within, longer);
      width_is = widths l.term h.0.within ∙ h.0.width_is;
      value_is = λ v low. values l.term h.0.within v ∙ h.0.value_is v low;
      most_is = h.0.most_is;
    } in
    (one, variables_kept old new (id + 1) ks ls longer widths values h.1)

pub variables_on : (old new : List Node) (id : ℕ) (keys : List Key) (k : ℕ) (key : Key) (l : Limit) (index : List Limit) → slice_get keys k ≡ Some key
    → length old ≤ length new → ((j : ℕ) → j < length old → width new j ≡ width old j) → KeepsValues old new
    → AreKeyVariables old id (take k keys) index → IsKeyVariable new (id + k) key l → AreKeyVariables new id (take (k + 1) keys) (index ++ l ∷ [])
variables_on old new id keys k key l index there longer widths values h g =
    let more : take (k + 1) keys ≡ take k keys ++ key ∷ [] = take_more keys k key (slice_get_within keys k key there) ∙ ap (λ x. take k keys ++ x ∷ []) (get_or_from_slice_get keys k key key there) in
    let P : ℕ → Type 0 = λ j. IsKeyVariable new (id + j) key l in
    let Q : List Key → Type 0 = λ ks. AreKeyVariables new id ks (index ++ l ∷ []) in
    subst Q (sym more) (push_variable new id (take k keys) index key l (variables_kept old new id (take k keys) index longer widths values h) (subst P (sym (taken_length keys k key there)) g))

pub variable_terms : (nodes : List Node) (id : ℕ) (keys : List Key) (index : List Limit) → AreKeyVariables nodes id keys index → AreIndexTerms nodes keys index
variable_terms nodes id [] index h = h
variable_terms nodes id (k ∷ ks) [] h = h
variable_terms nodes id (k ∷ ks) (l ∷ ls) h = (h.0.within, h.0.width_is, variable_terms nodes (id + 1) ks ls h.1)

variable_values : (nodes : List Node) (id : ℕ) (keys : List Key) (index : List Limit) (v : Reading) → AreKeyVariables nodes id keys index → AreBelow (key_sizes keys) (variables_from id (key_sizes keys) v)
    → index_values nodes index v ≡ variables_from id (key_sizes keys) v
variable_values nodes id [] index v h low = ap (λ l. index_values nodes l v) h
variable_values nodes id (k ∷ ks) [] v h low = absurd h
variable_values nodes id (k ∷ ks) (l ∷ ls) v h low = λ i. h.0.value_is v low.0 i ∷ variable_values nodes (id + 1) ks ls v h.1 low.1 i

variables_limited : (nodes : List Node) (id : ℕ) (keys : List Key) (index : List Limit) (v : Reading) → AreKeyVariables nodes id keys index → AreBelow (key_sizes keys) (variables_from id (key_sizes keys) v)
    → AreLimited nodes index v
variables_limited nodes id [] index v h low = λ k d l. let e : length index ≡ 0 = ap length h in absurd (omega (arith, l, e))
variables_limited nodes id (k ∷ ks) [] v h low = absurd h
variables_limited nodes id (k ∷ ks) (l ∷ ls) v h low =
    let P : Limit → Type 0 = λ i. value nodes i.term v ≤ i.most in
    let one : P l = omega (arith, h.0.value_is v low.0, h.0.most_is (v.var id) low.0) in
    All-cons P l ls one (variables_limited nodes (id + 1) ks ls v h.1 low.1)

-- ---- entries at all tuples

same_bit : (b : Bool) → tree.bit b ≡ bit b
same_bit true = refl
same_bit false = refl

bit_one : (b : Bool) → nat_eq (bit b) 1 ≡ b
bit_one true = refl
bit_one false = refl

bit_true : (b : Bool) → bit b ≡ 1 → b ≡ true
bit_true true h = refl
bit_true false h = cc

apart : true ≡ false → ⊥
apart h = cc

at_true : {X : Type 0} (p : X → Bool) (xs : List X) (i : ℕ) (d : X) → i < length xs → list_all p xs ≡ true → p (get_or xs i d) ≡ true
at_true p xs i d low h = by_test (p (get_or xs i d)) refl
  where
    by_test : (b : Bool) → p (get_or xs i d) ≡ b → p (get_or xs i d) ≡ true
    by_test true e = e
    by_test false e = absurd (apart (sym h ∙ list_all_at p xs i d low e))

all_true : {X : Type 0} (p : X → Bool) (xs : List X) → ((x : X) → p x ≡ true) → list_all p xs ≡ true
all_true p [] h = refl
all_true p (x ∷ xs) h = rw (h x) (all_true p xs h)

abbrev same_entry : List Key → List ℕ → List ℕ → List ℕ → Bool
same_entry keys row other t = nat_eq (entry_at row (place_behind 0 keys t)) (entry_at other (place_behind 0 keys t))

rows_agree : (keys : List Key) (row other : List ℕ) → length row ≡ product (key_sizes keys) → length other ≡ product (key_sizes keys)
    → list_all (same_entry keys row other) (tuples (key_sizes keys)) ≡ true → row ≡ other
rows_agree keys row other m n h = ext_get_or 0 row other (m ∙ sym n) (λ i low.
    let short : i < product (key_sizes keys) = omega (arith, low, m) in
    let t : List ℕ = get_or (tuples (key_sizes keys)) i [] in
    let place : place_behind 0 keys t ≡ Some i = ap (place_behind 0 keys) (tuple_is (key_sizes keys) i [] short) ∙ place_of_tuple keys i short in
    let one : same_entry keys row other t ≡ true = at_true (same_entry keys row other) (tuples (key_sizes keys)) i [] (omega (arith, short, how_many (key_sizes keys))) h in
    eqb-true (slice_index row i) (slice_index other i) (sym (ap (λ x. nat_eq (entry_at row x) (entry_at other x)) place) ∙ one))

rows_same : (keys : List Key) (row other : List ℕ) → row ≡ other → list_all (same_entry keys row other) (tuples (key_sizes keys)) ≡ true
rows_same keys row other e = all_true (same_entry keys row other) (tuples (key_sizes keys)) (λ t. eq-eqb (entry_at row (place_behind 0 keys t)) (entry_at other (place_behind 0 keys t)) (ap (λ r. entry_at r (place_behind 0 keys t)) e))

pub agree : (keys : List Key) (row other : List ℕ) (body : Reading → ℕ) (v : Reading) (made : ℕ) → length row ≡ product (key_sizes keys) → length other ≡ product (key_sizes keys)
    → made ≡ tree.bit (every_tuple (bounds_from formula_base (key_sizes keys)) (λ u. nat_eq (body u) 1) v)
    → ((t : List ℕ) → AreBelow (key_sizes keys) t → body (with_vars v formula_base t) ≡ bit (same_entry keys row other t))
    → (made ≡ 1) ↔ (row ≡ other)
agree keys row other body v made m n is h =
    let whole : made ≡ bit (list_all (same_entry keys row other) (tuples (key_sizes keys))) =
    is ∙ same_bit (every_tuple (bounds_from formula_base (key_sizes keys)) (λ u. nat_eq (body u) 1) v) ∙ ap bit (every_tuple_is formula_base (key_sizes keys) (λ u. nat_eq (body u) 1) v
    ∙ all_same (AreBelow (key_sizes keys)) (λ t. nat_eq (body (with_vars v formula_base t)) 1) (same_entry keys row other) (λ t low. ap (λ x. nat_eq x 1) (h t low) ∙ bit_one (same_entry keys row other t)) (tuples (key_sizes keys)) (all_below (key_sizes keys))) in
    (λ one. rows_agree keys row other m n (bit_true (list_all (same_entry keys row other) (tuples (key_sizes keys))) (sym whole ∙ one)), λ e. whole ∙ ap bit (rows_same keys row other e))

-- ---- states

pub steady_kept : (s : Spec) (a : StateView) (old new : List Node) (limit : ℕ) (v : Reading) → IsStateOver s old a → Keeps old new → IsSteady limit s old a v → IsSteady limit s new a v
steady_kept s a old new limit v o k h = record {
  memory = λ u e. kernel_at_kept s a.memory a.locals a.first old new u o.base k ∙ h.memory u e ∙ sym (kernel_at_kept s a.memory a.locals a.first old new v o.base k);
  state = λ u e. state_kept s a old new u o k ∙ h.state u e ∙ sym (state_kept s a old new v o k);
}

pub field_is_sorted : (s : Spec) (field : ℕ) → IsWellSorted s → field < length s.fields → IsFieldSort (slice_index_or (field_sorts s) field no_field)
field_is_sorted s field w low = (All-map IsFieldSort sort_of s.fields (λ k d l. (w.fields k d l).sort)) field no_field (omega (arith, low, length-map s.fields sort_of))

pub row_long : (s : Spec) (nodes : List Node) (a : StateView) (field : ℕ) (v : Reading) → IsWellSorted s → IsStateOver s nodes a → field < length s.fields
    → length (slice_index_or (state_at s nodes a v) field []) ≡ product (key_sizes (slice_index_or (field_sorts s) field no_field).keys)
row_long s nodes a field v w o low =
    let long : IsLong (field_sorts s) (state_at s nodes a v) = writes_long (field_sorts s) nodes v a.writes (base_at s nodes a.memory a.first v) (base_long s nodes a.memory a.locals a.first v w o.base) in
    long.each field (omega (arith, low, length-map s.fields sort_of))

abbrev entries_are : Spec → List Node → StateView → ℕ → List Key → Reading → List ℕ → ℕ
entries_are s nodes a field keys v is = entry_at (slice_index_or (state_at s nodes a v) field []) (place_behind 0 keys is)

further : (v u w : Reading) → Agrees formula_base v u → Agrees entry_base u w → Agrees formula_base v w
further v u w a b = record { entry = b.entry ∙ a.entry; var = λ id low. b.var id (omega (arith, low)) ∙ a.var id low }

still_there : (s : Spec) (nodes : List Node) (a : StateView) (v u : Reading) → Agrees formula_base v u → IsSteady formula_base s nodes a v → IsSteadyMemory entry_base nodes a.memory u
still_there s nodes a v u e h = λ w b. h.memory w (further v u w e b) ∙ sym (h.memory u e)

-- the truth of equal entries, where the variables of the keys have the numbers of a tuple
pub body_at : (s : Spec) (nodes : List Node) (a b : StateView) (field : ℕ) (keys : List Key) (index : List Limit) (v : Reading) (t : List ℕ) (body : Reading → ℕ)
    → IsSteady formula_base s nodes a v → IsSteady formula_base s nodes b v → length keys ≤ 4 → AreKeyVariables nodes formula_base keys index → AreBelow (key_sizes keys) t
    → ((u : Reading) → AreLimited nodes index u → AreSteady entry_base nodes index u → IsSteadyMemory entry_base nodes a.memory u → IsSteadyMemory entry_base nodes b.memory u
    → body u ≡ bit (nat_eq (entries_are s nodes a field keys u (index_values nodes index u)) (entries_are s nodes b field keys u (index_values nodes index u))))
    → body (with_vars v formula_base t) ≡ bit (nat_eq (entries_are s nodes a field keys v t) (entries_are s nodes b field keys v t))
body_at s nodes a b field keys index v t body sa sb few h each read =
    let u : Reading = with_vars v formula_base t in
    let agrees : Agrees formula_base v u = with_vars_agree v formula_base t in
    let sizes : List ℕ = key_sizes keys in
    let vars : variables_from formula_base sizes u ≡ t = variables_are sizes t each formula_base v in
    let low : AreBelow sizes (variables_from formula_base sizes u) = subst (AreBelow sizes) (sym vars) each in
    let room : formula_base + length sizes ≤ entry_base = omega (arith, few, length-map keys (λ k. k.size)) in
    let numbers : index_values nodes index u ≡ variables_from formula_base sizes u = variable_values nodes formula_base keys index u h low in
    let steady : AreSteady entry_base nodes index u =
    λ w e. let same : variables_from formula_base sizes w ≡ variables_from formula_base sizes u = variables_agree sizes formula_base entry_base u w room e in
    variable_values nodes formula_base keys index w h (subst (AreBelow sizes) (sym same) low) ∙ same ∙ sym numbers in
    let is : index_values nodes index u ≡ t = numbers ∙ vars in
    read u (variables_limited nodes formula_base keys index u h low) steady (still_there s nodes a v u agrees sa) (still_there s nodes b v u agrees sb)
    ∙ (λ i. bit (nat_eq (entry_at (slice_index_or (sa.state u agrees i) field []) (place_behind 0 keys (is i))) (entry_at (slice_index_or (sb.state u agrees i) field []) (place_behind 0 keys (is i)))))
