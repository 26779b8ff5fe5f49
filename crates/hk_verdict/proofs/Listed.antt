-- Where the arguments and the fields of a state block stand in their lists.
use Rattle.std.proofs.Common.{ℕ, zero, suc, ◌≡◌, ◌≤◌, ◌<◌, ◌+◌, List, [], ◌∷◌, ◌++◌, min, map, length, length-append, get_or, ap, sym, subst, ◌∙◌, arith, zero-add, refl}
use Rattle.std.proofs.lemmas.List.{length-map}
use Rattle.std.proofs.lemmas.List.Elements.{All-head, All-tail}
use Rattle.std.proofs.lemmas.Slice.Zip.{length-zip, get_or-zip}
use Rattle.std.specs.List.{All, zip}
use Rattle.spec_tree.specs.declared.spec.Field.{Field}
use Rattle.spec_tree.specs.Plain.{Spec}
use Rattle.spec_tree.specs.Shapes.{IsState}
use Rattle.spec_tree.specs.Sorted.{IsField, sort_of, key_sizes, product}
use Rattle.spec_tree.specs.View.{view_field, view_key}
use Rattle.std.proofs.lemmas.List.FromFn.{get_or-enumerate_from, length-enumerate_from}
use Rattle.std.specs.List.{enumerate_from}

pub arg_within : (args : List ℕ) (i : ℕ) → i < length args → i < length (enumerate_from 0 args)
arg_within args i within = omega (arith, within, length-enumerate_from 0 args)

pub args_end : (args : List ℕ) (i : ℕ) → length args ≤ i → length (enumerate_from 0 args) ≤ i
args_end args i past = omega (arith, past, length-enumerate_from 0 args)

-- an argument stands beside its place
pub arg_at : (args : List ℕ) (i : ℕ) → i < length args → (i, get_or args i 0) ≡ get_or (enumerate_from 0 args) i (0, 0)
arg_at args i within = sym (get_or-enumerate_from 0 args i (0, 0) within ∙ ap (λ n. (n, get_or args i 0)) (zero-add i))

-- a field stands beside its entries
pub pair_within : {K V : Type 0} (ks : List K) (vs : List V) (i : ℕ) → i < length ks → i < length vs → i < length (zip ks vs)
pair_within ks vs i first second = omega (arith, first, second, length-zip ks vs)

pub pairs_end : {K V : Type 0} (ks : List K) (vs : List V) (i : ℕ) → i ≡ min (length ks) (length vs) → length (zip ks vs) ≤ i
pairs_end ks vs i is = omega (arith, is, length-zip ks vs)

pub one_longer : {X : Type 0} (xs : List X) (x : X) → length (xs ++ x ∷ []) ≡ length xs + 1
one_longer xs x = omega (arith, length-append xs (x ∷ []))

pub field_at : (fs : List Field) (vs : List (List ℕ)) (i : ℕ) (f : Field) (v : List ℕ) → i < length fs → i < length vs → f ≡ get_or fs i f → v ≡ get_or vs i v
    → (view_field f, v) ≡ get_or (zip (map view_field fs) vs) i (view_field f, v)
field_at fs vs i f v first second key value =
    ap (λ a. (view_field a, v)) key ∙ ap (λ b. (view_field (get_or fs i f), b)) value
    ∙ ap (λ a. (a, get_or vs i v)) (viewed fs i f)
    ∙ sym (get_or-zip (map view_field fs) vs i (view_field f, v) (omega (arith, first, length-map fs view_field)) second)
  where
    viewed : (fs : List Field) (i : ℕ) (f : Field) → view_field (get_or fs i f) ≡ get_or (map view_field fs) i (view_field f)
    viewed [] i f = refl
    viewed (x ∷ fs) zero f = refl
    viewed (x ∷ fs) (suc i) f = viewed fs i f

-- a field of a well-sorted specification has at most four keys, and as many entries as its keys have tuples
pub record IsFitted (f : Field) (v : List ℕ) : Type 0 where
  pub few : length f.keys ≤ 4
  pub all : length v ≡ product (key_sizes (map view_key f.keys))

pub fitted : (s : Spec) (fs : List Field) (vs : List (List ℕ)) (i : ℕ) (f : Field) (v : List ℕ) → All (IsField s) (map view_field fs) → IsState (map sort_of (map view_field fs)) vs
    → i < length fs → IsFitted (get_or fs i f) (get_or vs i v)
fitted s [] vs i f v sorted state low = absurd (omega (arith, low))
fitted s (x ∷ fs) [] i f v sorted state low = absurd state
fitted s (x ∷ fs) (y ∷ vs) zero f v sorted state low = record {
  few = omega (arith, (All-head (IsField s) (view_field x) (map view_field fs) sorted).sort.few, length-map x.keys view_key);
  all = state.0.0;
}
fitted s (x ∷ fs) (y ∷ vs) (suc i) f v sorted state low = fitted s fs vs i f v (All-tail (IsField s) (view_field x) (map view_field fs) sorted) state.1 (omega (arith, low))

pub fitted_pair : (s : Spec) (fs : List Field) (vs : List (List ℕ)) (i : ℕ) (f : Field) (v : List ℕ) → All (IsField s) (map view_field fs) → IsState (map sort_of (map view_field fs)) vs
    → i < length fs → f ≡ get_or fs i f → v ≡ get_or vs i v → IsFitted f v
fitted_pair s fs vs i f v sorted state low key value =
    subst (λ x. IsFitted x v) (sym key) (subst (λ y. IsFitted (get_or fs i f) y) (sym value) (fitted s fs vs i f v sorted state low))
