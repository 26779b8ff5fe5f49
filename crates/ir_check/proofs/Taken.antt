-- Lists of the code element by element, as a walk over them sees them.
use Rattle.std.proofs.Common.{◌≡◌, ℕ, ◌+◌, ◌<◌, ◌≤◌, Bool, Some, option_map, List, length, map, take, sym, ◌∙◌, ap, subst}
use Rattle.std.specs.Prelude.{◌&&◌, slice_get, slice_index_or}
use Rattle.std.specs.List.{All, Contains, list_all}
use Rattle.std.proofs.lemmas.List.{take_all}
use Rattle.std.proofs.lemmas.List.Elements.{All-more, All-contains, All-weaker, All-contains_itself}
use Rattle.std.proofs.lemmas.List.Folds.{list_all_more}
use Rattle.std.proofs.lemmas.Option.{slice_get-map, slice_get-get_or, get_or_from_slice_get}
use Rattle.ir_type.proofs.Places.{get_below}
use Rattle.ir_check.proofs.SiteLaws.{get_at, contains_at}

pub code_at : {A B : Type 0} (view : A → B) (xs : List A) (k : ℕ) (x : A) → k < length xs → x ≡ slice_index_or xs k x → slice_get (map view xs) k ≡ Some (view x)
code_at view xs k x l e = slice_get-map view xs k ∙ ap (option_map view) (get_at xs k x l (sym e))

pub code_get : {A B : Type 0} (view : A → B) (xs : List A) (k : ℕ) (d : A) → k < length xs → slice_get (map view xs) k ≡ Some (view (slice_index_or xs k d))
code_get view xs k d l = slice_get-map view xs k ∙ ap (option_map view) (slice_get-get_or xs k d l)

pub all_next : {X : Type 0} (P : X → Type 0) (xs : List X) (k : ℕ) (x : X) → slice_get xs k ≡ Some x → All P (take k xs) → P x → All P (take (k + 1) xs)
all_next P xs k x there all p = All-more P xs k x (get_below xs k x there) all (subst P (sym (get_or_from_slice_get xs k x x there)) p)

pub all_taken : {X : Type 0} (P : X → Type 0) (xs : List X) (k : ℕ) → length xs ≤ k → All P (take k xs) → All P xs
all_taken P xs k most all = subst (All P) (take_all k xs most) all

pub not_all : {X : Type 0} (P : X → Type 0) (xs : List X) (k : ℕ) (x : X) → slice_get xs k ≡ Some x → (P x → ⊥) → All P xs → ⊥
not_all P xs k x there none all = none (All-contains P xs x all (contains_at xs k x there))

pub list_all_next : {X : Type 0} (p : X → Bool) (xs : List X) (k : ℕ) (x : X) → slice_get xs k ≡ Some x → list_all p (take (k + 1) xs) ≡ (list_all p (take k xs) && p x)
list_all_next p xs k x there = list_all_more p xs k x (get_below xs k x there) ∙ ap (λ y. list_all p (take k xs) && p y) (get_or_from_slice_get xs k x x there)

pub all_from : {X : Type 0} (P : X → Type 0) (xs : List X) → ((x : X) → Contains xs x → P x) → All P xs
all_from P xs each = All-weaker (Contains xs) P each xs (All-contains_itself xs)

-- the same of a slice of the list
pub slice_at : {A B : Type 0} (view : A → B) (xs ys : List A) (k : ℕ) (x : A) → ys ≡ xs → k < length ys → x ≡ slice_index_or ys k x → slice_get (map view xs) k ≡ Some (view x)
slice_at {A} view xs ys k x same l e = subst (λ (zs : List A). slice_get (map view zs) k ≡ Some (view x)) same (code_at view ys k x l e)

pub all_there : {A : Type 0} (P : A → Type 0) (xs : List A) (k : ℕ) (x : A) → slice_get xs k ≡ Some x → All P xs → P x
all_there P xs k x there all = All-contains P xs x all (contains_at xs k x there)

pub all_here : {A B : Type 0} (P : B → Type 0) (view : A → B) (xs : List A) (k : ℕ) (x : A) → k < length xs → x ≡ slice_index_or xs k x → All P (map view xs) → P (view x)
all_here P view xs k x l e all = All-contains P (map view xs) (view x) all (contains_at (map view xs) k (view x) (code_at view xs k x l e))
