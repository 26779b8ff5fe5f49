-- The places of names in a table, and the entries that stand there.
use Rattle.std.proofs.Common.{◌≡◌, ◌⊎◌, inl, inr, ℕ, zero, suc, ◌+◌, ◌<◌, ◌≤◌, Bool, true, false, cond, nat_lt, Option, Some, None, option_map, List, [], ◌∷◌, length, refl, sym, ◌∙◌, ap, subst, arith}
use Rattle.std.specs.Prelude.{slice_get, unwrap_or, bytes_eq, find, not}
use Rattle.std.specs.List.{IsDistinct, AllByRecursion, position, position_or_len}
use Rattle.std.proofs.lemmas.Bool.{cases_Bool, cases_lt, false≢true, lt-ltb, le-ltb, cond-true, cond-false}
use Rattle.std.proofs.lemmas.Slice.Eq.{bytes_eq-Decides}
use Rattle.ir_ast.specs.Table.{names_of, place_of}
use Rattle.ir_type.specs.Names.{entry_of}

same_name : (x y : List ℕ) → bytes_eq x y ≡ true → x ≡ y
same_name x y e = (bytes_eq-Decides x y).0 e

is_itself : (x : List ℕ) → bytes_eq x x ≡ true
is_itself x = (bytes_eq-Decides x x).1 refl

other_name : (x y : List ℕ) → bytes_eq y x ≡ false → bytes_eq x y ≡ false
other_name x y e = pick (cases_Bool (bytes_eq x y))
  where
    pick : (bytes_eq x y ≡ true) ⊎ (bytes_eq x y ≡ false) → bytes_eq x y ≡ false
    pick (inl t) = absurd (false≢true (sym e ∙ ap (λ z. bytes_eq y z) (same_name x y t) ∙ is_itself y))
    pick (inr f) = f

shift : (k n : ℕ) → cond (nat_lt (1 + k) (suc n)) (Some (1 + k)) None ≡ option_map suc (cond (nat_lt k n) (Some k) None)
shift k n = pick (cases_lt k n)
  where
    pick : (k < n) ⊎ (n ≤ k) → cond (nat_lt (1 + k) (suc n)) (Some (1 + k)) None ≡ option_map suc (cond (nat_lt k n) (Some k) None)
    pick (inl l) =
        let more : 1 + k ≡ suc k = omega arith in
        cond-true (nat_lt (1 + k) (suc n)) (Some (1 + k)) None (lt-ltb (1 + k) (suc n) (omega (arith, l)))
        ∙ ap Some more ∙ ap (option_map suc) (sym (cond-true (nat_lt k n) (Some k) None (lt-ltb k n l)))
    pick (inr l) =
        cond-false (nat_lt (1 + k) (suc n)) (Some (1 + k)) None (le-ltb (1 + k) (suc n) (omega (arith, l)))
        ∙ ap (option_map suc) (sym (cond-false (nat_lt k n) (Some k) None (le-ltb k n l)))

-- the place behind a first element that does not pass
later : {X : Type 0} (p : X → Bool) (y : X) (ys : List X) → p y ≡ false → position p (y ∷ ys) ≡ option_map suc (position p ys)
later p y ys e =
    ap (λ b. cond (nat_lt (cond (not b) (1 + position_or_len p ys) 0) (suc (length ys))) (Some (cond (not b) (1 + position_or_len p ys) 0)) None) e
    ∙ shift (position_or_len p ys) (length ys)

here : {X : Type 0} (p : X → Bool) (y : X) (ys : List X) → p y ≡ true → position p (y ∷ ys) ≡ Some 0
here p y ys e =
    ap (λ b. cond (nat_lt (cond (not b) (1 + position_or_len p ys) 0) (suc (length ys))) (Some (cond (not b) (1 + position_or_len p ys) 0)) None) e
    ∙ cond-true (nat_lt 0 (suc (length ys))) (Some 0) None (lt-ltb 0 (suc (length ys)) (omega arith))

pub some_same : {A : Type 0} (p q : A) → Some p ≡ Some q → p ≡ q
some_same p q e = ap (λ o. unwrap_or o p) e

pub same_first : {A B : Type 0} (p q : A × B) → Some p ≡ Some q → p.0 ≡ q.0
same_first {A} {B} p q e = let first : A × B → A = λ r. r.0 in ap first (some_same p q e)

pub same_second : {A B : Type 0} (p q : A × B) → Some p ≡ Some q → p.1 ≡ q.1
same_second {A} {B} p q e = let second : A × B → B = λ r. r.1 in ap second (some_same p q e)

-- an entry of a table stands at this place under this name
pub record StandsAt {E : Type 0} (entries : List (List ℕ × E)) (place : ℕ) (x : List ℕ) (e : E) : Type 0 where
  pub there : slice_get entries place ≡ Some (x, e)
  pub found : entry_of x entries ≡ Some e

from_map : {A B : Type 0} (f : A → B) (o : Option A) (b : B) → option_map f o ≡ Some b → (a : A) × (o ≡ Some a) × (f a ≡ b)
from_map f None b e = absurd cc
from_map f (Some a) b e = (a, refl, cc)

none_map : {A B : Type 0} (f : A → B) (o : Option A) → option_map f o ≡ None → o ≡ None
none_map f None e = refl
none_map f (Some a) e = absurd cc

-- what is found at its place
pub at_place : {E : Type 0} (entries : List (List ℕ × E)) (x : List ℕ) (p : ℕ) → place_of x entries ≡ Some p → (e : E) × StandsAt entries p x e
at_place {E} [] x p h = absurd (clash h)
  where
    clash : place_of {E = E} x [] ≡ Some p → ⊥
    clash h = cc
at_place {E} ((y, e) ∷ entries) x p h = pick (λ k g. at_place entries x k g) (cases_Bool (bytes_eq x y))
  where
    pick : ((k : ℕ) → place_of x entries ≡ Some k → (f : E) × StandsAt entries k x f) → (bytes_eq x y ≡ true) ⊎ (bytes_eq x y ≡ false) → (f : E) × StandsAt ((y, e) ∷ entries) p x f
    pick rest (inl t) =
        let zero_is : Some 0 ≡ Some p = sym (here (bytes_eq x) y (names_of entries) t) ∙ h in
        let place : 0 ≡ p = same_some zero_is in (
          e,
          record {
            there = subst (λ k. slice_get ((y, e) ∷ entries) k ≡ Some (x, e)) place (ap (λ z. Some (z, e)) (sym (same_name x y t)));
            found = ap (λ b. option_map (λ f. f.1) (cond b (Some (y, e)) (find (λ f. bytes_eq x f.0) entries))) t;
          },
        )
      where
        same_some : Some 0 ≡ Some p → 0 ≡ p
        same_some e = cc
    pick rest (inr f) =
        let m = from_map suc (place_of x entries) p (sym (later (bytes_eq x) y (names_of entries) f) ∙ h) in
        let r = rest m.0 m.1 in (
          r.0,
          record {
            there = subst (λ k. slice_get ((y, e) ∷ entries) k ≡ Some (x, r.0)) m.2 r.1.there;
            found = ap (λ b. option_map (λ f. f.1) (cond b (Some (y, e)) (find (λ f. bytes_eq x f.0) entries))) f ∙ r.1.found;
          },
        )

-- what has no place is not found
pub no_place : {E : Type 0} (entries : List (List ℕ × E)) (x : List ℕ) → place_of x entries ≡ None → entry_of x entries ≡ None
no_place [] x h = refl
no_place ((y, e) ∷ entries) x h = pick (λ g. no_place entries x g) (cases_Bool (bytes_eq x y))
  where
    clash : {A : Type 0} (a : A) → Some a ≡ None → ⊥
    clash a e = cc

    pick : (place_of x entries ≡ None → entry_of x entries ≡ None) → (bytes_eq x y ≡ true) ⊎ (bytes_eq x y ≡ false) → entry_of x ((y, e) ∷ entries) ≡ None
    pick rest (inl t) = absurd (clash 0 (sym (here (bytes_eq x) y (names_of entries) t) ∙ h))
    pick rest (inr f) =
        ap (λ b. option_map (λ f. f.1) (cond b (Some (y, e)) (find (λ f. bytes_eq x f.0) entries))) f
        ∙ rest (none_map suc (place_of x entries) (sym (later (bytes_eq x) y (names_of entries) f) ∙ h))

-- the place of a name that stands once
pub place_there : {E : Type 0} (entries : List (List ℕ × E)) (x : List ℕ) (e : E) (p : ℕ) → IsDistinct bytes_eq (names_of entries) → slice_get entries p ≡ Some (x, e) → place_of x entries ≡ Some p
unfolding IsDistinct
place_there [] x e p d h = absurd cc
place_there {E} ((y, f) ∷ entries) x e zero d h =
    let same : y ≡ x = same_first {A = List ℕ} {B = E} (y, f) (x, e) h in
    here (bytes_eq x) y (names_of entries) (ap (bytes_eq x) same ∙ is_itself x)
place_there {E} ((y, f) ∷ entries) x e (suc p) d h =
    let rest = place_there entries x e p d.1 h in
    later (bytes_eq x) y (names_of entries) (other_name x y (apart entries x e p d.0 h)) ∙ ap (option_map suc) rest
  where
    apart : {E : Type 0} (entries : List (List ℕ × E)) (x : List ℕ) (e : E) (p : ℕ) → AllByRecursion (λ z. bytes_eq y z ≡ false) (names_of entries) → slice_get entries p ≡ Some (x, e) → bytes_eq y x ≡ false
    apart [] x e p all h = absurd cc
    apart {E} ((z, g) ∷ entries) x e zero all h = ap (bytes_eq y) (sym (same_first {A = List ℕ} {B = E} (z, g) (x, e) h)) ∙ all.0
    apart ((z, g) ∷ entries) x e (suc p) all h = apart entries x e p all.1 h

pub get_below : {A : Type 0} (xs : List A) (k : ℕ) (a : A) → slice_get xs k ≡ Some a → k < length xs
get_below [] k a e = absurd cc
get_below (x ∷ xs) zero a e = omega arith
get_below (x ∷ xs) (suc k) a e = let r = get_below xs k a e in omega (arith, r)

pub place_below : {E : Type 0} (entries : List (List ℕ × E)) (x : List ℕ) (p : ℕ) → place_of x entries ≡ Some p → p < length entries
place_below entries x p h = let s = at_place entries x p h in get_below entries p (x, s.0) s.1.there
