-- What follows from a reader that gave something, one step each.
use Rattle.std.proofs.Common.{◌≡◌, Bool, true, false, not, ◌&&◌, ◌||◌, List, [], ◌∷◌, refl, ap, sym, subst}
use Rattle.std.specs.Prelude.{Option, Some, None, bytes_eq, if◌then◌else◌}
use Rattle.std.proofs.lemmas.Slice.Eq.{bytes_eq-Decides}
use Rattle.spec_expr.specs.Words.{Text}
use Rattle.spec_expr.specs.Reading.{after, past, lookup, with_rest}

pub same_text : (t w : Text) → bytes_eq t w ≡ true → t ≡ w
same_text t w e = (bytes_eq-Decides t w).0 e

not_both : (a : Bool) → (a ≡ true → ⊥) → a ≡ false
not_both true h = absurd (h refl)
not_both false h = refl

pub other_text : (t w : Text) → (t ≡ w → ⊥) → bytes_eq t w ≡ false
other_text t w h = not_both (bytes_eq t w) (λ e. h (same_text t w e))

pub left_true : (a b : Bool) → (a && b) ≡ true → a ≡ true
left_true true b h = refl
left_true false b h = cc

pub right_true : (a b : Bool) → (a && b) ≡ true → b ≡ true
right_true true b h = h
right_true false b h = cc

pub record Neither (a b : Bool) : Type 0 where
  pub first : a ≡ false
  pub second : b ≡ false

pub neither : (a b : Bool) → (a || b) ≡ false → Neither a b
neither true b h = cc
neither false b h = record { first = refl; second = h }

pub not_true : (a : Bool) → not a ≡ true → a ≡ false
not_true true h = cc
not_true false h = refl

pub some_is : {A : Type 0} (x y : A) → Some x ≡ Some y → x ≡ y
some_is x y h = cc

-- the two parts of what was given
pub record Same {A : Type 0} (x y : A) (r s : List Text) : Type 0 where
  pub value : x ≡ y
  pub rest : r ≡ s

pub same : {A : Type 0} (x y : A) (r s : List Text) → ◌≡◌ {A = Option (A × List Text)} (Some (x, r)) (Some (y, s)) → Same x y r s
same {A} x y r s h =
    let pair : Option (A × List Text) → A × List Text = λ o. elim o as (λ _. A × List Text) [ None ↦ (x, r) | Some p ↦ p ] in
    record { value = ap (λ o. (pair o).0) h; rest = ap (λ o. (pair o).1) h }

pub record After {A B : Type 0} (o : Option (A × List Text)) (on : A → List Text → Option (B × List Text)) (r : B × List Text) : Type 0 where
  pub value : A
  pub rest : List Text
  pub read : o ≡ Some (value, rest)
  pub on_is : on value rest ≡ Some r

pub after_is : {A B : Type 0} (o : Option (A × List Text)) (on : A → List Text → Option (B × List Text)) (r : B × List Text) → after o on ≡ Some r → After o on r
after_is None on r h = absurd cc
after_is (Some got) on r h = record { value = got.0; rest = got.1; read = refl; on_is = h }

pub record Past {B : Type 0} (word : Text) (ts : List Text) (on : List Text → Option B) (r : B) : Type 0 where
  pub rest : List Text
  pub parts : ts ≡ word ∷ rest
  pub on_is : on rest ≡ Some r

past_by : {B : Type 0} (word t : Text) (ts : List Text) (on : List Text → Option B) (r : B) (b : Bool) → bytes_eq t word ≡ b → (if b then on ts else None) ≡ Some r → Past word (t ∷ ts) on r
past_by word t ts on r true e h = record { rest = ts; parts = ap (λ w. w ∷ ts) (same_text t word e); on_is = h }
past_by word t ts on r false e h = absurd cc

pub past_is : {B : Type 0} (word : Text) (ts : List Text) (on : List Text → Option B) (r : B) → past word ts on ≡ Some r → Past word ts on r
past_is word [] on r h = absurd cc
past_is word (t ∷ ts) on r h = past_by word t ts on r (bytes_eq t word) refl h

pub record WithRest {A : Type 0} (o : Option A) (ts : List Text) (a : A) (rest : List Text) : Type 0 where
  pub value : o ≡ Some a
  pub whole : ts ≡ rest

pub with_rest_is : {A : Type 0} (o : Option A) (ts : List Text) (a : A) (rest : List Text) → with_rest o ts ≡ Some (a, rest) → WithRest o ts a rest
with_rest_is None ts a rest h = absurd cc
with_rest_is (Some x) ts a rest h = let s = same x a ts rest h in record { value = ap Some s.value; whole = s.rest }

-- each entry of a table has a property, so what is looked up has it
abbrev pub EachEntry : {V : Type 0} → (Text → V → Type 0) → List (Text × V) → Type 0
EachEntry P [] = Unit {0}
EachEntry P (e ∷ es) = P e.0 e.1 × EachEntry P es

looked_by : {V : Type 0} (P : Text → V → Type 0) (t : Text) (v : V) (e : Text × V) (es : List (Text × V)) (b : Bool) → bytes_eq t e.0 ≡ b → P e.0 e.1 →
    (lookup t es ≡ Some v → P t v) → (if b then Some e.1 else lookup t es) ≡ Some v → P t v
looked_by P t v e es true is one others h = subst (λ x. P t x) (some_is e.1 v h) (subst (λ w. P w e.1) (sym (same_text t e.0 is)) one)
looked_by P t v e es false is one others h = others h

pub looked_up : {V : Type 0} (P : Text → V → Type 0) (t : Text) (v : V) (es : List (Text × V)) → EachEntry P es → lookup t es ≡ Some v → P t v
looked_up P t v [] each h = absurd cc
looked_up P t v (e ∷ es) each h = looked_by P t v e es (bytes_eq t e.0) refl each.0 (λ g. looked_up P t v es each.1 g) h
