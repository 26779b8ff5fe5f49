-- Two types are told to be the same exactly where they are.
use Rattle.std.proofs.Common.{◌≡◌, ℕ, Bool, true, false, ◌&&◌, ◌==◌, List, refl, sym, ◌∙◌, ap}
use Rattle.std.specs.Prelude.{bytes_eq}
use Rattle.std.specs.Cmp.Lexicographic.{same_text}
use Rattle.std.proofs.lemmas.Bool.{eqb-true, eq-eqb}
use Rattle.std.proofs.lemmas.Slice.Eq.{bytes_eq-Decides}
use Rattle.ir_ast.specs.Plain.{Ty, Tys, nothing, integer, pointer, array, structure, packed, named, opaque, no_types, type_and}
use Rattle.ir_typing.specs.Same.{same_type, same_types}

pub both_true : (a b : Bool) → (a && b) ≡ true → (a ≡ true) × (b ≡ true)
both_true true b h = (refl, h)
both_true false b h = cc

text_same : (text : List ℕ) → bytes_eq text text ≡ true
text_same text = (bytes_eq-Decides text text).1 refl

mutual
  same_found : (t u : Ty) → same_type t u ≡ true → t ≡ u
  same_found nothing nothing h = refl
  same_found nothing u h = cc
  same_found (integer w) (integer v) h = ap integer (eqb-true w v h)
  same_found (integer w) u h = cc
  same_found pointer pointer h = refl
  same_found pointer u h = cc
  same_found (array n t) (array m u) h =
      let p = both_true (n == m) (same_type t u) h in
      ap (λ k. array k t) (eqb-true n m p.0) ∙ ap (array m) (same_found t u p.1)
  same_found (array n t) u h = cc
  same_found (structure ts) (structure us) h = ap structure (same_found_all ts us h)
  same_found (structure ts) u h = cc
  same_found (packed ts) (packed us) h = ap packed (same_found_all ts us h)
  same_found (packed ts) u h = cc
  same_found (named x) (named y) h = ap named (same_text x y (sym h))
  same_found (named x) u h = cc
  same_found opaque opaque h = refl
  same_found opaque u h = cc

  same_found_all : (ts us : Tys) → same_types ts us ≡ true → ts ≡ us
  same_found_all no_types no_types h = refl
  same_found_all no_types (type_and u us) h = cc
  same_found_all (type_and t ts) no_types h = cc
  same_found_all (type_and t ts) (type_and u us) h =
      let p = both_true (same_type t u) (same_types ts us) h in
      ap (λ v. type_and v ts) (same_found t u p.0) ∙ ap (type_and u) (same_found_all ts us p.1)

pub both_hold : (a b : Bool) → a ≡ true → b ≡ true → (a && b) ≡ true
both_hold a b h k = ap (λ x. x && b) h ∙ k

mutual
  same_self : (t : Ty) → same_type t t ≡ true
  same_self nothing = refl
  same_self (integer w) = eq-eqb w w refl
  same_self pointer = refl
  same_self (array n t) = both_hold (n == n) (same_type t t) (eq-eqb n n refl) (same_self t)
  same_self (structure ts) = same_self_all ts
  same_self (packed ts) = same_self_all ts
  same_self (named x) = text_same x
  same_self opaque = refl

  same_self_all : (ts : Tys) → same_types ts ts ≡ true
  same_self_all no_types = refl
  same_self_all (type_and t ts) = both_hold (same_type t t) (same_types ts ts) (same_self t) (same_self_all ts)

pub same_is : (t u : Ty) → (same_type t u ≡ true → t ≡ u) × (t ≡ u → same_type t u ≡ true)
same_is t u = (same_found t u, λ e. ap (same_type t) (sym e) ∙ same_self t)
