-- Equality of bound variables is equality of their values.
use Rattle.std.specs.Prelude.{◌≡◌, Bool, true, ◌&&◌, nat_eq, List}
use Rattle.std.proofs.Common.{subst}
use Rattle.std.proofs.lemmas.Bool.{eqb-true}
use Rattle.std.specs.Cmp.{IsEquivalence, and_equiv, on_equiv, nat_eq_equiv, first_so, second_so}
use Rattle.std.specs.Cmp.Lexicographic.{pointwise, pointwise_decides}
use Rattle.hk_term.specs.declared.bounds.Bound.{Bound}

abbrev pub bound_eq : Bound → Bound → Bool
bound_eq x y = nat_eq x.id y.id && nat_eq x.size y.size

pub bound_eq-equiv : IsEquivalence bound_eq
bound_eq-equiv = and_equiv (on_equiv (λ b. b.id) nat_eq_equiv) (on_equiv (λ b. b.size) nat_eq_equiv)

bound_same : (x y : Bound) → bound_eq x y ≡ true → x ≡ y
bound_same x y e =
    let id : x.id ≡ y.id = eqb-true x.id y.id (first_so (nat_eq x.id y.id) (nat_eq x.size y.size) e) in
    let size : x.size ≡ y.size = eqb-true x.size y.size (second_so (nat_eq x.id y.id) (nat_eq x.size y.size) e) in
    λ i. record { id = id i; size = size i }

pub bounds_same : (xs ys : List Bound) → pointwise bound_eq xs ys ≡ true → xs ≡ ys
bounds_same xs ys e =
    (pointwise_decides (λ x y. (bound_same x y, λ q. subst (λ z. bound_eq x z ≡ true) q (bound_eq-equiv.refl x))) xs ys).0 e
