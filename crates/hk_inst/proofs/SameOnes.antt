-- Instances, no two of which are the same.
use Rattle.std.proofs.Common.{◌≡◌, ◌⊎◌, inl, inr, Bool, true, false, ◌||◌, nat_eq, List, [], ◌∷◌, ◌++◌, refl, sym, ◌∙◌, ap, subst, arith}
use Rattle.std.specs.List.{Contains}
use Rattle.std.specs.Cmp.Lexicographic.{pointwise, pointwise_decides}
use Rattle.std.proofs.lemmas.Bool.{eqb-true, eq-eqb}
use Rattle.hk_inst.specs.declared.instance.Instance.{Instance}
use Rattle.hk_inst.specs.declared.instance.Instance.TheVariants.{Pair, Tuple}
use Rattle.hk_inst.specs.Truths.{same_instance, is_among}
use Rattle.hk_inst.proofs.Tuples.{clash, both}
use Rattle.hk_inst.proofs.Members.{contains-cases, instance-same}
use Rattle.hk_inst.specs.Left.{AreOnce}
use Rattle.hk_inst.proofs.Counting.{AreApart}

same-self : (i : Instance) → same_instance i i ≡ true
same-self (Pair a b) = both (nat_eq a a) (nat_eq b b) (eq-eqb a a refl) (eq-eqb b b refl)
same-self (Tuple k ks) = both (nat_eq k k) (pointwise nat_eq ks ks) (eq-eqb k k refl) ((pointwise_decides (λ x y. (eqb-true x y, eq-eqb x y)) ks ks).1 refl)

or-second : (a b : Bool) → b ≡ true → (a || b) ≡ true
or-second true b e = refl
or-second false b e = e

or-neither : (a b : Bool) → (a || b) ≡ false → (a ≡ false) × (b ≡ false)
or-neither true b e = clash e
or-neither false b e = (refl, e)

pub contains-among : (is : List Instance) (i : Instance) → Contains is i → is_among is i ≡ true
contains-among [] i (k, l, e) = absurd (omega (arith, l))
contains-among (j ∷ is) i c = by (contains-cases j is i c) (contains-among is i)
  where
    by : (j ≡ i) ⊎ (Contains is i) → (Contains is i → is_among is i ≡ true) → (same_instance i j || is_among is i) ≡ true
    by (inl e) go = ap (λ b. b || is_among is i) (ap (same_instance i) e ∙ same-self i)
    by (inr d) go = or-second (same_instance i j) (is_among is i) (go d)

pub once-apart : (is : List Instance) → AreOnce is → AreApart is
once-apart [] h = tt
once-apart (i ∷ is) h = (λ j c e. clash (sym (contains-among is i (subst (Contains is) (sym e) c)) ∙ h.0), once-apart is h.1)

among-push : (is : List Instance) (i j : Instance) → is_among is j ≡ false → same_instance j i ≡ false → is_among (is ++ i ∷ []) j ≡ false
among-push [] i j h e = ap (λ b. b || false) e
among-push (k ∷ is) i j h e =
    let p = or-neither (same_instance j k) (is_among is j) h in
    ap (λ b. b || is_among (is ++ i ∷ []) j) p.0 ∙ among-push is i j p.1 e

pub once-push : (is : List Instance) (i : Instance) → AreOnce is → is_among is i ≡ false → AreOnce (is ++ i ∷ [])
once-push [] i h e = (refl, tt)
once-push (j ∷ is) i h e = (among-push is i j h.0 (by (same_instance j i) refl), once-push is i h.1 p.1)
  where
    p : (same_instance i j ≡ false) × (is_among is i ≡ false)
    p = or-neither (same_instance i j) (is_among is i) e

    by : (b : Bool) → same_instance j i ≡ b → same_instance j i ≡ false
    by false f = f
    by true f = clash (sym (ap (same_instance i) (instance-same j i f) ∙ same-self i) ∙ p.0)
