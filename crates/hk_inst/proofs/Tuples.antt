-- Quantifiers by tuples: true at each, or false at one.
use Rattle.std.proofs.Common.{◌≡◌, ℕ, zero, suc, ◌<◌, ◌⊎◌, Bool, true, false, ◌&&◌, nat_eq, List, [], ◌∷◌, arith, refl, sym, ◌∙◌, ap, inl, inr}
use Rattle.std.proofs.lemmas.Bool.Decides.{eqb_tells}
use Rattle.hk_term.specs.declared.bounds.Bound.{Bound}
use Rattle.hk_term.specs.Meaning.{Reading, with_var, every_below, every_tuple}
use Rattle.hk_copy.specs.Stands.{with_tuple}
use Rattle.hk_inst.specs.Truths.{IsTuple}

pub clash : {A : Type 0} → true ≡ false → A
clash e = cc

pub both-first : (a b : Bool) → (a && b) ≡ true → a ≡ true
both-first true b e = refl
both-first false b e = e

pub both-second : (a b : Bool) → (a && b) ≡ true → b ≡ true
both-second true b e = e
both-second false b e = cc

pub both : (a b : Bool) → a ≡ true → b ≡ true → (a && b) ≡ true
both a b e d = ap (λ x. x && b) e ∙ d

pub below-at : (n : ℕ) (p : ℕ → Bool) → every_below n p ≡ true → (k : ℕ) → k < n → p k ≡ true
below-at zero p e k h = absurd (omega arith)
below-at (suc n) p e k h = by (below-at n p (both-first (every_below n p) (p n) e) k) (eqb_tells k n)
  where
    by : (k < n → p k ≡ true) → ((nat_eq k n ≡ true) × (k ≡ n)) ⊎ ((nat_eq k n ≡ false) × (k ≡ n → ⊥)) → p k ≡ true
    by earlier (inl d) = ap p d.1 ∙ both-second (every_below n p) (p n) e
    by earlier (inr d) = let other = d.1 in earlier (omega arith)

pub below-all : (n : ℕ) (p : ℕ → Bool) → ((k : ℕ) → k < n → p k ≡ true) → every_below n p ≡ true
below-all zero p h = refl
below-all (suc n) p h = both (every_below n p) (p n) (below-all n p (λ k l. h k (omega (arith, l)))) (h n (omega arith))

pub below-false : (n : ℕ) (p : ℕ → Bool) → every_below n p ≡ false → (k : ℕ) × (k < n) × (p k ≡ false)
below-false zero p e = cc
below-false (suc n) p e = by (every_below n p) refl (below-false n p)
  where
    last : every_below n p ≡ true → p n ≡ false
    last d = ap (λ b. b && p n) (sym d) ∙ e

    by : (b : Bool) → every_below n p ≡ b → (every_below n p ≡ false → (k : ℕ) × (k < n) × (p k ≡ false)) → (k : ℕ) × (k < suc n) × (p k ≡ false)
    by true d earlier = (n, omega arith, last d)
    by false d earlier = let r = earlier d in (r.0, omega (arith, r.1), r.2)

pub tuple-at : (bs : List Bound) (p : Reading → Bool) (v : Reading) → every_tuple bs p v ≡ true → (ks : List ℕ) → IsTuple bs ks → p (with_tuple bs ks v) ≡ true
tuple-at [] p v e [] t = e
tuple-at [] p v e (k ∷ ks) t = absurd t
tuple-at (b ∷ bs) p v e [] t = absurd t
tuple-at (b ∷ bs) p v e (k ∷ ks) t = tuple-at bs p (with_var v b.id k) (below-at b.size (λ j. every_tuple bs p (with_var v b.id j)) e k t.0) ks t.1

pub tuple-all : (bs : List Bound) (p : Reading → Bool) (v : Reading) → ((ks : List ℕ) → IsTuple bs ks → p (with_tuple bs ks v) ≡ true) → every_tuple bs p v ≡ true
tuple-all [] p v h = h [] tt
tuple-all (b ∷ bs) p v h = below-all b.size (λ j. every_tuple bs p (with_var v b.id j)) (λ k l. tuple-all bs p (with_var v b.id k) (λ ks t. h (k ∷ ks) (l, t)))

pub tuple-false : (bs : List Bound) (p : Reading → Bool) (v : Reading) → every_tuple bs p v ≡ false → (ks : List ℕ) × (IsTuple bs ks) × (p (with_tuple bs ks v) ≡ false)
tuple-false [] p v e = ([], tt, e)
tuple-false (b ∷ bs) p v e =
    let r : (k : ℕ) × (k < b.size) × (every_tuple bs p (with_var v b.id k) ≡ false) = below-false b.size (λ j. every_tuple bs p (with_var v b.id j)) e in
    let s : (ks : List ℕ) × (IsTuple bs ks) × (p (with_tuple bs ks (with_var v b.id r.0)) ≡ false) = tuple-false bs p (with_var v b.id r.0) r.2 in
    (r.0 ∷ s.0, (r.1, s.1), s.2)

-- a tuple where the test fails makes the quantifier false
pub tuple-fails : (bs : List Bound) (p : Reading → Bool) (v : Reading) (ks : List ℕ) → IsTuple bs ks → p (with_tuple bs ks v) ≡ false → every_tuple bs p v ≡ false
tuple-fails bs p v ks t f = by (every_tuple bs p v) refl
  where
    by : (b : Bool) → every_tuple bs p v ≡ b → every_tuple bs p v ≡ false
    by false e = e
    by true e = clash (sym (tuple-at bs p v e ks t) ∙ f)
