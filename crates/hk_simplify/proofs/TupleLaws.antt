-- Laws of conjunctions over tuples of numbers.
use Rattle.std.proofs.Common.{◌≡◌, ℕ, zero, suc, ◌<◌, Bool, true, false, ◌&&◌, ◌||◌, nat_eq, List, [], ◌∷◌, arith, ap, sym, ◌∙◌, refl}
use Rattle.std.proofs.Math.Bool.{and_self}
use Rattle.std.proofs.lemmas.Bool.{eqb-true}
use Rattle.std.specs.List.{list_any}
use Rattle.hk_term.specs.Operations.{bit}
use Rattle.hk_term.specs.Meaning.{Reading, with_var, every_below, every_tuple}
use Rattle.hk_term.specs.declared.bounds.Bound.{Bound}

neither : (a b : Bool) → (a || b) ≡ false → (a ≡ false) × (b ≡ false)
neither true b e = cc
neither false b e = (refl, e)

-- a test that holds throughout
every_below-true : (n : ℕ) (p : ℕ → Bool) → ((k : ℕ) → p k ≡ true) → every_below n p ≡ true
every_below-true zero p holds = refl
every_below-true (suc n) p holds = λ i. every_below-true n p holds i && holds n i

-- a test that does not depend on the number, below a size that is not 0
every_below-next : (n : ℕ) (p : ℕ → Bool) (b : Bool) → ((k : ℕ) → p k ≡ b) → every_below (suc n) p ≡ b
every_below-next zero p b same = same 0
every_below-next (suc n) p b same = (λ i. every_below-next n p b same i && same (suc n) i) ∙ and_self b

every_below-same : (n : ℕ) (p : ℕ → Bool) (b : Bool) → nat_eq n 0 ≡ false → ((k : ℕ) → p k ≡ b) → every_below n p ≡ b
every_below-same zero p b some same = cc
every_below-same (suc n) p b some same = every_below-next n p b same

-- a test that does not depend on the tuple, where no size is 0
pub every_tuple-same : (bs : List Bound) (p : Reading → Bool) (b : Bool) (v : Reading) → list_any (λ x. nat_eq x.size 0) bs ≡ false → ((u : Reading) → p u ≡ b) → every_tuple bs p v ≡ b
every_tuple-same [] p b v some same = same v
every_tuple-same (x ∷ bs) p b v some same =
    let parts : (nat_eq x.size 0 ≡ false) × (list_any (λ y. nat_eq y.size 0) bs ≡ false) = neither _ _ some in
    every_below-same x.size _ b parts.0 (λ k. every_tuple-same bs p b (with_var v x.id k) parts.1 same)

-- every tuple, where a size is 0
pub every_tuple-none : (bs : List Bound) (p : Reading → Bool) (v : Reading) → list_any (λ x. nat_eq x.size 0) bs ≡ true → every_tuple bs p v ≡ true
every_tuple-none [] p v none = cc
every_tuple-none (x ∷ bs) p v none = by (nat_eq x.size 0) refl none (λ h k. every_tuple-none bs p (with_var v x.id k) h)
  where
    by : (b : Bool) → nat_eq x.size 0 ≡ b → (b || list_any (λ y. nat_eq y.size 0) bs) ≡ true → (list_any (λ y. nat_eq y.size 0) bs ≡ true → (k : ℕ) → every_tuple bs p (with_var v x.id k) ≡ true) → every_below x.size (λ k. every_tuple bs p (with_var v x.id k)) ≡ true
    by true e h rest = ap (λ n. every_below n (λ k. every_tuple bs p (with_var v x.id k))) (eqb-true x.size 0 e)
    by false e h rest = every_below-true x.size _ (rest h)

-- a truth value
truth : (n : ℕ) → n < 2 → n ≡ bit (nat_eq n 1)
truth zero h = refl
truth (suc zero) h = refl
truth (suc (suc n)) h = absurd (omega arith)

pub every_tuple-known : (bs : List Bound) (f : Reading → ℕ) (n : ℕ) (v : Reading) → list_any (λ x. nat_eq x.size 0) bs ≡ false → ((u : Reading) → f u ≡ n) → n < 2 → f v ≡ bit (every_tuple bs (λ u. nat_eq (f u) 1) v)
every_tuple-known bs f n v some same small =
    same v ∙ truth n small ∙ sym (ap bit (every_tuple-same bs _ (nat_eq n 1) v some (λ u. ap (λ m. nat_eq m 1) (same u))))
