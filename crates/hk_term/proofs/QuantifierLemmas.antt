-- Tests of all numbers below a size.
use Rattle.std.proofs.Common.{◌≡◌, ℕ, zero, suc, ◌<◌, ◌≤◌, ◌⊎◌, Bool, true, false, ◌&&◌, nat_eq, List, [], ◌∷◌, length, get_or, take, drop, ◌-◌, arith, refl, sym, ◌∙◌, ap, inl, inr}
use Rattle.std.proofs.lemmas.Bool.Decides.{eqb_tells}
use Rattle.std.proofs.Math.Seq.{take-length}
use mir.Val.{bool_byte}
use Rattle.hk_term.specs.declared.bounds.Bound.{Bound}
use Rattle.hk_term.specs.declared.node.Node.{Node}
use Rattle.hk_term.specs.declared.node.Node.TheVariants.{ForAll}
use Rattle.hk_term.specs.Operations.{bit}
use Rattle.hk_term.specs.Shape.{width}
use Rattle.hk_term.specs.Meaning.{Reading, with_var, every_below, every_tuple, node_value, value}
use Rattle.hk_term.specs.Facts.{Holds}

false_right : (b : Bool) → (b && false) ≡ false
false_right true = refl
false_right false = refl

pub every_below-false : (n : ℕ) (p : ℕ → Bool) (k : ℕ) → k < n → p k ≡ false → every_below n p ≡ false
every_below-false zero p k h f = absurd (omega arith)
every_below-false (suc n) p k h f = by (λ l. every_below-false n p k l f) (eqb_tells k n)
  where
    by : (k < n → every_below n p ≡ false) → ((nat_eq k n ≡ true) × (k ≡ n)) ⊎ ((nat_eq k n ≡ false) × (k ≡ n → ⊥)) → (every_below n p && p n) ≡ false
    by earlier (inl e) = ap (λ b. every_below n p && b) (ap p (sym e.1) ∙ f) ∙ false_right (every_below n p)
    by earlier (inr e) = let other = e.1 in ap (λ b. b && p n) (earlier (omega arith))

-- a tuple for which the test fails begins with a number of the first variable
pub not_every : (bs : List Bound) (d : Bound) (p : Reading → Bool) (v : Reading) (k : ℕ) → 1 ≤ length bs → k < (get_or bs 0 d).size → every_tuple (take (length bs - 1) (drop 1 bs)) p (with_var v (get_or bs 0 d).id k) ≡ false → false ≡ every_tuple bs p v
not_every [] d p v k some h f = absurd (omega arith)
not_every (b ∷ bs) d p v k some h f =
    let one : suc (length bs) - 1 ≡ length bs = omega arith in
    let rest : take (suc (length bs) - 1) bs ≡ bs = ap (λ n. take n bs) one ∙ take-length bs in
    sym (every_below-false b.size (λ j. every_tuple bs p (with_var v b.id j)) k h (ap (λ l. every_tuple l p (with_var v b.id k)) (sym rest) ∙ f))

pub bool_byte-bit : (b : Bool) → bool_byte b ≡ bit b
bool_byte-bit true = refl
bool_byte-bit false = refl

-- the value of a quantifier
pub quantifier-value : (nodes : List Node) (t : ℕ) (n : Node) (bound bs : List Bound) (body k : ℕ) (r : Reading) (b : Bool) (number : ℕ) → Holds nodes t n → n ≡ ForAll bound body → bs ≡ bound → k ≡ body → b ≡ every_tuple bs (λ u. nat_eq (value nodes k u) 1) r → number ≡ bit b → number ≡ value nodes t r
quantifier-value nodes t n bound bs body k r b number h is same place answer told =
    told ∙ ap bit answer ∙ (λ i. bit (every_tuple (same i) (λ u. nat_eq (value nodes (place i) u) 1) r))
    ∙ ap (λ m. node_value m (value nodes) (width nodes) r) (sym is) ∙ sym (h.value_is r)
