-- Marks from a term downwards.
use Rattle.std.proofs.Common.{◌≡◌, ◌≢◌, ℕ, zero, suc, ◌+◌, ◌≤◌, ◌⊎◌, Bool, true, false, nat_eq, List, length, replicate, Some, arith, refl, sym, ◌∙◌, ap, subst, inl, inr}
use Rattle.std.specs.List.{slice_get}
use Rattle.std.specs.Prelude.{slice_set}
use Rattle.std.proofs.lemmas.List.{length-replicate, length-set, get_or-set_same, get_or-set_other}
use Rattle.std.proofs.lemmas.Bool.Decides.{eqb_tells}
use Rattle.hk_term.specs.Shape.{NodeFits, width}
use Rattle.hk_term.specs.Facts.{Holds}
use Rattle.hk_term.specs.Walk.{PartsBefore}
use Rattle.hk_term.specs.declared.node.Node.{Node}
use Rattle.hk_term.specs.declared.node.Node.TheVariants.{Const, Var, Select, Unary, Binary, Choose, Resize, ForAll}
use Rattle.hk_copy.specs.Reach.{IsPart}
use Rattle.hk_copy.proofs.MakingLaws.{part-before}
use Rattle.hk_cone.specs.Cones.{Reaches, is_marked, AreMarked}
use Rattle.hk_cone.specs.Cones.Reaches.{itself, under}

pub parts-before : (n : Node) (t : ℕ) (w : ℕ → ℕ) (limit : ℕ) → NodeFits t w n → t ≤ limit → PartsBefore n limit
parts-before (Const wide number) t w limit fits h = tt
parts-before (Var wide id) t w limit fits h = tt
parts-before (Select array wide index) t w limit fits h = omega (arith, fits.1, h)
parts-before (Unary kind a) t w limit fits h = omega (arith, fits, h)
parts-before (Binary kind a b) t w limit fits h = (omega (arith, fits.0, h), omega (arith, fits.1, h))
parts-before (Choose c a b) t w limit fits h = (omega (arith, fits.0, h), omega (arith, fits.1, h), omega (arith, fits.2, h))
parts-before (Resize kind to a) t w limit fits h = omega (arith, fits.0, h)
parts-before (ForAll bound body) t w limit fits h = omega (arith, fits.0, h)

one_node : (nodes : List Node) (t : ℕ) (n m : Node) → slice_get nodes t ≡ Some n → slice_get nodes t ≡ Some m → n ≡ m
one_node nodes t n m e f = cc

same_or : (k at : ℕ) → (k ≡ at) ⊎ (k ≢ at)
same_or k at = by (eqb_tells k at)
  where
    by : ((nat_eq k at ≡ true) × (k ≡ at)) ⊎ ((nat_eq k at ≡ false) × (k ≢ at)) → (k ≡ at) ⊎ (k ≢ at)
    by (inl p) = inl p.1
    by (inr p) = inr p.1

-- ---- the term alone is marked

none : (n k : ℕ) → is_marked (replicate n false) k ≡ false
none zero k = refl
none (suc n) zero = refl
none (suc n) (suc k) = none n k

pub begun : (nodes : List Node) (root : ℕ) (marks : List Bool) → marks ≡ replicate (root + 1) false → AreMarked nodes root (root + 1) (slice_set marks root true)
begun nodes root marks is = record {
  size = length-set marks root true ∙ long;
  top = get_or-set_same marks root true false (omega (arith, long));
  closed = λ k a n from on at part. absurd (let e = alone k on in omega (arith, from, e));
  only = λ k on. itself (alone k on);
}
  where
    long : length marks ≡ root + 1
    long = ap length is ∙ length-replicate (root + 1) false

    alone : (k : ℕ) → is_marked (slice_set marks root true) k ≡ true → k ≡ root
    alone k on = by (same_or k root)
      where
        by : (k ≡ root) ⊎ (k ≢ root) → k ≡ root
        by (inl e) = e
        by (inr ne) =
            let off : is_marked (slice_set marks root true) k ≡ false = get_or-set_other marks root k true false ne ∙ ap (λ l. is_marked l k) is ∙ none (root + 1) k in
            absurd cc

-- ---- one term further down

module _ (nodes : List Node) (root at : ℕ) (marks : List Bool) (was : AreMarked nodes root (at + 1) marks) where
  pub stays : is_marked marks at ≡ false → AreMarked nodes root at marks
  stays off = record {
    size = was.size;
    top = was.top;
    closed = λ k a n from on there part. by k a n from on there part (same_or k at);
    only = was.only;
  }
    where
      by : (k a : ℕ) (n : Node) → at ≤ k → is_marked marks k ≡ true → slice_get nodes k ≡ Some n → IsPart n a → (k ≡ at) ⊎ (k ≢ at) → is_marked marks a ≡ true
      by k a n from on there part (inl e) = let here : is_marked marks at ≡ true = ap (is_marked marks) (sym e) ∙ on in absurd cc
      by k a n from on there part (inr ne) = was.closed k a n (omega (arith, from, ne)) on there part

  pub goes_down : (n : Node) (new : List Bool) → Holds nodes at n → is_marked marks at ≡ true → length new ≡ length marks
      → ((k : ℕ) → IsPart n k → is_marked new k ≡ true) → ((k : ℕ) → is_marked marks k ≡ true → is_marked new k ≡ true)
      → ((k : ℕ) → is_marked new k ≡ true → (is_marked marks k ≡ true) ⊎ IsPart n k) → AreMarked nodes root at new
  goes_down n new holds here size marked kept only = record {
    size = size ∙ was.size;
    top = kept root was.top;
    closed = λ k a m from on there part. by k a m from there part (same_or k at) (only k on);
    only = λ k on. reached k (only k on);
  }
    where
      by : (k a : ℕ) (m : Node) → at ≤ k → slice_get nodes k ≡ Some m → IsPart m a → (k ≡ at) ⊎ (k ≢ at) → (is_marked marks k ≡ true) ⊎ IsPart n k → is_marked new a ≡ true
      by k a m from there part (inl e) o =
          let same : m ≡ n = one_node nodes at m n (ap (slice_get nodes) (sym e) ∙ there) holds.at in
          marked a (subst (λ x. IsPart x a) same part)
      by k a m from there part (inr ne) (inl on) = kept a (was.closed k a m (omega (arith, from, ne)) on there part)
      by k a m from there part (inr ne) (inr is) = absurd (let l = part-before n at (width nodes) k holds.fits is in omega (arith, from, l))

      reached : (k : ℕ) → (is_marked marks k ≡ true) ⊎ IsPart n k → Reaches nodes root k
      reached k (inl on) = was.only k on
      reached k (inr is) = under at n (was.only at here) holds.at is
