-- What comes to a table for a term: the term, its parts, the places of its reads, and the copies of its quantifiers' bodies. Each counted as
-- often as it is come to, its reads and the tuples of its quantifiers are at most the term's cost.
use Rattle.std.proofs.Common.{◌≡◌, ◌⊎◌, inl, inr, ℕ, zero, suc, ◌+◌, ◌*◌, ◌<◌, ◌≤◌, List, [], ◌∷◌, ◌++◌, length, reverse, Option, Some, None, refl, sym, ap, subst, arith}
use Rattle.std.specs.List.{Contains, slice_get}
use Rattle.std.proofs.lemmas.List.Elements.{Contains-append_left, Contains-append_right}
use Rattle.std.proofs.Math.Nat.{mul-le-mul_left}
use Rattle.hk_term.specs.Shape.{AllFitIn, width}
use Rattle.hk_term.specs.declared.bounds.Bound.{Bound}
use Rattle.hk_term.specs.declared.node.Node.{Node}
use Rattle.hk_term.specs.declared.node.Node.TheVariants.{Const, Var, Select, Unary, Binary, Choose, Resize, ForAll}
use Rattle.hk_term.proofs.TermLists.{holds}
use Rattle.hk_copy.specs.Cost.{tuples, cost}
use Rattle.hk_copy.proofs.CostLaws.{cost_is}
use Rattle.hk_inst.proofs.Members.{contains-cases, contains-head, contains-tail}
use Rattle.hk_inst.proofs.Counting.{weigh, weigh-append, weigh-most}

-- a read weighs one, a quantifier one more than it has tuples
abbrev pub weight_of : Option Node → ℕ
weight_of (Some (Select array size i)) = 1
weight_of (Some (ForAll bound body)) = 1 + tuples bound
weight_of _ = 0

-- what comes next behind a node; the copies of its body, where it is a quantifier, are these
abbrev pub behind_node : Option Node → List ℕ → List ℕ
behind_node None copies = []
behind_node (Some (Const width value)) copies = []
behind_node (Some (Var width id)) copies = []
behind_node (Some (Select array size i)) copies = i ∷ []
behind_node (Some (Unary kind a)) copies = a ∷ []
behind_node (Some (Binary kind a b)) copies = a ∷ b ∷ []
behind_node (Some (Choose c a b)) copies = c ∷ a ∷ b ∷ []
behind_node (Some (Resize kind to a)) copies = a ∷ []
behind_node (Some (ForAll bound body)) copies = copies

module _ (nodes : List Node) (copies : ℕ → List ℕ) where
  abbrev pub behind : ℕ → List ℕ
  behind t = behind_node (slice_get nodes t) (copies t)

  -- a term comes behind another
  pub data Under : ℕ → ℕ → Type 0 where
    itself : {t : ℕ} → Under t t
    step : {t s : ℕ} (k : ℕ) → Contains (behind t) k → Under k s → Under t s

  pub under-trans : {r s t : ℕ} → Under r s → Under s t → Under r t
  under-trans itself u = u
  under-trans (step k c v) u = step k c (under-trans v u)

  pub under-cases : {t s : ℕ} → Under t s → (t ≡ s) ⊎ ((k : ℕ) × (Contains (behind t) k) × (Under k s))
  under-cases itself = inl refl
  under-cases (step k c u) = inr (k, c, u)

  -- so few copies there are, and they cost no more than the body
  pub record AreCopies : Type 0 where
    pub few : (t body : ℕ) (bound : List Bound) → slice_get nodes t ≡ Some (ForAll bound body) → length (copies t) ≤ tuples bound + 1
    pub cheap : (t body b : ℕ) (bound : List Bound) → slice_get nodes t ≡ Some (ForAll bound body) → Contains (copies t) b → cost nodes b ≤ cost nodes body

  abbrev pub weight : ℕ → ℕ
  weight t = weight_of (slice_get nodes t)

  -- a list of all that comes behind a term, no heavier than its cost
  pub record Held (t : ℕ) : Type 0 where
    pub items : List ℕ
    pub light : weigh weight items ≤ cost nodes t
    pub all : (s : ℕ) → Under t s → Contains items s

  pub record AllHeld (ts : List ℕ) : Type 0 where
    pub items : List ℕ
    pub light : weigh weight items ≤ weigh (cost nodes) ts
    pub all : (t s : ℕ) → Contains ts t → Under t s → Contains items s

  all-held : (ts : List ℕ) → ((t : ℕ) → Contains ts t → Held t) → AllHeld ts
  all-held [] h = record { items = []; light = omega arith; all = λ t s c u. absurd (omega (arith, c.1)) }
  all-held (t ∷ ts) h =
      let one = h t (contains-head t ts) in
      let more = all-held ts (λ s c. h s (contains-tail t ts s c)) in
      record {
        items = one.items ++ more.items;
        light = omega (arith, weigh-append weight one.items more.items, one.light, more.light);
        all = λ r s c u. by one more r s u (contains-cases t ts r c);
      }
    where
      by : (one : Held t) (more : AllHeld ts) (r s : ℕ) → Under r s → (t ≡ r) ⊎ (Contains ts r) → Contains (one.items ++ more.items) s
      by one more r s u (inl e) = Contains-append_left one.items more.items s (one.all s (subst (λ x. Under x s) (sym e) u))
      by one more r s u (inr c) = Contains-append_right one.items more.items s (more.all r s c u)

  held-from : (t : ℕ) → weight t + weigh (cost nodes) (behind t) ≤ cost nodes t → ((k : ℕ) → Contains (behind t) k → Held k) → Held t
  held-from t le h =
      let rest = all-held (behind t) h in
      record {
        items = t ∷ rest.items;
        light = omega (arith, le, rest.light);
        all = λ s u. by rest s (under-cases u);
      }
    where
      by : (rest : AllHeld (behind t)) (s : ℕ) → (t ≡ s) ⊎ ((k : ℕ) × (Contains (behind t) k) × (Under k s)) → Contains (t ∷ rest.items) s
      by rest s (inl e) = subst (Contains (t ∷ rest.items)) e (contains-head t rest.items)
      by rest s (inr p) = contains-tail t rest.items s (rest.all p.0 s p.1 p.2)

  module _ (fit : AllFitIn (reverse nodes)) (are : AreCopies) where
    -- the node, with what comes behind it, weighs no more than the cost
    row-cost : (o : Option Node) (t : ℕ) → slice_get nodes t ≡ o → weight_of o + weigh (cost nodes) (behind_node o (copies t)) ≤ cost nodes t
    row-cost None t at = omega arith
    row-cost (Some (Const w x)) t at = omega arith
    row-cost (Some (Var w i)) t at = omega arith
    row-cost (Some (Select a w i)) t at = omega (arith, cost_is nodes fit t _ at)
    row-cost (Some (Unary k a)) t at = omega (arith, cost_is nodes fit t _ at)
    row-cost (Some (Binary k a b)) t at = omega (arith, cost_is nodes fit t _ at)
    row-cost (Some (Choose c a b)) t at = omega (arith, cost_is nodes fit t _ at)
    row-cost (Some (Resize k to a)) t at = omega (arith, cost_is nodes fit t _ at)
    row-cost (Some (ForAll bound body)) t at =
        let m = cost nodes body in
        let few = are.few t body bound at in
        let each = weigh-most (cost nodes) m (copies t) (λ b c. are.cheap t body b bound at c) in
        let most : length (copies t) * m ≤ (tuples bound + 1) * m = product-le (length (copies t)) (tuples bound + 1) m few in
        let split : (tuples bound + 1) * (1 + m) ≡ (tuples bound + 1) + (tuples bound + 1) * m = grind arith in
        omega (arith, cost_is nodes fit t _ at, each, most, split)
      where
        product-le : (a b m : ℕ) → a ≤ b → a * m ≤ b * m
        product-le a b m h = let e : m * a ≤ m * b = mul-le-mul_left m h in let f : m * a ≡ a * m = grind arith in let g : m * b ≡ b * m = grind arith in omega (arith, e, f, g)

    -- what comes behind a node is cheaper, or no dearer and earlier in the list
    row-less : (o : Option Node) (t k : ℕ) → slice_get nodes t ≡ o → Contains (behind_node o (copies t)) k → (cost nodes k < cost nodes t) ⊎ ((k < t) × (cost nodes k ≤ cost nodes t))
    row-less None t k at (j, l, e) = absurd (omega (arith, l))
    row-less (Some (Const w x)) t k at (j, l, e) = absurd (omega (arith, l))
    row-less (Some (Var w i)) t k at (j, l, e) = absurd (omega (arith, l))
    row-less (Some (Select a w i)) t k at c = by (contains-cases i [] k c)
      where
        by : (i ≡ k) ⊎ (Contains [] k) → (cost nodes k < cost nodes t) ⊎ ((k < t) × (cost nodes k ≤ cost nodes t))
        by (inl e) = inl (omega (arith, cost_is nodes fit t _ at, ap (cost nodes) e))
        by (inr (j, l, e)) = absurd (omega (arith, l))
    row-less (Some (Unary kind a)) t k at c = by (contains-cases a [] k c)
      where
        by : (a ≡ k) ⊎ (Contains [] k) → (cost nodes k < cost nodes t) ⊎ ((k < t) × (cost nodes k ≤ cost nodes t))
        by (inl e) = let fits = (holds nodes t _ fit at).fits in inr (omega (arith, e, fits), omega (arith, cost_is nodes fit t _ at, ap (cost nodes) e))
        by (inr (j, l, e)) = absurd (omega (arith, l))
    row-less (Some (Binary kind a b)) t k at c = by (contains-cases a (b ∷ []) k c)
      where
        last : (b ≡ k) ⊎ (Contains [] k) → (cost nodes k < cost nodes t) ⊎ ((k < t) × (cost nodes k ≤ cost nodes t))
        last (inl e) = let fits = (holds nodes t _ fit at).fits in inr (omega (arith, e, fits.1), omega (arith, cost_is nodes fit t _ at, ap (cost nodes) e))
        last (inr (j, l, e)) = absurd (omega (arith, l))

        by : (a ≡ k) ⊎ (Contains (b ∷ []) k) → (cost nodes k < cost nodes t) ⊎ ((k < t) × (cost nodes k ≤ cost nodes t))
        by (inl e) = let fits = (holds nodes t _ fit at).fits in inr (omega (arith, e, fits.0), omega (arith, cost_is nodes fit t _ at, ap (cost nodes) e))
        by (inr d) = last (contains-cases b [] k d)
    row-less (Some (Choose z a b)) t k at c = by (contains-cases z (a ∷ b ∷ []) k c)
      where
        last : (b ≡ k) ⊎ (Contains [] k) → (cost nodes k < cost nodes t) ⊎ ((k < t) × (cost nodes k ≤ cost nodes t))
        last (inl e) = let fits = (holds nodes t _ fit at).fits in inr (omega (arith, e, fits.2), omega (arith, cost_is nodes fit t _ at, ap (cost nodes) e))
        last (inr (j, l, e)) = absurd (omega (arith, l))

        mid : (a ≡ k) ⊎ (Contains (b ∷ []) k) → (cost nodes k < cost nodes t) ⊎ ((k < t) × (cost nodes k ≤ cost nodes t))
        mid (inl e) = let fits = (holds nodes t _ fit at).fits in inr (omega (arith, e, fits.1), omega (arith, cost_is nodes fit t _ at, ap (cost nodes) e))
        mid (inr d) = last (contains-cases b [] k d)

        by : (z ≡ k) ⊎ (Contains (a ∷ b ∷ []) k) → (cost nodes k < cost nodes t) ⊎ ((k < t) × (cost nodes k ≤ cost nodes t))
        by (inl e) = let fits = (holds nodes t _ fit at).fits in inr (omega (arith, e, fits.0), omega (arith, cost_is nodes fit t _ at, ap (cost nodes) e))
        by (inr d) = mid (contains-cases a (b ∷ []) k d)
    row-less (Some (Resize kind to a)) t k at c = by (contains-cases a [] k c)
      where
        by : (a ≡ k) ⊎ (Contains [] k) → (cost nodes k < cost nodes t) ⊎ ((k < t) × (cost nodes k ≤ cost nodes t))
        by (inl e) = let fits = (holds nodes t _ fit at).fits in inr (omega (arith, e, fits.0), omega (arith, cost_is nodes fit t _ at, ap (cost nodes) e))
        by (inr (j, l, e)) = absurd (omega (arith, l))
    row-less (Some (ForAll bound body)) t k at c =
        let m = cost nodes body in
        let less = are.cheap t body k bound at c in
        let split : (tuples bound + 1) * (1 + m) ≡ 1 + m + tuples bound * (1 + m) = grind arith in
        inl (omega (arith, cost_is nodes fit t _ at, less, split))

    inner : (c : ℕ) → ((s : ℕ) → cost nodes s < c → Held s) → (m t : ℕ) → t < m → cost nodes t ≤ c → Held t
    inner c go zero t l h = absurd (omega (arith, l))
    inner c go (suc m) t l h = held-from t (row-cost (slice_get nodes t) t refl) (λ k d. by k (row-less (slice_get nodes t) t k refl d) (inner c go m k))
      where
        by : (k : ℕ) → (cost nodes k < cost nodes t) ⊎ ((k < t) × (cost nodes k ≤ cost nodes t)) → (k < m → cost nodes k ≤ c → Held k) → Held k
        by k (inl less) on = go k (omega (arith, less, h))
        by k (inr p) on = on (omega (arith, l, p.0)) (omega (arith, h, p.1))

    outer : (c t : ℕ) → cost nodes t < c → Held t
    outer zero t h = absurd (omega (arith, h))
    outer (suc c) t h = inner c (outer c) (suc t) t (omega arith) (omega (arith, h))

    pub held : (t : ℕ) → Held t
    held t = outer (suc (cost nodes t)) t (omega arith)
