-- What a copy reaches: the reads and the quantifiers of its term, and free variables that stay or that others stand for.
use Rattle.std.proofs.Common.{◌≡◌, ℕ, ◌⊎◌, Bool, true, false, nat_eq, List, Some, None, refl, sym, ◌∙◌, ap, subst, inl, inr}
use Rattle.std.specs.List.{slice_get}
use Rattle.std.specs.Prelude.{Option}
use Rattle.std.specs.Map.{lookup}
use Rattle.hk_term.specs.declared.bounds.Bound.{Bound}
use Rattle.hk_term.specs.declared.node.Node.{Node}
use Rattle.hk_term.specs.declared.node.Node.TheVariants.{ForAll}
use Rattle.hk_copy.specs.declared.stand.Stand.{Stand}
use Rattle.hk_copy.specs.declared.stand.Stand.TheVariants.{Other}
use Rattle.hk_copy.specs.Stands.{Stands, is_bound, without}
use Rattle.hk_copy.specs.Copies.{Copies}
use Rattle.hk_copy.specs.Copies.Copies.{constant, plain, stands, resized, select, unary, binary, choose, resize, quantifier}
use Rattle.hk_copy.specs.Reach.{IsPart, IsAsked, Reaches, IsVariable, binds, Frees, IsFreed}
use Rattle.hk_copy.specs.Reach.Reaches.{own, under}
use Rattle.hk_copy.specs.Reach.Frees.{itself, within}
use Rattle.hk_copy.proofs.ReadingLaws.{lookup-without, lookup-hidden}

one_node : (nodes : List Node) (t : ℕ) (n m : Node) → slice_get nodes t ≡ Some n → slice_get nodes t ≡ Some m → n ≡ m
one_node nodes t n m e f = cc

module _ (nodes : List Node) (R : ℕ → ℕ → Type 0) (Q : List Bound → Type 0) where
  -- a term with a node reaches by it, or by a part
  reach-cases : {t : ℕ} (n : Node) → slice_get nodes t ≡ Some n → Reaches nodes R Q t → (IsAsked R Q n) ⊎ ((a : ℕ) × IsPart n a × Reaches nodes R Q a)
  reach-cases {t} n e (own m f is) = inl (subst (IsAsked R Q) (one_node nodes t m n f e) is)
  reach-cases {t} n e (under m a f part r) = inr (a, subst (λ x. IsPart x a) (one_node nodes t m n f e) part, r)

  at_part : (a x : ℕ) → a ≡ x → Reaches nodes R Q a → Reaches nodes R Q x
  at_part a x e r = subst (Reaches nodes R Q) e r

  -- a copy has no other read and no other quantifier
  pub copies-reach : {env : Stands} {t r : ℕ} → Copies nodes env t r → Reaches nodes R Q r → Reaches nodes R Q t
  copies-reach {env} {t} {r} (constant n w at is) h = by (reach-cases _ at h)
    where
      by : ⊥ ⊎ ((a : ℕ) × ⊥ × Reaches nodes R Q a) → Reaches nodes R Q t
      by (inl e) = absurd e
      by (inr p) = absurd p.1
  copies-reach {env} {t} {r} (plain size id from to none) h = by (reach-cases _ to h)
    where
      by : ⊥ ⊎ ((a : ℕ) × ⊥ × Reaches nodes R Q a) → Reaches nodes R Q t
      by (inl e) = absurd e
      by (inr p) = absurd p.1
  copies-reach {env} {t} {r} (stands size id other from found to) h = by (reach-cases _ to h)
    where
      by : ⊥ ⊎ ((a : ℕ) × ⊥ × Reaches nodes R Q a) → Reaches nodes R Q t
      by (inl e) = absurd e
      by (inr p) = absurd p.1
  copies-reach {env} {t} {r} (resized size id wide other kind p from found its to cut) h = by (reach-cases _ to h)
    where
      deep : ⊥ ⊎ ((a : ℕ) × ⊥ × Reaches nodes R Q a) → Reaches nodes R Q t
      deep (inl e) = absurd e
      deep (inr q) = absurd q.1

      by : ⊥ ⊎ ((a : ℕ) × (a ≡ p) × Reaches nodes R Q a) → Reaches nodes R Q t
      by (inl e) = absurd e
      by (inr q) = deep (reach-cases _ its (at_part q.0 p q.1 q.2))
  copies-reach {env} {t} {r} (select array size i j from to index) h = by (copies-reach index) (reach-cases _ to h)
    where
      by : (Reaches nodes R Q j → Reaches nodes R Q i) → (R array size) ⊎ ((a : ℕ) × (a ≡ j) × Reaches nodes R Q a) → Reaches nodes R Q t
      by go (inl is) = own _ from is
      by go (inr q) = under _ i from refl (go (at_part q.0 j q.1 q.2))
  copies-reach {env} {t} {r} (unary kind a x from to first) h = by (copies-reach first) (reach-cases _ to h)
    where
      by : (Reaches nodes R Q x → Reaches nodes R Q a) → ⊥ ⊎ ((k : ℕ) × (k ≡ x) × Reaches nodes R Q k) → Reaches nodes R Q t
      by go (inl e) = absurd e
      by go (inr q) = under _ a from refl (go (at_part q.0 x q.1 q.2))
  copies-reach {env} {t} {r} (binary kind a b x y from to first second) h = by (copies-reach first) (copies-reach second) (reach-cases _ to h)
    where
      part : (Reaches nodes R Q x → Reaches nodes R Q a) → (Reaches nodes R Q y → Reaches nodes R Q b) → (k : ℕ) → Reaches nodes R Q k → (k ≡ x) ⊎ (k ≡ y) → Reaches nodes R Q t
      part go on k m (inl e) = under _ a from (inl refl) (go (at_part k x e m))
      part go on k m (inr e) = under _ b from (inr refl) (on (at_part k y e m))

      by : (Reaches nodes R Q x → Reaches nodes R Q a) → (Reaches nodes R Q y → Reaches nodes R Q b) → ⊥ ⊎ ((k : ℕ) × ((k ≡ x) ⊎ (k ≡ y)) × Reaches nodes R Q k) → Reaches nodes R Q t
      by go on (inl e) = absurd e
      by go on (inr q) = part go on q.0 q.2 q.1
  copies-reach {env} {t} {r} (choose c a b z x y from to test first second) h =
      by (copies-reach test) (copies-reach first) (copies-reach second) (reach-cases _ to h)
    where
      part : (Reaches nodes R Q z → Reaches nodes R Q c) → (Reaches nodes R Q x → Reaches nodes R Q a) → (Reaches nodes R Q y → Reaches nodes R Q b) → (k : ℕ) → Reaches nodes R Q k → (k ≡ z) ⊎ ((k ≡ x) ⊎ (k ≡ y)) → Reaches nodes R Q t
      part ask go on k m (inl e) = under _ c from (inl refl) (ask (at_part k z e m))
      part ask go on k m (inr (inl e)) = under _ a from (inr (inl refl)) (go (at_part k x e m))
      part ask go on k m (inr (inr e)) = under _ b from (inr (inr refl)) (on (at_part k y e m))

      by : (Reaches nodes R Q z → Reaches nodes R Q c) → (Reaches nodes R Q x → Reaches nodes R Q a) → (Reaches nodes R Q y → Reaches nodes R Q b) → ⊥ ⊎ ((k : ℕ) × ((k ≡ z) ⊎ ((k ≡ x) ⊎ (k ≡ y))) × Reaches nodes R Q k) → Reaches nodes R Q t
      by ask go on (inl e) = absurd e
      by ask go on (inr q) = part ask go on q.0 q.2 q.1
  copies-reach {env} {t} {r} (resize kind to a x from at first) h = by (copies-reach first) (reach-cases _ at h)
    where
      by : (Reaches nodes R Q x → Reaches nodes R Q a) → ⊥ ⊎ ((k : ℕ) × (k ≡ x) × Reaches nodes R Q k) → Reaches nodes R Q t
      by go (inl e) = absurd e
      by go (inr q) = under _ a from refl (go (at_part q.0 x q.1 q.2))
  copies-reach {env} {t} {r} (quantifier bound a x from to apart body) h = by (copies-reach body) (reach-cases _ to h)
    where
      by : (Reaches nodes R Q x → Reaches nodes R Q a) → (Q bound) ⊎ ((k : ℕ) × (k ≡ x) × Reaches nodes R Q k) → Reaches nodes R Q t
      by go (inl is) = own _ from is
      by go (inr q) = under _ a from refl (go (at_part q.0 x q.1 q.2))

-- ---- free variables

module _ (nodes : List Node) (size id : ℕ) where
  free-cases : {t : ℕ} (n : Node) → slice_get nodes t ≡ Some n → Frees nodes size id t → (IsVariable size id n) ⊎ ((a : ℕ) × (binds n id ≡ false) × IsPart n a × Frees nodes size id a)
  free-cases {t} n e (itself m f is) = inl (subst (IsVariable size id) (one_node nodes t m n f e) is)
  free-cases {t} n e (within m a f off part r) =
      let same : m ≡ n = one_node nodes t m n f e in
      inr (a, subst (λ x. binds x id ≡ false) same off, subst (λ x. IsPart x a) same part, r)

  free_at : (a x : ℕ) → a ≡ x → Frees nodes size id a → Frees nodes size id x
  free_at a x e r = subst (Frees nodes size id) e r

  -- from a part to its term
  up : {t : ℕ} (env : Stands) (n : Node) (a : ℕ) → slice_get nodes t ≡ Some n → ((i : ℕ) → binds n i ≡ false) → IsPart n a → IsFreed nodes size id env a → IsFreed nodes size id env t
  up env n a e off part (inl p) = inl (within n a e (off id) part p.0, p.1)
  up env n a e off part (inr s) = inr (record { instead = s.instead; read = s.read; free = within n a e (off s.instead) part s.free; stand = s.stand })

  up_quantifier : {t : ℕ} (env : Stands) (bound : List Bound) (a : ℕ) → slice_get nodes t ≡ Some (ForAll bound a) → is_bound bound id ≡ false → IsFreed nodes size id (without bound env) a → IsFreed nodes size id env t
  up_quantifier env bound a e off (inl p) =
      inl (within _ a e off refl p.0, sym (lookup-without bound env id off) ∙ p.1)
  up_quantifier {t} env bound a e off (inr s) = by (is_bound bound s.instead) refl
    where
      by : (b : Bool) → is_bound bound s.instead ≡ b → IsFreed nodes size id env t
      by true q = absurd (none (sym (lookup-hidden bound env s.instead q) ∙ s.stand))
        where
          none : ◌≡◌ {A = Option Stand} None (Some (Other size id)) → ⊥
          none x = cc
      by false q = inr (record {
        instead = s.instead;
        read = s.read;
        free = within _ a e q refl s.free;
        stand = sym (lookup-without bound env s.instead q) ∙ s.stand;
      })

  -- the free variables of a copy
  pub copies-free : {env : Stands} {t r : ℕ} → Copies nodes env t r → Frees nodes size id r → IsFreed nodes size id env t
  copies-free {env} {t} {r} (constant n w at is) h = by (free-cases _ at h)
    where
      by : ⊥ ⊎ ((a : ℕ) × (false ≡ false) × ⊥ × Frees nodes size id a) → IsFreed nodes size id env t
      by (inl e) = absurd e
      by (inr p) = absurd p.2
  copies-free {env} {t} {r} (plain wide i from to none) h = by (free-cases _ to h)
    where
      by : ((wide ≡ size) × (i ≡ id)) ⊎ ((a : ℕ) × (false ≡ false) × ⊥ × Frees nodes size id a) → IsFreed nodes size id env t
      by (inl p) = inl (itself _ from p, ap (λ x. lookup (nat_eq x) env) (sym p.1) ∙ none)
      by (inr p) = absurd p.2
  copies-free {env} {t} {r} (stands wide i other from found to) h = by (free-cases _ to h)
    where
      by : ((wide ≡ size) × (other ≡ id)) ⊎ ((a : ℕ) × (false ≡ false) × ⊥ × Frees nodes size id a) → IsFreed nodes size id env t
      by (inl p) = inr (record { instead = i; read = wide; free = itself _ from (refl, refl); stand = found ∙ (λ k. Some (Other (p.0 k) (p.1 k))) })
      by (inr p) = absurd p.2
  copies-free {env} {t} {r} (resized wide i own_width other kind p from found its to cut) h = by (free-cases _ to h)
    where
      deep : ((own_width ≡ size) × (other ≡ id)) ⊎ ((a : ℕ) × (false ≡ false) × ⊥ × Frees nodes size id a) → IsFreed nodes size id env t
      deep (inl q) = inr (record { instead = i; read = wide; free = itself _ from (refl, refl); stand = found ∙ (λ k. Some (Other (q.0 k) (q.1 k))) })
      deep (inr q) = absurd q.2

      by : ⊥ ⊎ ((a : ℕ) × (false ≡ false) × (a ≡ p) × Frees nodes size id a) → IsFreed nodes size id env t
      by (inl e) = absurd e
      by (inr q) = deep (free-cases _ its (free_at q.0 p q.2 q.3))
  copies-free {env} {t} {r} (select array wide i j from to index) h = by (copies-free index) (free-cases _ to h)
    where
      by : (Frees nodes size id j → IsFreed nodes size id env i) → ⊥ ⊎ ((a : ℕ) × (false ≡ false) × (a ≡ j) × Frees nodes size id a) → IsFreed nodes size id env t
      by go (inl e) = absurd e
      by go (inr q) = up env _ i from (λ k. refl) refl (go (free_at q.0 j q.2 q.3))
  copies-free {env} {t} {r} (unary kind a x from to first) h = by (copies-free first) (free-cases _ to h)
    where
      by : (Frees nodes size id x → IsFreed nodes size id env a) → ⊥ ⊎ ((k : ℕ) × (false ≡ false) × (k ≡ x) × Frees nodes size id k) → IsFreed nodes size id env t
      by go (inl e) = absurd e
      by go (inr q) = up env _ a from (λ k. refl) refl (go (free_at q.0 x q.2 q.3))
  copies-free {env} {t} {r} (binary kind a b x y from to first second) h = by (copies-free first) (copies-free second) (free-cases _ to h)
    where
      part : (Frees nodes size id x → IsFreed nodes size id env a) → (Frees nodes size id y → IsFreed nodes size id env b) → (k : ℕ) → Frees nodes size id k → (k ≡ x) ⊎ (k ≡ y) → IsFreed nodes size id env t
      part go on k m (inl e) = up env _ a from (λ j. refl) (inl refl) (go (free_at k x e m))
      part go on k m (inr e) = up env _ b from (λ j. refl) (inr refl) (on (free_at k y e m))

      by : (Frees nodes size id x → IsFreed nodes size id env a) → (Frees nodes size id y → IsFreed nodes size id env b) → ⊥ ⊎ ((k : ℕ) × (false ≡ false) × ((k ≡ x) ⊎ (k ≡ y)) × Frees nodes size id k) → IsFreed nodes size id env t
      by go on (inl e) = absurd e
      by go on (inr q) = part go on q.0 q.3 q.2
  copies-free {env} {t} {r} (choose c a b z x y from to test first second) h =
      by (copies-free test) (copies-free first) (copies-free second) (free-cases _ to h)
    where
      part : (Frees nodes size id z → IsFreed nodes size id env c) → (Frees nodes size id x → IsFreed nodes size id env a) → (Frees nodes size id y → IsFreed nodes size id env b) → (k : ℕ) → Frees nodes size id k → (k ≡ z) ⊎ ((k ≡ x) ⊎ (k ≡ y)) → IsFreed nodes size id env t
      part ask go on k m (inl e) = up env _ c from (λ j. refl) (inl refl) (ask (free_at k z e m))
      part ask go on k m (inr (inl e)) = up env _ a from (λ j. refl) (inr (inl refl)) (go (free_at k x e m))
      part ask go on k m (inr (inr e)) = up env _ b from (λ j. refl) (inr (inr refl)) (on (free_at k y e m))

      by : (Frees nodes size id z → IsFreed nodes size id env c) → (Frees nodes size id x → IsFreed nodes size id env a) → (Frees nodes size id y → IsFreed nodes size id env b) → ⊥ ⊎ ((k : ℕ) × (false ≡ false) × ((k ≡ z) ⊎ ((k ≡ x) ⊎ (k ≡ y))) × Frees nodes size id k) → IsFreed nodes size id env t
      by ask go on (inl e) = absurd e
      by ask go on (inr q) = part ask go on q.0 q.3 q.2
  copies-free {env} {t} {r} (resize kind to a x from at first) h = by (copies-free first) (free-cases _ at h)
    where
      by : (Frees nodes size id x → IsFreed nodes size id env a) → ⊥ ⊎ ((k : ℕ) × (false ≡ false) × (k ≡ x) × Frees nodes size id k) → IsFreed nodes size id env t
      by go (inl e) = absurd e
      by go (inr q) = up env _ a from (λ k. refl) refl (go (free_at q.0 x q.2 q.3))
  copies-free {env} {t} {r} (quantifier bound a x from to apart body) h = by (copies-free body) (free-cases _ to h)
    where
      by : (Frees nodes size id x → IsFreed nodes size id (without bound env) a) → ⊥ ⊎ ((k : ℕ) × (is_bound bound id ≡ false) × (k ≡ x) × Frees nodes size id k) → IsFreed nodes size id env t
      by go (inl e) = absurd e
      by go (inr q) = up_quantifier env bound a from q.1 (go (free_at q.0 x q.2 q.3))
