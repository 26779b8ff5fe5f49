-- The term that is required of an instance is of the question.
use Rattle.std.proofs.Common.{◌≡◌, ◌⊎◌, inl, inr, ℕ, ◌≤◌, false, List, map, Some, [], refl, sym, subst}
use Rattle.std.specs.Prelude.{slice_get}
use Rattle.std.specs.List.{Contains}
use Rattle.hk_term.specs.declared.bounds.Bound.{Bound}
use Rattle.hk_term.specs.declared.node.Node.{Node}
use Rattle.hk_term.specs.declared.node.Node.TheVariants.{Const, Select, Choose, ForAll}
use Rattle.hk_copy.specs.declared.stand.Stand.TheVariants.{Number}
use Rattle.hk_copy.specs.Stands.{standing}
use Rattle.hk_copy.specs.Copies.{Copies}
use Rattle.hk_copy.specs.Reach.{IsAsked, IsVariable, binds, Reads, Frees, IsFreed, IsPart as IsReached}
use Rattle.hk_copy.specs.Reach.Reaches.{under}
use Rattle.hk_copy.specs.Reach.Frees.{within}
use Rattle.hk_copy.proofs.ReachLaws.{copies-reach, copies-free}
use Rattle.hk_inst.specs.declared.instance.Instance.{Instance}
use Rattle.hk_inst.specs.declared.instance.Instance.TheVariants.{Pair, Tuple}
use Rattle.hk_inst.specs.Inputs.{Table}
use Rattle.hk_inst.specs.Truths.{IsTuple}
use Rattle.hk_inst.specs.Demanded.{IsAgreement, IsImplication, IsDemand}
use Rattle.hk_inst.specs.Demanded.IsMentioned.{added as its_added}
use Rattle.hk_inst.specs.Origins.{Arises}
use Rattle.hk_inst.specs.Origins.Arises.{agreed as arises_agreed, implied as arises_implied}
use Rattle.hk_inst.specs.Growing.{IsOurs}
use Rattle.hk_inst.proofs.OurTerms.{reach-cases, free-cases, not-bound}
use Rattle.hk_inst.proofs.Subjects.{tuple-length, no-other}

module _ (nodes : List Node) (goal first : ℕ) where
  -- what a term of the question reaches
  abbrev IsPlain : ℕ → Type 0
  IsPlain t = ((array size : ℕ) → Reads nodes array size t → Reads nodes array size goal) × ((size id : ℕ) → Frees nodes size id t → (Frees nodes size id goal) ⊎ ((first ≤ id) × (size ≡ 64)))

  -- a node that is no read, no quantifier and no variable reaches what its parts reach
  plain-node : (t : ℕ) (n : Node) → slice_get nodes t ≡ Some n → ((array size : ℕ) → IsAsked (λ a s. (a ≡ array) × (s ≡ size)) (λ b. ⊥) n → ⊥) → ((size id : ℕ) → IsVariable size id n → ⊥) → ((a : ℕ) → IsReached n a → IsPlain a) → IsPlain t
  plain-node t n at no_read no_variable parts = (reads, frees)
    where
      reads : (array size : ℕ) → Reads nodes array size t → Reads nodes array size goal
      reads array size r = by (reach-cases nodes _ _ t n at r)
        where
          by : (IsAsked (λ a s. (a ≡ array) × (s ≡ size)) (λ b. ⊥) n) ⊎ ((a : ℕ) × (IsReached n a) × (Reads nodes array size a)) → Reads nodes array size goal
          by (inl e) = absurd (no_read array size e)
          by (inr (a, part, g)) = (parts a part).0 array size g

      frees : (size id : ℕ) → Frees nodes size id t → (Frees nodes size id goal) ⊎ ((first ≤ id) × (size ≡ 64))
      frees size id r = by (free-cases nodes size id t n at r)
        where
          by : (IsVariable size id n) ⊎ ((a : ℕ) × (binds n id ≡ false) × (IsReached n a) × (Frees nodes size id a)) → (Frees nodes size id goal) ⊎ ((first ≤ id) × (size ≡ 64))
          by (inl e) = absurd (no_variable size id e)
          by (inr (a, off, part, g)) = (parts a part).1 size id g

  plain-constant : (t w x : ℕ) → slice_get nodes t ≡ Some (Const w x) → IsPlain t
  plain-constant t w x at = plain-node t (Const w x) at (λ array size e. e) (λ size id e. e) (λ a p. absurd p)

  plain-agreement : (r s i j d : ℕ) → IsAgreement nodes r s i j d → IsPlain r → IsPlain s → IsPlain i → IsPlain j → IsPlain d
  plain-agreement r s i j d h pr ps pi pj = plain-node d (Choose h.places h.values h.one) h.is (λ array size e. e) (λ size id e. e) by
    where
      wide : IsPlain h.wide
      wide = plain-node h.wide _ h.wide_is (λ array size e. e) (λ size id e. e) (λ a e. subst IsPlain (sym e) pi)

      other : IsPlain h.other_wide
      other = plain-node h.other_wide _ h.other_is (λ array size e. e) (λ size id e. e) (λ a e. subst IsPlain (sym e) pj)

      either : (x y : ℕ) → IsPlain x → IsPlain y → (a : ℕ) → (a ≡ x) ⊎ (a ≡ y) → IsPlain a
      either x y p q a (inl e) = subst IsPlain (sym e) p
      either x y p q a (inr e) = subst IsPlain (sym e) q

      places : IsPlain h.places
      places = plain-node h.places _ h.places_is (λ array size e. e) (λ size id e. e) (either h.wide h.other_wide wide other)

      values : IsPlain h.values
      values = plain-node h.values _ h.values_is (λ array size e. e) (λ size id e. e) (either r s pr ps)

      by : (a : ℕ) → (a ≡ h.places) ⊎ ((a ≡ h.values) ⊎ (a ≡ h.one)) → IsPlain a
      by a (inl e) = subst IsPlain (sym e) places
      by a (inr e) = either h.values h.one values (plain-constant h.one 1 1 h.one_is) a e

  plain-implication : (q b d : ℕ) → IsImplication nodes q b d → IsPlain q → IsPlain b → IsPlain d
  plain-implication q b d h pq pb = plain-node d (Choose q b h.one) h.is (λ array size e. e) (λ size id e. e) by
    where
      by : (a : ℕ) → (a ≡ q) ⊎ ((a ≡ b) ⊎ (a ≡ h.one)) → IsPlain a
      by a (inl e) = subst IsPlain (sym e) pq
      by a (inr (inl e)) = subst IsPlain (sym e) pb
      by a (inr (inr e)) = subst IsPlain (sym e) (plain-constant h.one 1 1 h.one_is)

  plain-body : (q b : ℕ) (bound : List Bound) (inner : ℕ) (ks : List ℕ) → slice_get nodes q ≡ Some (ForAll bound inner) → IsTuple bound ks → Copies nodes (standing bound (map Number ks)) inner b → IsPlain q → IsPlain b
  plain-body q b bound inner ks at fits copy p = (λ array size r. p.0 array size (under _ inner at refl (copies-reach nodes _ _ copy r)), λ size id r. by size id (copies-free nodes size id copy r))
    where
      by : (size id : ℕ) → IsFreed nodes size id (standing bound (map Number ks)) inner → (Frees nodes size id goal) ⊎ ((first ≤ id) × (size ≡ 64))
      by size id (inl e) = p.1 size id (within _ inner at (not-bound bound (map Number ks) [] id (tuple-length bound ks fits) e.1).0 refl e.0)
      by size id (inr s) = absurd (no-other bound ks s.instead size id s.stand)

module _ (nodes : List Node) (goal : ℕ) (instances : List Instance) (table : Table) (first : ℕ) (known : ℕ → Type 0) (ours : (t : ℕ) → known t → IsOurs nodes goal instances table first t) where
  plain : (t : ℕ) → known t → IsPlain nodes goal first t
  plain t h = ((ours t h).reads, (ours t h).frees)

  pub demand-ours : (i : Instance) (d : ℕ) → Contains instances i → IsDemand nodes table i d
      → ((k t : ℕ) → slice_get table.reads k ≡ Some t → known t) → ((t array size i : ℕ) → known t → slice_get nodes t ≡ Some (Select array size i) → known i) → ((k t : ℕ) → slice_get table.quantifiers k ≡ Some t → known t)
      → IsOurs nodes goal instances table first d
  demand-ours (Pair a b) d c h reads places quantifiers =
      let p = h.0 in
      let r = reads a p.first p.first_at in
      let s = reads b p.second p.second_at in
      let all : IsPlain nodes goal first d = plain-agreement nodes goal first p.first p.second p.place p.other_place d h.1 (plain p.first r) (plain p.second s) (plain p.place (places p.first p.array p.size p.place r p.first_is)) (plain p.other_place (places p.second p.array p.other_size p.other_place s p.second_is)) in
      record { mentioned = its_added (Pair a b) d c h; reads = all.0; frees = all.1 }
  demand-ours (Tuple k ks) d c h reads places quantifiers =
      let q = h.0 in
      let t = plain q.term (quantifiers k q.term q.at) in
      let all : IsPlain nodes goal first d = plain-implication nodes goal first q.term h.1 d h.3 t (plain-body nodes goal first q.term h.1 q.bound q.body ks q.is q.fits h.2 t) in
      record { mentioned = its_added (Tuple k ks) d c h; reads = all.0; frees = all.1 }

-- and it arises
pub demand-arises : (nodes : List Node) (goal : ℕ) (table : Table) (demands : List ℕ) (known : ℕ → Type 0) → ((t : ℕ) → known t → Arises nodes goal table.openings demands t) → (i : Instance) (d : ℕ) → Contains demands d → IsDemand nodes table i d
    → ((k t : ℕ) → slice_get table.reads k ≡ Some t → known t) → ((t array size i : ℕ) → known t → slice_get nodes t ≡ Some (Select array size i) → known i) → ((k t : ℕ) → slice_get table.quantifiers k ≡ Some t → known t)
    → Arises nodes goal table.openings demands d
demand-arises nodes goal table demands known arises (Pair a b) d c h reads places quantifiers =
    let p = h.0 in
    let r = reads a p.first p.first_at in
    let s = reads b p.second p.second_at in
    arises_agreed p.first p.second p.place p.other_place d c h.1 (arises p.first r) (arises p.second s) (arises p.place (places p.first p.array p.size p.place r p.first_is)) (arises p.other_place (places p.second p.array p.other_size p.other_place s p.second_is))
demand-arises nodes goal table demands known arises (Tuple k ks) d c h reads places quantifiers =
    let q = h.0 in
    arises_implied q.term h.1 q.body d q.bound c h.3 q.is (arises q.term (quantifiers k q.term q.at))
