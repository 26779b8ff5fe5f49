-- Numbers of terms are their values: where operations, reads, variables and quantifiers have numbers that fit together, each term's number
-- is its value under the reading. A quantifier's number is settled by copies of its body, which stand behind it in the list but cost less,
-- so the induction is over the cost first and the place second.
use Rattle.std.proofs.Common.{◌≡◌, ◌⊎◌, inl, inr, ℕ, zero, suc, ◌+◌, ◌*◌, ◌<◌, ◌≤◌, ◌%◌, ◌^◌, true, false, cond, nat_eq, List, length, reverse, Some, arith, refl, sym, ◌∙◌, ap, subst}
use Rattle.std.specs.Prelude.{slice_get}
use Rattle.std.proofs.Math.Nat.{mul-le-mul_right}
use Rattle.std.proofs.lemmas.Bool.{eq-eqb}
use Rattle.hk_term.specs.Operations.{bit, unary_value, binary_value, resize_value}
use Rattle.hk_term.specs.Shape.{width, AllFitIn, NodeFits}
use Rattle.hk_term.specs.Meaning.{Reading, every_tuple, node_value, value}
use Rattle.hk_term.specs.declared.bounds.Bound.{Bound}
use Rattle.hk_term.specs.declared.node.Node.{Node}
use Rattle.hk_term.specs.declared.node.Node.TheVariants.{Const, Var, Select, Unary, Binary, Choose, Resize, ForAll}
use Rattle.hk_term.proofs.TermLists.{holds}
use Rattle.hk_copy.specs.Stands.{with_tuple}
use Rattle.hk_copy.specs.Cost.{tuples, cost}
use Rattle.hk_copy.proofs.CostLaws.{cost_is}
use Rattle.hk_inst.specs.Truths.{IsTuple}
use Rattle.hk_inst.proofs.Tuples.{tuple-all, tuple-fails}
use Rattle.hk_inst.proofs.LikeReadings.{some-node}
use Rattle.hk_inst.proofs.RequiredTerms.{Local}

-- a copy of a quantifier's body at a tuple
pub record IsOpened (nodes : List Node) (IsKnown : ℕ → Type 0) (u : Reading) (bound : List Bound) (body : ℕ) (ks : List ℕ) : Type 0 where
  pub copy : ℕ
  pub known : IsKnown copy
  pub cheap : cost nodes copy ≤ cost nodes body
  pub value_is : value nodes copy u ≡ value nodes body (with_tuple bound ks u)

pub record Fits (nodes : List Node) (IsKnown : ℕ → Type 0) (f : ℕ → ℕ) (u : Reading) : Type 0 where
  pub local : Local nodes IsKnown f
  pub there : (t : ℕ) → IsKnown t → t < length nodes
  pub below : (t : ℕ) → IsKnown t → f t < 2 ^ width nodes t
  pub places : (t array size i : ℕ) → slice_get nodes t ≡ Some (Select array size i) → IsKnown t → IsKnown i
  pub variable : (t size id : ℕ) → slice_get nodes t ≡ Some (Var size id) → IsKnown t → f t ≡ u.var id % 2 ^ size
  pub entry : (t array size i : ℕ) → slice_get nodes t ≡ Some (Select array size i) → IsKnown t → f t ≡ u.entry array (f i) % 2 ^ size
  pub true_at : (t body : ℕ) (bound : List Bound) → slice_get nodes t ≡ Some (ForAll bound body) → IsKnown t → f t ≡ 1 → (ks : List ℕ) → IsTuple bound ks
      → (value nodes body (with_tuple bound ks u) ≡ 1) ⊎ ((o : IsOpened nodes IsKnown u bound body ks) × (f o.copy ≡ 1))
  pub false_at : (t body : ℕ) (bound : List Bound) → slice_get nodes t ≡ Some (ForAll bound body) → IsKnown t → f t ≡ 0
      → (ks : List ℕ) × (IsTuple bound ks) × (o : IsOpened nodes IsKnown u bound body ks) × (nat_eq (f o.copy) 1 ≡ false)

body-cheap : (a b : ℕ) → b < 1 + (a + 1) * (1 + b)
body-cheap a b =
    let one : 1 ≤ a + 1 = omega arith in
    omega (arith, mul-le-mul_right (1 + b) one)

module _ (nodes : List Node) (fit : AllFitIn (reverse nodes)) (IsKnown : ℕ → Type 0) (f : ℕ → ℕ) (u : Reading) (h : Fits nodes IsKnown f u) where
  Settles : ℕ → Type 0
  Settles t = f t ≡ value nodes t u

  -- a term's number is its value, where this is so of its parts and of copies that cost less
  settle : (n : Node) (t : ℕ) → slice_get nodes t ≡ Some n → NodeFits t (width nodes) n → IsKnown t
      → ((k : ℕ) → k < t → cost nodes k ≤ cost nodes t → IsKnown k → Settles k)
      → ((k : ℕ) → cost nodes k < cost nodes t → IsKnown k → Settles k)
      → f t ≡ node_value n (value nodes) (width nodes) u
  unfolding Settles
  settle (Const size number) t at fits k part cheap = h.local.value_is t _ at k
  settle (Var size id) t at fits k part cheap = h.variable t size id at k
  settle (Select array size i) t at fits k part cheap =
      h.entry t array size i at k ∙ ap (λ n. u.entry array n % 2 ^ size) (part i fits.1 (omega (arith, cost_is nodes fit t _ at)) (h.places t array size i at k))
  settle (Unary kind a) t at fits k part cheap =
      h.local.value_is t _ at k ∙ ap (unary_value kind (width nodes a)) (part a fits (omega (arith, cost_is nodes fit t _ at)) (h.local.parts t a _ at k refl))
  settle (Binary kind a b) t at fits k part cheap =
      let x : f a ≡ value nodes a u = part a fits.0 (omega (arith, cost_is nodes fit t _ at)) (h.local.parts t a _ at k (inl refl)) in
      let y : f b ≡ value nodes b u = part b fits.1 (omega (arith, cost_is nodes fit t _ at)) (h.local.parts t b _ at k (inr refl)) in
      h.local.value_is t _ at k ∙ (λ i. binary_value kind (width nodes a) (width nodes b) (x i) (y i))
  settle (Choose c a b) t at fits k part cheap =
      let z : f c ≡ value nodes c u = part c fits.0 (omega (arith, cost_is nodes fit t _ at)) (h.local.parts t c _ at k (inl refl)) in
      let x : f a ≡ value nodes a u = part a fits.1 (omega (arith, cost_is nodes fit t _ at)) (h.local.parts t a _ at k (inr (inl refl))) in
      let y : f b ≡ value nodes b u = part b fits.2 (omega (arith, cost_is nodes fit t _ at)) (h.local.parts t b _ at k (inr (inr refl))) in
      h.local.value_is t _ at k ∙ (λ i. cond (nat_eq (z i) 1) (x i) (y i))
  settle (Resize kind to a) t at fits k part cheap =
      h.local.value_is t _ at k ∙ ap (resize_value kind (width nodes a) to) (part a fits.0 (omega (arith, cost_is nodes fit t _ at)) (h.local.parts t a _ at k refl))
  settle (ForAll bound body) t at fits k part cheap = by (f t) refl
    where
      small : f t < 2
      small = subst (λ w. f t < 2 ^ w) (holds nodes t _ fit at).width_is (h.below t k)

      less : cost nodes body < cost nodes t
      less = omega (arith, cost_is nodes fit t _ at, body-cheap (tuples bound) (cost nodes body))

      all : f t ≡ 1 → (ks : List ℕ) → IsTuple bound ks → nat_eq (value nodes body (with_tuple bound ks u)) 1 ≡ true
      all e ks ts = pick (h.true_at t body bound at k e ks ts)
        where
          pick : (value nodes body (with_tuple bound ks u) ≡ 1) ⊎ ((o : IsOpened nodes IsKnown u bound body ks) × (f o.copy ≡ 1)) → nat_eq (value nodes body (with_tuple bound ks u)) 1 ≡ true
          pick (inl d) = eq-eqb (value nodes body (with_tuple bound ks u)) 1 d
          pick (inr p) =
              let o : IsOpened nodes IsKnown u bound body ks = p.0 in
              let s : f o.copy ≡ value nodes o.copy u = cheap o.copy (omega (arith, o.cheap, less)) o.known in
              eq-eqb (value nodes body (with_tuple bound ks u)) 1 (sym o.value_is ∙ sym s ∙ p.1)

      some : f t ≡ 0 → every_tuple bound (λ v. nat_eq (value nodes body v) 1) u ≡ false
      some e =
          let r : (ks : List ℕ) × (IsTuple bound ks) × (o : IsOpened nodes IsKnown u bound body ks) × (nat_eq (f o.copy) 1 ≡ false) = h.false_at t body bound at k e in
          let o : IsOpened nodes IsKnown u bound body r.0 = r.2 in
          let s : f o.copy ≡ value nodes o.copy u = cheap o.copy (omega (arith, o.cheap, less)) o.known in
          tuple-fails bound (λ v. nat_eq (value nodes body v) 1) u r.0 r.1 (ap (λ n. nat_eq n 1) (sym o.value_is ∙ sym s) ∙ r.3)

      by : (n : ℕ) → f t ≡ n → f t ≡ bit (every_tuple bound (λ v. nat_eq (value nodes body v) 1) u)
      by zero e = e ∙ ap bit (sym (some e))
      by (suc n) e =
          let one : f t ≡ 1 = omega (arith, small, e) in
          one ∙ ap bit (sym (tuple-all bound (λ v. nat_eq (value nodes body v) 1) u (all one)))

  by-place : (c : ℕ) → ((k : ℕ) → cost nodes k < c → IsKnown k → Settles k) → (m t : ℕ) → t < m → cost nodes t ≤ c → IsKnown t → Settles t
  unfolding Settles
  by-place c go zero t l d k = absurd (omega arith)
  by-place c go (suc m) t l d k =
      let n = some-node nodes t (h.there t k) in
      let r = holds nodes t n.0 fit n.1 in
      settle n.0 t n.1 r.fits k (λ p e s kp. by-place c go m p (omega (arith, e, l)) (omega (arith, s, d)) kp) (λ p s kp. go p (omega (arith, s, d)) kp) ∙ sym (r.value_is u)

  by-cost : (c k : ℕ) → cost nodes k < c → IsKnown k → Settles k
  by-cost zero k l kp = absurd (omega arith)
  by-cost (suc c) k l kp = by-place c (by-cost c) (suc k) k (omega arith) (omega (arith, l)) kp

  pub settled : (t : ℕ) → IsKnown t → f t ≡ value nodes t u
  unfolding Settles
  settled t k = by-cost (suc (cost nodes t)) t (omega arith) k
