-- A callee's length is below its caller's, so no length is there where calls lead to a cycle.
use Rattle.std.proofs.Common.{◌∙◌, sym, ◌≡◌, ◌⊎◌, inl, inr, ℕ, zero, suc, ◌<◌, ◌≤◌, List, [], ◌∷◌, ◌++◌, map, length, refl, sym, ap, subst, arith}
use Rattle.std.specs.Prelude.{Contains, flat_map, sum, slice_index_or}
use Rattle.std.proofs.lemmas.List.Elements.{Contains-append_left, Contains-append_right, Contains-append_cases}
use Rattle.std.proofs.lemmas.List.Sums.{sum_by-cons}
use Rattle.ir_ast.specs.Program.{InstrView, ModuleView}
use Rattle.hk_graph.specs.Walks.{Walks, Leads, IsOnCycle}
use Rattle.ir_type.specs.Rows.{callees}
use Rattle.ir_check.specs.Paths.{HasCall, body_of, weight, IsLength}

walk_on : {A : Type 0} (R : A → A → Type 0) (left : List A) (a p b : A) → Walks R a left p → R p b → Walks R a (left ++ p ∷ []) b
walk_on R [] a p b e r = (e, b, r, refl)
walk_on R (x ∷ left) a p b (e, y, s, w) r = (e, y, s, walk_on R left y p b w r)

module _ (E : List ℕ → ℕ) where
  at_most : (xs : List (List ℕ)) (k : ℕ) (h : List ℕ) → k < length xs → slice_index_or xs k h ≡ h → E h ≤ sum (map E xs)
  at_most [] k h below e = absurd (omega arith)
  at_most (x ∷ xs) zero h below e =
      let s = sum_by-cons (λ n. n) (E x) (map E xs) in
      let same = ap E e in
      omega arith
  at_most (x ∷ xs) (suc k) h below e =
      let s = sum_by-cons (λ n. n) (E x) (map E xs) in
      let later = at_most xs k h (omega arith) e in
      omega arith

  weighed : (is : List InstrView) (h : List ℕ) → Contains (flat_map (λ i. callees i.act) is) h → E h < sum (map (weight E) is)
  weighed [] h (k, below, e) = absurd (omega arith)
  weighed (i ∷ is) h c = split (weighed is h) (Contains-append_cases (callees i.act) (flat_map (λ i. callees i.act) is) h c)
    where
      split : (Contains (flat_map (λ i. callees i.act) is) h → E h < sum (map (weight E) is))
          → Contains (callees i.act) h ⊎ Contains (flat_map (λ i. callees i.act) is) h → E h < sum (map (weight E) (i ∷ is))
      split later (inl (k, below, e)) =
          let s = sum_by-cons (λ n. n) (weight E i) (map (weight E) is) in
          let own = at_most (callees i.act) k h below e in
          omega arith
      split later (inr c) =
          let s = sum_by-cons (λ n. n) (weight E i) (map (weight E) is) in
          let rest = later c in
          omega arith

module _ (m : ModuleView) (f : List ℕ) (n : ℕ) (l : IsLength m f n) where
  pub callee_is_shorter : (g h : List ℕ) → Leads (HasCall m) f g → HasCall m g h → l.length_of h < l.length_of g
  callee_is_shorter g h reached c =
      let less = weighed l.length_of (body_of m g) h c in
      let equal = l.sums g reached in
      omega arith

  reached_on : (g h : List ℕ) → Leads (HasCall m) f g → HasCall m g h → Leads (HasCall m) f h
  reached_on g h (left, w) c = (left ++ g ∷ [], walk_on (HasCall m) left f g h w c)

  pub walks_fall : (left : List (List ℕ)) (g h : List ℕ) → Leads (HasCall m) f g → Walks (HasCall m) g left h → l.length_of h ≤ l.length_of g
  walks_fall [] g h reached e = let same = ap l.length_of e in omega arith
  walks_fall (x ∷ left) g h reached (e, y, c, w) =
      let call = subst (λ z. HasCall m z y) (sym e) c in
      let first = callee_is_shorter g y reached call in
      let rest = walks_fall left y h (reached_on g y reached call) w in
      omega arith

  pub reaches_no_cycle : (g : List ℕ) → Leads (HasCall m) f g → IsOnCycle (HasCall m) g → ⊥
  reaches_no_cycle g reached (h, c, (left, w)) =
      let first = callee_is_shorter g h reached c in
      let rest = walks_fall left h g (reached_on g h reached c) w in
      omega arith

-- ---- one length

same_sum : (E F : List ℕ → ℕ) (xs : List (List ℕ)) → ((h : List ℕ) → Contains xs h → E h ≡ F h) → sum (map E xs) ≡ sum (map F xs)
same_sum E F [] all = refl
same_sum E F (x ∷ xs) all =
    let a = sum_by-cons (λ n. n) (E x) (map E xs) in
    let b = sum_by-cons (λ n. n) (F x) (map F xs) in
    let first = all x (0, omega arith, refl) in
    let rest = same_sum E F xs (λ h c. all h (suc c.0, lift_below c.1, c.2)) in
    omega arith
  where
    lift_below : {k n : ℕ} → k < n → suc k < suc n
    lift_below l = omega arith

pub same_weights : (E F : List ℕ → ℕ) (is : List InstrView) → ((h : List ℕ) → Contains (flat_map (λ i. callees i.act) is) h → E h ≡ F h)
    → sum (map (weight E) is) ≡ sum (map (weight F) is)
same_weights E F [] all = refl
same_weights E F (i ∷ is) all =
    let a = sum_by-cons (λ n. n) (weight E i) (map (weight E) is) in
    let b = sum_by-cons (λ n. n) (weight F i) (map (weight F) is) in
    let first = same_sum E F (callees i.act) (λ h c. all h (Contains-append_left (callees i.act) (flat_map (λ i. callees i.act) is) h c)) in
    let rest = same_weights E F is (λ h c. all h (Contains-append_right (callees i.act) (flat_map (λ i. callees i.act) is) h c)) in
    omega arith

module _ (m : ModuleView) (f : List ℕ) (n k : ℕ) (l : IsLength m f n) (o : IsLength m f k) where
  same_at : (bound : ℕ) (g : List ℕ) → Leads (HasCall m) f g → l.length_of g < bound → l.length_of g ≡ o.length_of g
  same_at zero g reached below = absurd (omega arith)
  same_at (suc bound) g reached below =
      l.sums g reached
      ∙ same_weights l.length_of o.length_of (body_of m g)
      (λ h c. same_at bound h (reached_on m f n l g h reached c) (less h c))
      ∙ sym (o.sums g reached)
    where
      less : (h : List ℕ) → HasCall m g h → l.length_of h < bound
      less h c = let shorter = callee_is_shorter m f n l g h reached c in omega arith

  -- a function has at most one length
  pub one_length : n ≡ k
  one_length = sym l.is ∙ same_at (suc (l.length_of f)) f ([], refl) (omega arith) ∙ o.is
