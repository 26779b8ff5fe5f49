-- The sums of nodes, targets first.
use Rattle.std.proofs.Common.{◌≡◌, ◌⊎◌, inl, inr, ℕ, zero, suc, ◌+◌, ◌<◌, min, Bool, true, false, cond, Option, Some, None, List, [], ◌∷◌, ◌++◌, length, take, refl, sym, ◌∙◌, ap, subst, arith, get_or-set_same, get_or-set_other}
use Rattle.std.specs.Prelude.{slice_index, slice_index_or, slice_set, sum_by, replicate, eqb}
use Rattle.std.specs.List.{Contains}
use Rattle.std.proofs.lemmas.Bool.{eq-eqb, ne_eqb}
use Rattle.std.proofs.lemmas.List.{get_or_default, length-replicate, length-set, take_more}
use Rattle.std.proofs.lemmas.List.Sums.{sum_by-cons}
use Rattle.std.proofs.lemmas.List.Elements.{Contains-append_left, Contains-append_right, Contains-push_cases}
use Rattle.hk_graph.specs.Walks.{Walks, IsOnCycle, HasEdge, targets_of}
use Rattle.hk_graph.specs.Sorted.{flag_of, IsAnswer, IsOrder}
use Rattle.hk_flow.specs.Total.{LeadsToCycle}
use Rattle.hk_flow.specs.Sums.{IsSum, told, then_more, sum_along, told_by, IsCounted, IsSummed}
use Rattle.hk_flow.proofs.TotalLaws.{sum_agree}
use Rattle.hk_flow.proofs.Passing.{not_before}

cut_more : (a b m n top : ℕ) → a ≡ min b top → m ≡ min n top → min (a + m) top ≡ min (b + n) top
cut_more a b m n top e f = omega (arith, e, f)

some_same : (n m : ℕ) → Some n ≡ Some m → n ≡ m
some_same n m e = cc

-- ---- along the targets

module _ (totals : List (Option ℕ)) (top : ℕ) where
  pub along_told : (ts : List ℕ) (a n : ℕ) → sum_along totals top a ts ≡ Some n → (t : ℕ) → Contains ts t → (m : ℕ) × (told totals t ≡ Some m)
  along_told [] a n e t (k, l, f) = absurd (omega (arith, l))
  along_told (s ∷ ts) a n e t c = pick (told totals s) refl e (λ m f d. along_told ts (min (a + m) top) n f t d) c
    where
      pick : (o : Option ℕ) → told totals s ≡ o → then_more o (λ m. sum_along totals top (min (a + m) top) ts) ≡ Some n
          → ((m : ℕ) → sum_along totals top (min (a + m) top) ts ≡ Some n → Contains ts t → (m : ℕ) × (told totals t ≡ Some m))
          → Contains (s ∷ ts) t → (m : ℕ) × (told totals t ≡ Some m)
      pick None is f rest d = absurd (clash f)
        where
          clash : None ≡ Some n → ⊥
          clash g = cc
      pick (Some m) is f rest (zero, l, same) = (m, ap (λ z. told totals z) (sym same) ∙ is)
      pick (Some m) is f rest (suc k, l, same) = rest m f (k, omega (arith, l), same)

  pub along_none : (ts : List ℕ) (a : ℕ) → sum_along totals top a ts ≡ None → (t : ℕ) × Contains ts t × (told totals t ≡ None)
  along_none [] a e = absurd (clash e)
    where
      clash : Some a ≡ None → ⊥
      clash g = cc
  along_none (s ∷ ts) a e = pick (told totals s) refl e (λ m f. along_none ts (min (a + m) top) f)
    where
      pick : (o : Option ℕ) → told totals s ≡ o → then_more o (λ m. sum_along totals top (min (a + m) top) ts) ≡ None
          → ((m : ℕ) → sum_along totals top (min (a + m) top) ts ≡ None → (t : ℕ) × Contains ts t × (told totals t ≡ None))
          → (t : ℕ) × Contains (s ∷ ts) t × (told totals t ≡ None)
      pick None is f rest = (s, (0, omega arith, refl), is)
      pick (Some m) is f rest = let r = rest m f in (r.0, Contains-append_right (s ∷ []) ts r.0 r.1, r.2)

  pub along_is : (total_of : ℕ → ℕ) (ts : List ℕ) (a b n : ℕ) → a ≡ min b top
      → ((t m : ℕ) → Contains ts t → told totals t ≡ Some m → m ≡ min (total_of t) top) → sum_along totals top a ts ≡ Some n
      → n ≡ min (b + sum_by total_of ts) top
  along_is total_of [] a b n cut each e =
      let same : a ≡ n = some_same a n e in
      let none : sum_by total_of [] ≡ 0 = refl in
      omega (arith, cut, same, none)
  along_is total_of (s ∷ ts) a b n cut each e =
      pick (told totals s) refl e
      (λ m is f. along_is total_of ts (min (a + m) top) (b + total_of s) n
      (cut_more a b m (total_of s) top cut (each s m (0, omega arith, refl) is))
      (λ t k c. each t k (Contains-append_right (s ∷ []) ts t c)) f)
    where
      pick : (o : Option ℕ) → told totals s ≡ o → then_more o (λ m. sum_along totals top (min (a + m) top) ts) ≡ Some n
          → ((m : ℕ) → told totals s ≡ Some m → sum_along totals top (min (a + m) top) ts ≡ Some n → n ≡ min (b + total_of s + sum_by total_of ts) top)
          → n ≡ min (b + sum_by total_of (s ∷ ts)) top
      pick None is f rest = absurd (clash f)
        where
          clash : None ≡ Some n → ⊥
          clash g = cc
      pick (Some m) is f rest =
          let r : n ≡ min (b + total_of s + sum_by total_of ts) top = rest m is f in
          omega (arith, r, sum_by-cons total_of s ts)

-- ---- one node more

changed : (ℕ → ℕ) → ℕ → ℕ → ℕ → ℕ
changed f v n a = cond (eqb a v) n (f a)

changed_here : (f : ℕ → ℕ) (v n : ℕ) → changed f v n v ≡ n
unfolding changed
changed_here f v n = ap (λ b. cond b n (f v)) (eq-eqb v v refl)

changed_other : (f : ℕ → ℕ) (v n a : ℕ) → (a ≡ v → ⊥) → changed f v n a ≡ f a
unfolding changed
changed_other f v n a ne = ap (λ b. cond b n (f a)) (ne_eqb a v ne)

module _ (graph : List (List ℕ)) (own : List ℕ) (top : ℕ) (totals : List (Option ℕ)) (done : List ℕ) (h : IsSummed graph own top totals done) (v : ℕ)
    (new : Contains done v → ⊥) (inside : v < length graph) where
  apart : (a : ℕ) → Contains done a → a ≡ v → ⊥
  apart a c e = new (subst (λ z. Contains done z) e c)

  told_other : (r : Option ℕ) (a : ℕ) → Contains done a → told (slice_set totals v r) a ≡ told totals a
  told_other r a c = get_or-set_other totals v a r None (apart a c)

  told_here : (r : Option ℕ) → told (slice_set totals v r) v ≡ r
  told_here r = get_or-set_same totals v r None (subst (λ n. v < n) (sym h.sizes) inside)

  -- what is told of a node that is done stays so
  counted_more : (r : Option ℕ) (f : ℕ → ℕ) → ((a : ℕ) → Contains done a → f a ≡ h.total_of a) → (a : ℕ) (o : Option ℕ) → Contains done a
      → IsCounted graph own top h.total_of done totals a o → IsCounted graph own top f (done ++ v ∷ []) (slice_set totals v r) a o
  counted_more r f same a None c is = is
  counted_more r f same a (Some n) c is = (
    is.0,
    same a c ∙ is.1 ∙ ap (λ s. slice_index own a + s) (sym (sum_agree f h.total_of (targets_of graph a) (λ t d. same t (is.2 t d).0))),
    λ t edge. let next = is.2 t edge in (Contains-append_left done (v ∷ []) t next.0, next.1, told_other r t next.0 ∙ next.2),
    is.3 ∙ ap (λ m. min m top) (sym (same a c)),
  )

  each_more : (r : Option ℕ) (f : ℕ → ℕ) → ((a : ℕ) → Contains done a → f a ≡ h.total_of a)
      → IsCounted graph own top f (done ++ v ∷ []) (slice_set totals v r) v r
      → (a : ℕ) → Contains (done ++ v ∷ []) a → IsCounted graph own top f (done ++ v ∷ []) (slice_set totals v r) a (told (slice_set totals v r) a)
  each_more r f same last a c = pick (Contains-push_cases done v a c)
    where
      pick : Contains done a ⊎ (v ≡ a) → IsCounted graph own top f (done ++ v ∷ []) (slice_set totals v r) a (told (slice_set totals v r) a)
      pick (inl d) =
          subst (λ o. IsCounted graph own top f (done ++ v ∷ []) (slice_set totals v r) a o) (sym (told_other r a d))
          (counted_more r f same a (told totals a) d (h.each a d))
      pick (inr e) =
          subst (λ z. IsCounted graph own top f (done ++ v ∷ []) (slice_set totals v r) z (told (slice_set totals v r) z)) e
          (subst (λ o. IsCounted graph own top f (done ++ v ∷ []) (slice_set totals v r) v o) (sym (told_here r)) last)

  pub none_more : LeadsToCycle (targets_of graph) v → IsSummed graph own top (slice_set totals v None) (done ++ v ∷ [])
  none_more cycle = record {
    total_of = h.total_of;
    sizes = length-set totals v None ∙ h.sizes;
    each = each_more None h.total_of (λ a c. refl) cycle;
  }

  pub some_more : (n : ℕ) → (IsOnCycle (HasEdge graph) v → ⊥) → ((t : ℕ) → HasEdge graph v t → Contains done t)
      → sum_along totals top (min (slice_index own v) top) (targets_of graph v) ≡ Some n → IsSummed graph own top (slice_set totals v (Some n)) (done ++ v ∷ [])
  some_more n clear earlier e = record {
    total_of = changed h.total_of v (slice_index own v + sum_by h.total_of (targets_of graph v));
    sizes = length-set totals v (Some n) ∙ h.sizes;
    each = each_more (Some n) (changed h.total_of v (slice_index own v + sum_by h.total_of (targets_of graph v))) same (no_cycle, equation, next, cut);
  }
    where
      same : (a : ℕ) → Contains done a → changed h.total_of v (slice_index own v + sum_by h.total_of (targets_of graph v)) a ≡ h.total_of a
      same a c = changed_other h.total_of v (slice_index own v + sum_by h.total_of (targets_of graph v)) a (apart a c)

      told_some : (t : ℕ) → HasEdge graph v t → (m : ℕ) × (told totals t ≡ Some m)
      told_some t edge = along_told totals top (targets_of graph v) (min (slice_index own v) top) n e t edge

      counted : (t m : ℕ) → Contains done t → told totals t ≡ Some m → IsCounted graph own top h.total_of done totals t (Some m)
      counted t m c f = subst (λ o. IsCounted graph own top h.total_of done totals t o) f (h.each t c)

      no_cycle : LeadsToCycle (targets_of graph) v → ⊥
      no_cycle (c, ([], f), cycle) = clear (subst (λ z. IsOnCycle (HasEdge graph) z) (sym f) cycle)
      no_cycle (c, (x ∷ left, (f, y, edge, w)), cycle) =
          let first : HasEdge graph v y = subst (λ z. HasEdge graph z y) (sym f) edge in
          let m = told_some y first in
          (counted y m.0 (earlier y first) m.1).0 (c, (left, w), cycle)

      equation : changed h.total_of v (slice_index own v + sum_by h.total_of (targets_of graph v)) v
          ≡ slice_index own v + sum_by (changed h.total_of v (slice_index own v + sum_by h.total_of (targets_of graph v))) (targets_of graph v)
      equation =
          changed_here h.total_of v (slice_index own v + sum_by h.total_of (targets_of graph v))
          ∙ ap (λ s. slice_index own v + s)
          (sym (sum_agree (changed h.total_of v (slice_index own v + sum_by h.total_of (targets_of graph v))) h.total_of (targets_of graph v) (λ t d. same t (earlier t d))))

      next : (t : ℕ) → HasEdge graph v t → Contains (done ++ v ∷ []) t × (m : ℕ) × (told (slice_set totals v (Some n)) t ≡ Some m)
      next t edge =
          let m = told_some t edge in
          (Contains-append_left done (v ∷ []) t (earlier t edge), m.0, told_other (Some n) t (earlier t edge) ∙ m.1)

      cut : n ≡ min (changed h.total_of v (slice_index own v + sum_by h.total_of (targets_of graph v)) v) top
      cut =
          along_is totals top h.total_of (targets_of graph v) (min (slice_index own v) top) (slice_index own v) n refl
          (λ t m d f. (counted t m (earlier t d) f).3) e
          ∙ ap (λ m. min m top) (sym (changed_here h.total_of v (slice_index own v + sum_by h.total_of (targets_of graph v))))

  -- a node that is on no cycle, with what is told of its targets
  pub sum_more : (r : Option ℕ) → (IsOnCycle (HasEdge graph) v → ⊥) → ((t : ℕ) → HasEdge graph v t → Contains done t)
      → r ≡ sum_along totals top (min (slice_index own v) top) (targets_of graph v) → IsSummed graph own top (slice_set totals v r) (done ++ v ∷ [])
  sum_more None clear earlier e =
      let missing = along_none totals top (targets_of graph v) (min (slice_index own v) top) (sym e) in
      let t = missing.0 in
      let is = subst (λ o. IsCounted graph own top h.total_of done totals t o) missing.2 (h.each t (earlier t missing.1)) in
      none_more (is.0, (v ∷ is.1.0, (refl, t, missing.1, is.1.1)), is.2)
  sum_more (Some n) clear earlier e = some_more n clear earlier (sym e)

-- ---- from the first node to the last

pub sums_none : (graph : List (List ℕ)) (own : List ℕ) (top : ℕ) → IsSummed graph own top (replicate (length graph) None) []
sums_none graph own top = record {
  total_of = λ a. 0;
  sizes = length-replicate {A = Option ℕ} (length graph) None;
  each = λ v c. absurd (nothing v c);
}
  where
    nothing : (x : ℕ) → Contains [] x → ⊥
    nothing x (k, l, e) = omega (arith, l)

pub sums_step : (graph : List (List ℕ)) (nodes : List ℕ) (cyclic : List Bool) (own : List ℕ) (top : ℕ) (totals : List (Option ℕ)) (at : ℕ) (r : Option ℕ)
    → IsOrder graph nodes cyclic → at < length nodes → IsSummed graph own top totals (take at nodes)
    → r ≡ told_by (flag_of cyclic (slice_index nodes at)) (sum_along totals top (min (slice_index own (slice_index nodes at)) top) (targets_of graph (slice_index nodes at)))
    → IsSummed graph own top (slice_set totals (slice_index nodes at) r) (take (at + 1) nodes)
sums_step graph nodes cyclic own top totals at r o l h e =
    subst (λ xs. IsSummed graph own top (slice_set totals (slice_index nodes at) r) xs) (sym (take_more nodes at 0 l))
    (pick (flag_of cyclic (slice_index nodes at)) refl e)
  where
    inside : slice_index nodes at < length graph
    inside = o.within at 0 l

    new : Contains (take at nodes) (slice_index nodes at) → ⊥
    new = not_before nodes o.once at l

    pick : (b : Bool) → flag_of cyclic (slice_index nodes at) ≡ b
        → r ≡ told_by b (sum_along totals top (min (slice_index own (slice_index nodes at)) top) (targets_of graph (slice_index nodes at)))
        → IsSummed graph own top (slice_set totals (slice_index nodes at) r) (take at nodes ++ slice_index nodes at ∷ [])
    pick true flag f =
        let cycle : IsOnCycle (HasEdge graph) (slice_index nodes at) = subst (λ b. IsAnswer graph b (slice_index nodes at)) flag (o.answers (slice_index nodes at) inside) in
        subst (λ q. IsSummed graph own top (slice_set totals (slice_index nodes at) q) (take at nodes ++ slice_index nodes at ∷ [])) (sym f)
        (none_more graph own top totals (take at nodes) h (slice_index nodes at) new inside (slice_index nodes at, ([], refl), cycle))
    pick false flag f =
        let clear : IsOnCycle (HasEdge graph) (slice_index nodes at) → ⊥ =
        subst (λ b. IsAnswer graph b (slice_index nodes at)) flag (o.answers (slice_index nodes at) inside) in
        sum_more graph own top totals (take at nodes) h (slice_index nodes at) new inside r clear (λ t edge. o.forward at t l flag edge) f

-- the same, as the code reads the node and the sums
pub sums_read : (graph : List (List ℕ)) (nodes : List ℕ) (cyclic : List Bool) (own : List ℕ) (top : ℕ) (totals now : List (Option ℕ)) (at node : ℕ) (r : Option ℕ)
    → IsOrder graph nodes cyclic → at < length nodes → IsSummed graph own top totals (take at nodes) → node ≡ slice_index_or nodes at node → now ≡ totals
    → r ≡ told_by (flag_of cyclic node) (sum_along now top (min (slice_index own node) top) (targets_of graph node))
    → IsSummed graph own top (slice_set totals node r) (take (at + 1) nodes)
sums_read graph nodes cyclic own top totals now at node r o l h read same e =
    subst (λ z. IsSummed graph own top (slice_set totals z r) (take (at + 1) nodes)) here
    (sums_step graph nodes cyclic own top totals at r o l h
    (subst (λ z. r ≡ told_by (flag_of cyclic z) (sum_along totals top (min (slice_index own z) top) (targets_of graph z))) (sym here)
    (subst (λ xs. r ≡ told_by (flag_of cyclic node) (sum_along xs top (min (slice_index own node) top) (targets_of graph node))) same e)))
  where
    here : slice_index nodes at ≡ node
    here = get_or_default nodes at 0 node l ∙ sym read

pub sums_none_as : (graph : List (List ℕ)) (own : List ℕ) (top : ℕ) (totals : List (Option ℕ)) (n : ℕ) → n ≡ length graph → totals ≡ replicate n None
    → IsSummed graph own top totals []
sums_none_as graph own top totals n e is =
    subst (λ os. IsSummed graph own top os []) (sym (is ∙ ap (λ k. replicate k None) e)) (sums_none graph own top)

pub sums_told : (graph : List (List ℕ)) (nodes done : List ℕ) (own : List ℕ) (top : ℕ) (totals : List (Option ℕ))
    → ((v : ℕ) → v < length graph → Contains nodes v) → done ≡ nodes → IsSummed graph own top totals done → (v : ℕ) → v < length graph
    → IsSum graph own top v (told totals v)
sums_told graph nodes done own top totals all same h v l = pick (told totals v) refl (h.each v (there v l))
  where
    there : (v : ℕ) → v < length graph → Contains done v
    there v l = subst (λ xs. Contains xs v) (sym same) (all v l)

    solves : (left : List ℕ) (a b m : ℕ) → Contains done a → told totals a ≡ Some m → Walks (HasEdge graph) a left b
        → h.total_of b ≡ slice_index own b + sum_by h.total_of (targets_of graph b)
    solves [] a b m c e w =
        let is = subst (λ o. IsCounted graph own top h.total_of done totals a o) e (h.each a c) in
        subst (λ z. h.total_of z ≡ slice_index own z + sum_by h.total_of (targets_of graph z)) w is.1
    solves (x ∷ left) a b m c e (f, y, edge, w) =
        let is = subst (λ o. IsCounted graph own top h.total_of done totals a o) e (h.each a c) in
        let next = is.2 y (subst (λ z. HasEdge graph z y) (sym f) edge) in
        solves left y b next.1 next.0 next.2 w

    pick : (o : Option ℕ) → told totals v ≡ o → IsCounted graph own top h.total_of done totals v o → IsSum graph own top v o
    pick None e is = is
    pick (Some n) e is =
        (is.0, h.total_of v, record { total_of = h.total_of; sums = λ a walk. solves walk.0 v a n (there v l) e walk.1; is = refl }, is.3)
