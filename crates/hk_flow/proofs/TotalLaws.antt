-- Laws of totals: a target's is below or equal its source's, there is one, and none where a node leads to a cycle.
use Rattle.std.proofs.Common.{◌≡◌, ℕ, zero, suc, ◌+◌, ◌<◌, ◌≤◌, Bool, true, false, List, [], ◌∷◌, length, map, take, sum_by, refl, sym, ◌∙◌, ap, subst, arith}
use Rattle.std.specs.List.{Contains}
use Rattle.std.specs.Prelude.{slice_index}
use Rattle.std.proofs.lemmas.List.{get_or_default, get_or-take, length-take-le}
use Rattle.std.proofs.lemmas.List.Sums.{sum_by-cons}
use Rattle.std.proofs.lemmas.List.Elements.{Contains-append_right}
use Rattle.hk_graph.specs.Walks.{Walks, Leads, HasEdge, targets_of}
use Rattle.hk_graph.specs.Sorted.{flag_of, IsAnswer, IsOrder}
use Rattle.hk_flow.specs.Total.{IsTarget, HasTotal, IsPositive, LeadsToCycle, IsTotal}
use Rattle.hk_flow.proofs.WalkLaws.{Contains-map, Contains-map_back, leads-refl, leads-step, leads-map_among, walks-back}

pub sum_at_least : {A : Type 0} (f : A → ℕ) (xs : List A) (x : A) → Contains xs x → f x ≤ sum_by f xs
sum_at_least f [] x (k, l, e) = absurd (omega (arith, l))
sum_at_least f (y ∷ ys) x (zero, l, e) =
    let same : f y ≡ f x = ap f e in omega (arith, same, sum_by-cons f y ys)
sum_at_least f (y ∷ ys) x (suc k, l, e) =
    let rest : f x ≤ sum_by f ys = sum_at_least f ys x (k, omega (arith, l), e) in
    omega (arith, rest, sum_by-cons f y ys)

pub sum_agree : {A : Type 0} (f g : A → ℕ) (xs : List A) → ((x : A) → Contains xs x → f x ≡ g x) → sum_by f xs ≡ sum_by g xs
sum_agree f g [] same = refl
sum_agree f g (x ∷ xs) same =
    let here : f x ≡ g x = same x (0, omega arith, refl) in
    let rest : sum_by f xs ≡ sum_by g xs = sum_agree f g xs (λ y c. same y (Contains-append_right (x ∷ []) xs y c)) in
    omega (arith, here, rest, sum_by-cons f x xs, sum_by-cons g x xs)

module _ {A : Type 0} (own : A → ℕ) (targets : A → List A) where
  -- a target has a total too, which with what the source has of its own is at most the source's
  pub total_falls : (v w : A) (n : ℕ) → HasTotal own targets v n → IsTarget targets v w → (m : ℕ) × HasTotal own targets w m × (own v + m ≤ n)
  total_falls v w n h edge = (h.total_of w, record { total_of = h.total_of; sums = later; is = refl }, low)
    where
      later : (a : A) → Leads (IsTarget targets) w a → h.total_of a ≡ own a + sum_by h.total_of (targets a)
      later a l = h.sums a (leads-step (IsTarget targets) v w a edge l)

      low : own v + h.total_of w ≤ n
      low =
          let e : h.total_of v ≡ own v + sum_by h.total_of (targets v) = h.sums v (leads-refl (IsTarget targets) v) in
          let most : h.total_of w ≤ sum_by h.total_of (targets v) = sum_at_least h.total_of (targets v) w edge in
          let is : h.total_of v ≡ n = h.is in
          omega (arith, e, most, is)

  pub total_leads : (left : List A) (v w : A) (n : ℕ) → HasTotal own targets v n → Walks (IsTarget targets) v left w → (m : ℕ) × HasTotal own targets w m × (m ≤ n)
  total_leads [] v w n h e = (n, subst (λ z. HasTotal own targets z n) e h, omega arith)
  total_leads (x ∷ left) v w n h (e, y, r, walk) =
      let next = total_falls v y n h (subst (λ z. IsTarget targets z y) (sym e) r) in
      let low : own v + next.0 ≤ n = next.2 in
      let rest = total_leads left y w next.0 next.1 walk in
      let less : rest.0 ≤ next.0 = rest.2 in
      (rest.0, rest.1, omega (arith, low, less))

  -- ---- where each node that has a target has something of its own

  module _ (positive : IsPositive own targets) where
    -- two solutions agree wherever a node leads
    agree_at : (most : ℕ) (f g : A → ℕ) (v : A)
        → ((w : A) → ((a : A) → Leads (IsTarget targets) w a → f a ≡ own a + sum_by f (targets a))
        → ((a : A) → Leads (IsTarget targets) w a → g a ≡ own a + sum_by g (targets a)) → f w < most → f w ≡ g w)
        → ((a : A) → Leads (IsTarget targets) v a → f a ≡ own a + sum_by f (targets a))
        → ((a : A) → Leads (IsTarget targets) v a → g a ≡ own a + sum_by g (targets a)) → f v < suc most → f v ≡ g v
    agree_at most f g v earlier sf sg l =
        sf v (leads-refl (IsTarget targets) v) ∙ ap (λ s. own v + s) (sum_agree f g (targets v) below) ∙ sym (sg v (leads-refl (IsTarget targets) v))
      where
        below : (w : A) → Contains (targets v) w → f w ≡ g w
        below w c =
            let e : f v ≡ own v + sum_by f (targets v) = sf v (leads-refl (IsTarget targets) v) in
            let low : f w ≤ sum_by f (targets v) = sum_at_least f (targets v) w c in
            let some : 0 < own v = positive v w c in
            earlier w (λ a r. sf a (leads-step (IsTarget targets) v w a c r)) (λ a r. sg a (leads-step (IsTarget targets) v w a c r))
            (omega (arith, e, low, some, l))

    agree : (most : ℕ) (f g : A → ℕ) (v : A)
        → ((a : A) → Leads (IsTarget targets) v a → f a ≡ own a + sum_by f (targets a))
        → ((a : A) → Leads (IsTarget targets) v a → g a ≡ own a + sum_by g (targets a)) → f v < most → f v ≡ g v
    agree zero f g v sf sg l = absurd (omega (arith, l))
    agree (suc most) f g v sf sg l = agree_at most f g v (λ w tf tg m. agree most f g w tf tg m) sf sg l

    pub one_total : (v : A) (n m : ℕ) → HasTotal own targets v n → HasTotal own targets v m → n ≡ m
    one_total v n m h k = sym h.is ∙ agree (suc (h.total_of v)) h.total_of k.total_of v h.sums k.sums (omega arith) ∙ k.is

    pub no_total : (v : A) (n : ℕ) → HasTotal own targets v n → LeadsToCycle targets v → ⊥
    no_total v n h (c, (left, w), (b, r, (back, u))) =
        let at_cycle = total_leads left v c n h w in
        let f = at_cycle.1.total_of in
        let next = total_falls c b at_cycle.0 at_cycle.1 r in
        let again = total_leads back b c next.0 next.1 u in
        let some : 0 < own c = positive c b r in
        let less : own c + next.0 ≤ at_cycle.0 = next.2 in
        let most : again.0 ≤ next.0 = again.2 in
        let same : at_cycle.0 ≡ again.0 = one_total c at_cycle.0 again.0 at_cycle.1 again.1 in
        omega (arith, some, less, most, same)

-- ---- along a map of nodes that takes targets to targets, among the nodes P

module _ {A B : Type 0} (own_a : A → ℕ) (targets_a : A → List A) (own_b : B → ℕ) (targets_b : B → List B) (h : A → B) (P : A → Type 0)
    (stays : (a b : A) → P a → IsTarget targets_a a b → P b) (owns : (a : A) → P a → own_b (h a) ≡ own_a a)
    (images : (a : A) → P a → targets_b (h a) ≡ map h (targets_a a)) where
  sum_image : (f : B → ℕ) (xs : List A) → sum_by f (map h xs) ≡ sum_by (λ a. f (h a)) xs
  sum_image f [] = refl
  sum_image f (x ∷ xs) =
      let rest : sum_by f (map h xs) ≡ sum_by (λ a. f (h a)) xs = sum_image f xs in
      omega (arith, rest, sum_by-cons f (h x) (map h xs), sum_by-cons (λ a. f (h a)) x xs)

  step : (a b : A) → P a → IsTarget targets_a a b → P b × IsTarget targets_b (h a) (h b)
  step a b p c = (stays a b p c, subst (λ ts. Contains ts (h b)) (sym (images a p)) (Contains-map h (targets_a a) b c))

  -- a total of the image is one of the node
  pub total-of_image : (v : A) (n : ℕ) → P v → HasTotal own_b targets_b (h v) n → HasTotal own_a targets_a v n
  total-of_image v n p t = record { total_of = λ a. t.total_of (h a); sums = sums; is = t.is }
    where
      sums : (a : A) → Leads (IsTarget targets_a) v a → t.total_of (h a) ≡ own_a a + sum_by (λ b. t.total_of (h b)) (targets_a a)
      sums a l =
          let led = leads-map_among (IsTarget targets_a) (IsTarget targets_b) h P step v a p l in
          let e : t.total_of (h a) ≡ own_b (h a) + sum_by t.total_of (targets_b (h a)) = t.sums (h a) led.1 in
          let o : own_b (h a) ≡ own_a a = owns a led.0 in
          let s : sum_by t.total_of (targets_b (h a)) ≡ sum_by (λ b. t.total_of (h b)) (targets_a a) =
          ap (λ ts. sum_by t.total_of ts) (images a led.0) ∙ sum_image t.total_of (targets_a a) in
          omega (arith, e, o, s)

  -- a total of the node is one of the image, where the map can be undone
  pub total-to_image : (back : B → A) → ((a : A) → P a → back (h a) ≡ a) → (v : A) (n : ℕ) → P v → HasTotal own_a targets_a v n
      → HasTotal own_b targets_b (h v) n
  total-to_image back undoes v n p t =
      record { total_of = λ b. t.total_of (back b); sums = sums; is = ap (λ a. t.total_of a) (undoes v p) ∙ t.is }
    where
      steps : (a : A) (y : B) → P a → IsTarget targets_b (h a) y → (b : A) × P b × IsTarget targets_a a b × (h b ≡ y)
      steps a y q c =
          let r = Contains-map_back h (targets_a a) y (subst (λ ts. Contains ts y) (images a q) c) in
          (r.0, stays a r.0 q r.1, r.1, r.2)

      at_image : (a : A) → P a → Leads (IsTarget targets_a) v a → t.total_of (back (h a)) ≡ own_b (h a) + sum_by (λ b. t.total_of (back b)) (targets_b (h a))
      at_image a q l =
          let e : t.total_of a ≡ own_a a + sum_by t.total_of (targets_a a) = t.sums a l in
          let here : t.total_of (back (h a)) ≡ t.total_of a = ap (λ z. t.total_of z) (undoes a q) in
          let o : own_b (h a) ≡ own_a a = owns a q in
          let s : sum_by (λ b. t.total_of (back b)) (targets_b (h a)) ≡ sum_by t.total_of (targets_a a) =
          ap (λ ts. sum_by (λ b. t.total_of (back b)) ts) (images a q) ∙ sum_image (λ b. t.total_of (back b)) (targets_a a)
          ∙ sum_agree (λ b. t.total_of (back (h b))) t.total_of (targets_a a) (λ x c. ap (λ z. t.total_of z) (undoes x (stays a x q c))) in
          omega (arith, e, here, o, s)

      sums : (b : B) → Leads (IsTarget targets_b) (h v) b → t.total_of (back b) ≡ own_b b + sum_by (λ b. t.total_of (back b)) (targets_b b)
      sums b (left, w) =
          let r = walks-back (IsTarget targets_a) (IsTarget targets_b) h P steps left v b p w in
          subst (λ z. t.total_of (back z) ≡ own_b z + sum_by (λ b. t.total_of (back b)) (targets_b z)) r.4 (at_image r.1 r.2 (r.0, r.3))

-- ---- in the order of a graph

module _ (graph : List (List ℕ)) (own nodes : List ℕ) (cyclic : List Bool) (o : IsOrder graph nodes cyclic) where
  flag_clear : (v : ℕ) → v < length graph → (LeadsToCycle (targets_of graph) v → ⊥) → flag_of cyclic v ≡ false
  flag_clear v l clear = pick (flag_of cyclic v) refl
    where
      pick : (b : Bool) → flag_of cyclic v ≡ b → flag_of cyclic v ≡ false
      pick false e = e
      pick true e = absurd (clear (v, ([], refl), subst (λ b. IsAnswer graph b v) e (o.answers v l)))

  agree_before : (most : ℕ) (f g : ℕ → ℕ) (k : ℕ) → k < most → k < length nodes → (LeadsToCycle (targets_of graph) (slice_index nodes k) → ⊥)
      → ((a : ℕ) → Leads (HasEdge graph) (slice_index nodes k) a → f a ≡ slice_index own a + sum_by f (targets_of graph a))
      → ((a : ℕ) → Leads (HasEdge graph) (slice_index nodes k) a → g a ≡ slice_index own a + sum_by g (targets_of graph a))
      → f (slice_index nodes k) ≡ g (slice_index nodes k)
  agree_before zero f g k l m clear sf sg = absurd (omega (arith, l))
  agree_before (suc most) f g k l m clear sf sg =
      at_place k l m clear sf sg
      (λ i n r tf tg. agree_before most f g i (omega (arith, n, l)) (omega (arith, n, m)) r tf tg)
    where
      at_place : (k : ℕ) → k < suc most → k < length nodes → (LeadsToCycle (targets_of graph) (slice_index nodes k) → ⊥)
          → ((a : ℕ) → Leads (HasEdge graph) (slice_index nodes k) a → f a ≡ slice_index own a + sum_by f (targets_of graph a))
          → ((a : ℕ) → Leads (HasEdge graph) (slice_index nodes k) a → g a ≡ slice_index own a + sum_by g (targets_of graph a))
          → ((i : ℕ) → i < k → (LeadsToCycle (targets_of graph) (slice_index nodes i) → ⊥)
          → ((a : ℕ) → Leads (HasEdge graph) (slice_index nodes i) a → f a ≡ slice_index own a + sum_by f (targets_of graph a))
          → ((a : ℕ) → Leads (HasEdge graph) (slice_index nodes i) a → g a ≡ slice_index own a + sum_by g (targets_of graph a))
          → f (slice_index nodes i) ≡ g (slice_index nodes i))
          → f (slice_index nodes k) ≡ g (slice_index nodes k)
      at_place k l m clear sf sg earlier =
          sf (slice_index nodes k) (leads-refl (HasEdge graph) (slice_index nodes k))
          ∙ ap (λ s. slice_index own (slice_index nodes k) + s) (sum_agree f g (targets_of graph (slice_index nodes k)) below)
          ∙ sym (sg (slice_index nodes k) (leads-refl (HasEdge graph) (slice_index nodes k)))
        where
          below : (w : ℕ) → Contains (targets_of graph (slice_index nodes k)) w → f w ≡ g w
          below w c = found (o.forward k w m (flag_clear (slice_index nodes k) (o.within k 0 m) clear) c)
            where
              found : Contains (take k nodes) w → f w ≡ g w
              found (i, n, e) =
                  let low : i < k = omega (arith, n, length-take-le k nodes (omega (arith, m))) in
                  let here : slice_index nodes i ≡ w =
                  get_or_default nodes i 0 w (omega (arith, low, m)) ∙ sym (get_or-take k nodes i w low) ∙ e in
                  let edge : HasEdge graph (slice_index nodes k) (slice_index nodes i) = subst (λ z. HasEdge graph (slice_index nodes k) z) (sym here) c in
                  ap f (sym here) ∙ earlier i low
                  (λ (q, r, s). clear (q, leads-step (HasEdge graph) (slice_index nodes k) (slice_index nodes i) q edge r, s))
                  (λ a r. sf a (leads-step (HasEdge graph) (slice_index nodes k) (slice_index nodes i) a edge r))
                  (λ a r. sg a (leads-step (HasEdge graph) (slice_index nodes k) (slice_index nodes i) a edge r)) ∙ ap g here

  -- there is at most one total where a node leads to no cycle, whatever the nodes have of their own
  pub one_total_in_order : (v n m : ℕ) → v < length graph → (LeadsToCycle (targets_of graph) v → ⊥) → IsTotal graph own v n → IsTotal graph own v m → n ≡ m
  one_total_in_order v n m l clear s t = at (o.each v l)
    where
      at : Contains nodes v → n ≡ m
      at (k, i, e) =
          let here : slice_index nodes k ≡ v = get_or_default nodes k 0 v i ∙ e in
          let same : s.total_of (slice_index nodes k) ≡ t.total_of (slice_index nodes k) =
          agree_before (suc k) s.total_of t.total_of k (omega arith) i (subst (λ z. LeadsToCycle (targets_of graph) z → ⊥) (sym here) clear)
          (subst (λ z. (a : ℕ) → Leads (HasEdge graph) z a → s.total_of a ≡ slice_index own a + sum_by s.total_of (targets_of graph a)) (sym here) s.sums)
          (subst (λ z. (a : ℕ) → Leads (HasEdge graph) z a → t.total_of a ≡ slice_index own a + sum_by t.total_of (targets_of graph a)) (sym here) t.sums) in
          sym s.is ∙ ap s.total_of (sym here) ∙ same ∙ ap t.total_of here ∙ t.is
