-- The steps of a search for what is reached.
use Rattle.std.proofs.Common.{◌≡◌, ◌<◌, ◌+◌, ◌⊎◌, inl, inr, ℕ, Bool, true, false, if◌then◌else◌, List, [], ◌∷◌, ◌++◌, length, refl, sym, ◌∙◌, ap, subst, arith}
use Rattle.std.specs.Prelude.{slice_set, slice_index_or, replicate, Some}
use Rattle.std.specs.List.{All, Contains, sum_by}
use Rattle.std.proofs.lemmas.List.{length-set, length_push, length-replicate}
use Rattle.std.proofs.lemmas.List.Elements.{All-head, All-tail, All-push, All-weaker, All-pop, Contains-get_or, Contains-push, Contains-push_cases, Contains-append_left, All-contains_itself}
use Rattle.std.proofs.lemmas.List.Sums.{sum_by-set}
use Rattle.ir_layout.proofs.Anyhow.{here, behind, split}
use Rattle.hk_graph.specs.Sorted.{flag_of}
use Rattle.hk_graph.specs.Walks.{HasEdge, targets_of, AreWithin}
use Rattle.spec_strays.specs.Reached.{Comes, ComesBy, AreReached}
use Rattle.spec_strays.specs.Search.{State, with_waiting, met, all_met, IsFrom, IsSearch, cost, left_of}
use Rattle.spec_strays.proofs.Flags.{flag_here, flag_kept, flag_cases, none_set}

-- ---- the start

pub begun : (graph : List (List ℕ)) (starts : List ℕ) → All (λ v. v < length graph) starts → IsSearch graph starts (with_waiting (replicate (length graph) false) starts)
begun graph starts within =
    record {
      sizes = length-replicate (length graph) false;
      within = within;
      from = All-weaker (λ v. Contains starts v) (IsFrom starts (with_waiting (replicate (length graph) false) starts)) (λ v c. inl c) starts (All-contains_itself starts);
      told = λ v e. absurd (none_set (length graph) v e);
      followed = λ v w h e. pick v w h;
    }
  where
    pick : (v w : ℕ) → IsFrom starts (with_waiting (replicate (length graph) false) starts) v → Contains starts v ⊎ (flag_of (replicate (length graph) false) w ≡ true)
    pick v w (inl c) = inl c
    pick v w (inr e) = absurd (none_set (length graph) v e)

-- ---- one node more

-- while the edges of the node v are followed, of which these are left
record IsBetween (graph : List (List ℕ)) (starts : List ℕ) (v : ℕ) (left : List ℕ) (s : State) : Type 0 where
  pub sizes : length s.marks ≡ length graph
  pub within : All (λ u. u < length graph) s.waiting
  pub from : All (IsFrom starts s) s.waiting
  pub told : (u : ℕ) → flag_of s.marks u ≡ true → Comes graph starts u
  pub followed : (u w : ℕ) → IsFrom starts s u → HasEdge graph u w → Contains s.waiting u ⊎ ((flag_of s.marks w ≡ true) ⊎ ((u ≡ v) × Contains left w))

module _ (graph : List (List ℕ)) (starts : List ℕ) (v w : ℕ) (left : List ℕ) (s : State) (h : IsBetween graph starts v (w ∷ left) s)
    (inside : w < length graph) (comes : Comes graph starts w) where
  there : w < length s.marks
  there = omega (arith, inside, h.sizes)

  -- it was met before
  again : flag_of s.marks w ≡ true → IsBetween graph starts v left s
  again e =
      record {
        sizes = h.sizes;
        within = h.within;
        from = h.from;
        told = h.told;
        followed = λ u x f g. pick u x (h.followed u x f g);
      }
    where
      pick : (u x : ℕ) → Contains s.waiting u ⊎ ((flag_of s.marks x ≡ true) ⊎ ((u ≡ v) × Contains (w ∷ left) x)) → Contains s.waiting u ⊎ ((flag_of s.marks x ≡ true) ⊎ ((u ≡ v) × Contains left x))
      pick u x (inl c) = inl c
      pick u x (inr (inl m)) = inr (inl m)
      pick u x (inr (inr (same, c))) = which (split w x left c)
        where
          which : (w ≡ x) ⊎ Contains left x → Contains s.waiting u ⊎ ((flag_of s.marks x ≡ true) ⊎ ((u ≡ v) × Contains left x))
          which (inl at) = inr (inl (subst (λ y. flag_of s.marks y ≡ true) at e))
          which (inr d) = inr (inr (same, d))

  first : State
  first = with_waiting (slice_set s.marks w true) (s.waiting ++ w ∷ [])

  from_kept : (u : ℕ) → IsFrom starts s u → IsFrom starts (with_waiting (slice_set s.marks w true) (s.waiting ++ w ∷ [])) u
  from_kept u (inl c) = inl c
  from_kept u (inr e) = inr (flag_kept s.marks w u there e)

  -- it is met for the first time
  anew : IsBetween graph starts v left (with_waiting (slice_set s.marks w true) (s.waiting ++ w ∷ []))
  anew =
      record {
        sizes = length-set s.marks w true ∙ h.sizes;
        within = All-push (λ u. u < length graph) s.waiting w h.within inside;
        from =
            All-push (IsFrom starts (with_waiting (slice_set s.marks w true) (s.waiting ++ w ∷ []))) s.waiting w
            (All-weaker (IsFrom starts s) (IsFrom starts (with_waiting (slice_set s.marks w true) (s.waiting ++ w ∷ []))) from_kept s.waiting h.from)
            (inr (flag_here s.marks w there));
        told = λ u e. reached u (flag_cases s.marks w u e);
        followed = λ u x f g. onward u x f g;
      }
    where
      reached : (u : ℕ) → (u ≡ w) ⊎ (flag_of s.marks u ≡ true) → Comes graph starts u
      reached u (inl same) = subst (Comes graph starts) (sym same) comes
      reached u (inr e) = h.told u e

      old : (u x : ℕ) → Contains s.waiting u ⊎ ((flag_of s.marks x ≡ true) ⊎ ((u ≡ v) × Contains (w ∷ left) x))
          → Contains (s.waiting ++ w ∷ []) u ⊎ ((flag_of (slice_set s.marks w true) x ≡ true) ⊎ ((u ≡ v) × Contains left x))
      old u x (inl c) = inl (Contains-append_left s.waiting (w ∷ []) u c)
      old u x (inr (inl m)) = inr (inl (flag_kept s.marks w x there m))
      old u x (inr (inr (same, c))) = which (split w x left c)
        where
          which : (w ≡ x) ⊎ Contains left x → Contains (s.waiting ++ w ∷ []) u ⊎ ((flag_of (slice_set s.marks w true) x ≡ true) ⊎ ((u ≡ v) × Contains left x))
          which (inl at) = inr (inl (subst (λ y. flag_of (slice_set s.marks w true) y ≡ true) at (flag_here s.marks w there)))
          which (inr d) = inr (inr (same, d))

      onward : (u x : ℕ) → IsFrom starts (with_waiting (slice_set s.marks w true) (s.waiting ++ w ∷ [])) u → HasEdge graph u x
          → Contains (s.waiting ++ w ∷ []) u ⊎ ((flag_of (slice_set s.marks w true) x ≡ true) ⊎ ((u ≡ v) × Contains left x))
      onward u x (inl c) g = old u x (h.followed u x (inl c) g)
      onward u x (inr e) g = which (flag_cases s.marks w u e)
        where
          which : (u ≡ w) ⊎ (flag_of s.marks u ≡ true) → Contains (s.waiting ++ w ∷ []) u ⊎ ((flag_of (slice_set s.marks w true) x ≡ true) ⊎ ((u ≡ v) × Contains left x))
          which (inl same) = inl (subst (Contains (s.waiting ++ w ∷ [])) (sym same) (Contains-push s.waiting w))
          which (inr f) = old u x (h.followed u x (inr f) g)

  between_met : IsBetween graph starts v left (met s w)
  between_met = by (flag_of s.marks w) refl
    where
      by : (b : Bool) → flag_of s.marks w ≡ b → IsBetween graph starts v left (if b then s else with_waiting (slice_set s.marks w true) (s.waiting ++ w ∷ []))
      by true e = again e
      by false e = anew

-- ---- how much is left

met_count : (s : State) (w : ℕ) → length (met s w).marks ≡ length s.marks
met_count s w = by (flag_of s.marks w)
  where
    by : (b : Bool) → length (if b then s else with_waiting (slice_set s.marks w true) (s.waiting ++ w ∷ [])).marks ≡ length s.marks
    by true = refl
    by false = length-set s.marks w true

met_left : (s : State) (w : ℕ) → w < length s.marks → left_of (met s w) ≡ left_of s
met_left s w l = by (flag_of s.marks w) refl
  where
    by : (b : Bool) → flag_of s.marks w ≡ b → left_of (if b then s else with_waiting (slice_set s.marks w true) (s.waiting ++ w ∷ [])) ≡ left_of s
    by true e = refl
    by false e =
        let cheaper : sum_by cost (slice_set s.marks w true) + cost (flag_of s.marks w) ≡ sum_by cost s.marks + 0 = sum_by-set cost s.marks w true false l in
        let unmarked : cost (flag_of s.marks w) ≡ 1 = ap cost e in
        omega (arith, cheaper, unmarked, length_push s.waiting w)

all_left : (ws : List ℕ) (s : State) → All (λ w. w < length s.marks) ws → left_of (all_met s ws) ≡ left_of s
all_left [] s h = refl
all_left (w ∷ ws) s h =
    let inside : w < length s.marks = All-head (λ x. x < length s.marks) w ws h in
    let count : length (met s w).marks ≡ length s.marks = met_count s w in
    all_left ws (met s w) (subst (λ n. All (λ x. x < n) ws) (sym count) (All-tail (λ x. x < length s.marks) w ws h)) ∙ met_left s w inside

nothing : (x : ℕ) → Contains [] x → ⊥
nothing x (k, l, e) = omega (arith, l)

of_all : (P : ℕ → Type 0) (xs : List ℕ) (x : ℕ) → All P xs → Contains xs x → P x
of_all P xs x all (k, l, e) = subst P e (all k x l)

-- ---- all edges of a node

between_all : (graph : List (List ℕ)) (starts : List ℕ) (v : ℕ) (left : List ℕ) (s : State) → IsBetween graph starts v left s
    → ((w : ℕ) → Contains left w → (w < length graph) × Comes graph starts w) → IsBetween graph starts v [] (all_met s left)
between_all graph starts v [] s h new = h
between_all graph starts v (w ∷ left) s h new =
    let n = new w (here w left) in
    between_all graph starts v left (met s w) (between_met graph starts v w left s h n.0 n.1) (λ x c. new x (behind w x left c))

none_left : (graph : List (List ℕ)) (starts : List ℕ) (v : ℕ) (s : State) → IsBetween graph starts v [] s → IsSearch graph starts s
none_left graph starts v s h =
    record { sizes = h.sizes; within = h.within; from = h.from; told = h.told; followed = λ u w f g. pick u w (h.followed u w f g) }
  where
    pick : (u w : ℕ) → Contains s.waiting u ⊎ ((flag_of s.marks w ≡ true) ⊎ ((u ≡ v) × Contains [] w)) → Contains s.waiting u ⊎ (flag_of s.marks w ≡ true)
    pick u w (inl c) = inl c
    pick u w (inr (inl m)) = inr m
    pick u w (inr (inr (same, (k, l, e)))) = absurd (omega (arith, l))

module _ (graph : List (List ℕ)) (starts : List ℕ) (s : State) (rest : List ℕ) (v : ℕ) (h : IsSearch graph starts s) (popped : s.waiting ≡ rest ++ v ∷ []) where
  last_in : Contains s.waiting v
  last_in = subst (λ ws. Contains ws v) (sym popped) (Contains-push rest v)

  from_popped : IsFrom starts s v
  from_popped = of_all (IsFrom starts s) s.waiting v h.from last_in

  pub inside_popped : v < length graph
  inside_popped = of_all (λ u. u < length graph) s.waiting v h.within last_in

  comes_by : IsFrom starts s v → (w : ℕ) → HasEdge graph v w → Comes graph starts w
  comes_by (inl c) w g = ([], (v, c, g))
  comes_by (inr e) w g = let c = h.told v e in (v ∷ c.0, (g, c.1))

  rest_all : (P : ℕ → Type 0) → All P s.waiting → All P rest
  rest_all P all = (All-pop P s.waiting rest (Some v) popped all).0

  between_none : IsBetween graph starts v (targets_of graph v) (with_waiting s.marks rest)
  between_none =
      record {
        sizes = h.sizes;
        within = rest_all (λ u. u < length graph) h.within;
        from = rest_all (IsFrom starts s) h.from;
        told = h.told;
        followed = λ u w f g. pick u w g (h.followed u w f g);
      }
    where
      pick : (u w : ℕ) → HasEdge graph u w → Contains s.waiting u ⊎ (flag_of s.marks w ≡ true)
          → Contains rest u ⊎ ((flag_of s.marks w ≡ true) ⊎ ((u ≡ v) × Contains (targets_of graph v) w))
      pick u w g (inr m) = inr (inl m)
      pick u w g (inl c) = which (Contains-push_cases rest v u (subst (λ ws. Contains ws u) popped c))
        where
          which : Contains rest u ⊎ (v ≡ u) → Contains rest u ⊎ ((flag_of s.marks w ≡ true) ⊎ ((u ≡ v) × Contains (targets_of graph v) w))
          which (inl d) = inl d
          which (inr same) = inr (inr (sym same, subst (λ x. Contains (targets_of graph x) w) (sym same) g))

  module _ (within : AreWithin graph) where
    pub targets_inside : All (λ w. w < length s.marks) (targets_of graph v)
    targets_inside = λ k d l. let c = within v (slice_index_or (targets_of graph v) k d) (Contains-get_or (targets_of graph v) k d l) in omega (arith, c, h.sizes)

    pub stepped : IsSearch graph starts (all_met (with_waiting s.marks rest) (targets_of graph v))
    stepped =
        none_left graph starts v (all_met (with_waiting s.marks rest) (targets_of graph v))
        (between_all graph starts v (targets_of graph v) (with_waiting s.marks rest) between_none (λ w c. (within v w c, comes_by from_popped w c)))

    pub closer : left_of (all_met (with_waiting s.marks rest) (targets_of graph v)) < left_of s
    closer =
        let same : left_of (all_met (with_waiting s.marks rest) (targets_of graph v)) ≡ left_of (with_waiting s.marks rest)
        = all_left (targets_of graph v) (with_waiting s.marks rest) targets_inside in
        let less : length s.waiting ≡ length rest + 1 = ap length popped ∙ length_push rest v in
        omega (arith, same, less)

-- ---- the end

onward : (s : State) (u w : ℕ) → s.waiting ≡ [] → Contains s.waiting u ⊎ (flag_of s.marks w ≡ true) → flag_of s.marks w ≡ true
onward s u w none (inl d) = absurd (nothing u (subst (λ ws. Contains ws u) none d))
onward s u w none (inr m) = m

reached_by : (graph : List (List ℕ)) (starts : List ℕ) (s : State) → IsSearch graph starts s → s.waiting ≡ [] → (v : ℕ) (between : List ℕ) → ComesBy graph starts v between → flag_of s.marks v ≡ true
reached_by graph starts s h none v [] (u, d, g) = onward s u v none (h.followed u v (inl d) g)
reached_by graph starts s h none v (w ∷ others) (g, d) = onward s w v none (h.followed w v (inr (reached_by graph starts s h none w others d)) g)

pub ended : (graph : List (List ℕ)) (starts : List ℕ) (s : State) → IsSearch graph starts s → s.waiting ≡ [] → AreReached graph starts s.marks
ended graph starts s h none = record { told = h.told; all = λ v c. reached_by graph starts s h none v c.0 c.1 }
