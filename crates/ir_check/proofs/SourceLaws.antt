-- Rows of sources, one edge and one node more.
use Rattle.std.proofs.Common.{◌≡◌, ◌⊎◌, inl, inr, ℕ, zero, suc, ◌+◌, ◌<◌, ◌≤◌, Bool, true, false, cond, List, [], ◌∷◌, ◌++◌, length, drop, take, nat_eq, refl, sym, ap, subst, ◌∙◌, arith}
use Rattle.std.specs.Prelude.{slice_set, slice_index_or, replicate}
use Rattle.std.specs.List.{Contains}
use Rattle.std.proofs.lemmas.Bool.{eqb-true, eqb-false, cases_Bool}
use Rattle.std.proofs.lemmas.List.{get_or-set_same, get_or-set_other}
use Rattle.std.proofs.lemmas.List.Elements.{Contains-get_or}
use Rattle.hk_graph.specs.Walks.{AreWithin}
use Rattle.ir_check.specs.Tallies.{times_at, row_at}
use Rattle.ir_check.proofs.TallyLaws.{count_one, count-cons, eq_self}

-- behind one edge more
pub row_more : (old new : List (List ℕ)) (node source t q : ℕ) → node < length old → new ≡ slice_set old node (row_at old node ++ source ∷ [])
    → times_at (row_at new t) q ≡ times_at (row_at old t) q + cond (nat_eq q source) (cond (nat_eq t node) 1 0) 0
row_more old new node source t q l is = ap (λ rows. times_at (row_at rows t) q) is ∙ by (cases_Bool (nat_eq t node))
  where
    none : (b : Bool) → cond {A = ℕ} b 0 0 ≡ 0
    none true = refl
    none false = refl

    last : (b : Bool) (n : ℕ) → cond b (n + 1) n ≡ n + cond b 1 0
    last true n = refl
    last false n = omega arith

    by : (nat_eq t node ≡ true) ⊎ (nat_eq t node ≡ false)
        → times_at (row_at (slice_set old node (row_at old node ++ source ∷ [])) t) q ≡ times_at (row_at old t) q + cond (nat_eq q source) (cond (nat_eq t node) 1 0) 0
    by (inl e) =
        let same = eqb-true t node e in
        ap (λ k. times_at (row_at (slice_set old node (row_at old node ++ source ∷ [])) k) q) same
        ∙ ap (λ row. times_at row q) (get_or-set_same old node (row_at old node ++ source ∷ []) [] l)
        ∙ count_one (nat_eq q) (row_at old node) source
        ∙ last (nat_eq q source) (times_at (row_at old node) q)
        ∙ ap (λ k. times_at (row_at old k) q + cond (nat_eq q source) 1 0) (sym same)
        ∙ ap (λ b. times_at (row_at old t) q + cond (nat_eq q source) (cond b 1 0) 0) (sym e)
    by (inr e) =
        ap (λ row. times_at row q) (get_or-set_other old node t (row_at old node ++ source ∷ []) [] (eqb-false t node e))
        ∙ (let z = none (nat_eq q source) in omega (arith, z))
        ∙ ap (λ b. times_at (row_at old t) q + cond (nat_eq q source) (cond b 1 0) 0) (sym e)

-- what is left of the edges
one_more : (k : ℕ) → k + 1 ≡ suc k
one_more k = omega arith

edges_left : (targets : List ℕ) (k node t : ℕ) → k < length targets → node ≡ slice_index_or targets k node
    → times_at (drop k targets) t ≡ cond (nat_eq t node) 1 0 + times_at (drop (suc k) targets) t
edges_left [] k node t l is = absurd (omega (arith, l))
edges_left (x ∷ xs) zero node t l is = count-cons (nat_eq t) x xs ∙ ap (λ y. cond (nat_eq t y) (1 + times_at xs t) (times_at xs t)) (sym is) ∙ by (nat_eq t node)
  where
    by : (b : Bool) → cond b (1 + times_at xs t) (times_at xs t) ≡ cond b 1 0 + times_at xs t
    by true = refl
    by false = omega arith
edges_left (x ∷ xs) (suc k) node t l is = edges_left xs k node t (omega (arith, l)) is

pub added_edge : (old now new start : List (List ℕ)) (targets : List ℕ) (k node source : ℕ) → old ≡ now → k < length targets → node ≡ slice_index_or targets k node → node < length now
    → new ≡ slice_set now node (row_at now node ++ source ∷ [])
    → ((t q : ℕ) → times_at (row_at now t) q + cond (nat_eq q source) (times_at (drop k targets) t) 0 ≡ times_at (row_at start t) q + cond (nat_eq q source) (times_at targets t) 0)
    → (t q : ℕ) → times_at (row_at new t) q + cond (nat_eq q source) (times_at (drop (k + 1) targets) t) 0 ≡ times_at (row_at start t) q + cond (nat_eq q source) (times_at targets t) 0
added_edge old now new start targets k node source same l is below e so t q =
    ap (λ n. n + cond (nat_eq q source) (times_at (drop (k + 1) targets) t) 0) (row_more now new node source t q below e)
    ∙ join (nat_eq q source) (times_at (row_at now t) q) (cond (nat_eq t node) 1 0) (times_at (drop (k + 1) targets) t)
    ∙ ap (λ n. times_at (row_at now t) q + cond (nat_eq q source) n 0) (sym (edges_left targets k node t l is ∙ ap (λ j. cond (nat_eq t node) 1 0 + times_at (drop j targets) t) (sym (one_more k))))
    ∙ so t q
  where
    join : (b : Bool) (a c d : ℕ) → (a + cond b c 0) + cond b d 0 ≡ a + cond b (c + d) 0
    join true a c d = omega arith
    join false a c d = omega arith

-- no edge is left
pub all_added : (now start : List (List ℕ)) (targets : List ℕ) (k source : ℕ) → length targets ≤ k
    → ((t q : ℕ) → times_at (row_at now t) q + cond (nat_eq q source) (times_at (drop k targets) t) 0 ≡ times_at (row_at start t) q + cond (nat_eq q source) (times_at targets t) 0)
    → (t q : ℕ) → times_at (row_at now t) q ≡ times_at (row_at start t) q + cond (nat_eq q source) (times_at targets t) 0
all_added now start targets k source l so t q = zero_more (nat_eq q source) (times_at (row_at now t) q) ∙ ap (λ n. times_at (row_at now t) q + cond (nat_eq q source) n 0) (sym (past targets k l)) ∙ so t q
  where
    zero_more : (b : Bool) (a : ℕ) → a ≡ a + cond b 0 0
    zero_more true a = omega arith
    zero_more false a = omega arith

    past : (ts : List ℕ) (j : ℕ) → length ts ≤ j → times_at (drop j ts) t ≡ 0
    past [] zero l = refl
    past [] (suc j) l = refl
    past (x ∷ ts) zero l = absurd (omega (arith, l))
    past (x ∷ ts) (suc j) l = past ts j (omega (arith, l))

-- ---- nodes

pub no_source : (n t q : ℕ) → times_at (row_at (replicate n []) t) q ≡ 0
no_source n t q = ap (λ row. times_at row q) (empty n t)
  where
    empty : (n t : ℕ) → row_at (replicate n []) t ≡ []
    empty zero t = refl
    empty (suc n) zero = refl
    empty (suc n) (suc t) = empty n t

-- the targets of the first nodes
abbrev pub first_targets : List (List ℕ) → ℕ → ℕ → List ℕ
first_targets graph n q = slice_index_or (take n graph) q []

none_first : (graph : List (List ℕ)) (q : ℕ) → first_targets graph 0 q ≡ []
none_first graph q = refl

pub at_first : (graph : List (List ℕ)) (t q : ℕ) → 0 ≡ times_at (first_targets graph 0 q) t
at_first graph t q = refl

node_more : (graph : List (List ℕ)) (n q t : ℕ) → n < length graph
    → times_at (first_targets graph (suc n) q) t ≡ times_at (first_targets graph n q) t + cond (nat_eq q n) (times_at (slice_index_or graph n []) t) 0
node_more [] n q t l = absurd (omega (arith, l))
node_more (row ∷ graph) zero zero t l = same (nat_eq 0 0) (eq_self 0)
  where
    same : (b : Bool) → b ≡ true → times_at row t ≡ 0 + cond b (times_at row t) 0
    same true e = omega arith
    same false e = cc
node_more (row ∷ graph) zero (suc q) t l = other (nat_eq (suc q) 0) (differ q)
  where
    differ : (q : ℕ) → nat_eq (suc q) 0 ≡ false
    differ q = grind arith

    other : (b : Bool) → b ≡ false → 0 ≡ 0 + cond b (times_at row t) 0
    other true e = cc
    other false e = refl
node_more (row ∷ graph) (suc n) zero t l = other (nat_eq 0 (suc n)) (differ n)
  where
    differ : (q : ℕ) → nat_eq 0 (suc q) ≡ false
    differ q = grind arith

    other : (b : Bool) → b ≡ false → times_at row t ≡ times_at row t + cond b (times_at (slice_index_or graph n []) t) 0
    other true e = cc
    other false e = omega arith
node_more (row ∷ graph) (suc n) (suc q) t l =
    node_more graph n q t (omega (arith, l)) ∙ ap (λ b. times_at (first_targets graph n q) t + cond b (times_at (slice_index_or graph n []) t) 0) (shift q n)
  where
    shift : (q n : ℕ) → nat_eq q n ≡ nat_eq (suc q) (suc n)
    shift q n = grind arith

pub rows_more : (graph now new : List (List ℕ)) (n : ℕ) → n < length graph
    → ((t q : ℕ) → times_at (row_at now t) q ≡ times_at (first_targets graph n q) t)
    → ((t q : ℕ) → times_at (row_at new t) q ≡ times_at (row_at now t) q + cond (nat_eq q n) (times_at (slice_index_or graph n []) t) 0)
    → (t q : ℕ) → times_at (row_at new t) q ≡ times_at (first_targets graph (n + 1) q) t
rows_more graph now new n l so step t q = step t q ∙ ap (λ k. k + cond (nat_eq q n) (times_at (slice_index_or graph n []) t) 0) (so t q) ∙ sym (node_more graph n q t l) ∙ ap (λ j. times_at (first_targets graph j q) t) (sym (one_more n))

pub all_first : (graph : List (List ℕ)) (n q : ℕ) → length graph ≤ n → first_targets graph n q ≡ slice_index_or graph q []
all_first [] zero q l = refl
all_first [] (suc n) q l = refl
all_first (row ∷ graph) zero q l = absurd (omega (arith, l))
all_first (row ∷ graph) (suc n) zero l = refl
all_first (row ∷ graph) (suc n) (suc q) l = all_first graph n q (omega (arith, l))

pub targets_within : (graph : List (List ℕ)) (n : ℕ) (targets : List ℕ) → AreWithin graph → targets ≡ slice_index_or graph n []
    → (k d : ℕ) → k < length targets → slice_index_or targets k d < length graph
targets_within graph n targets within is k d l = within n (slice_index_or targets k d) (subst (λ ts. Contains ts (slice_index_or targets k d)) is (Contains-get_or targets k d l))
