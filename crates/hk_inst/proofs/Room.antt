-- A question has no more instances than its goal has room for.
use Rattle.std.proofs.Common.{◌≡◌, ◌≢◌, ◌⊎◌, inl, inr, ℕ, zero, suc, ◌+◌, ◌*◌, ◌≤◌, List, [], ◌∷◌, ◌++◌, length, map, reverse, Some, refl, sym, ◌∙◌, ap, subst, arith}
use Rattle.std.specs.List.{AllPairs, Contains, slice_get, flat_map}
use Rattle.std.proofs.lemmas.Option.{slice_get_within}
use Rattle.std.proofs.lemmas.List.{length-append, length-map}
use Rattle.std.proofs.lemmas.List.Elements.{Contains-append_left, Contains-append_right}
use Rattle.std.proofs.Math.Nat.{mul-le-mul_left}
use Rattle.hk_term.specs.Shape.{AllFitIn}
use Rattle.hk_term.specs.declared.node.Node.{Node}
use Rattle.hk_copy.specs.Cost.{tuples, cost}
use Rattle.hk_blast.specs.Blasted.{HasWord, AreBlasted}
use Rattle.hk_inst.specs.declared.instance.Instance.{Instance}
use Rattle.hk_inst.specs.declared.instance.Instance.TheVariants.{Pair, Tuple}
use Rattle.hk_inst.specs.declared.opening.Opening.{Opening}
use Rattle.hk_inst.specs.Inputs.{is_select, is_quantifier}
use Rattle.hk_inst.specs.Truths.{IsTuple, IsInstance}
use Rattle.hk_inst.specs.Demanded.{IsOpening, IsDemand}
use Rattle.hk_inst.specs.Questions.{Asked, AreDemands}
use Rattle.hk_inst.specs.Growing.{AreStepped}
use Rattle.hk_inst.proofs.Members.{contains-cases, contains-head, contains-tail, numbered-are, numbered-kind, select-node, quantifier-node, bound_of}
use Rattle.hk_inst.specs.Origins.{Arises}
use Rattle.hk_inst.specs.Left.{AreOnce, room}
use Rattle.hk_inst.proofs.Counting.{weigh, weigh-le, length-le, contains-map, below, length-below, below-has, each_with, length-each_with, each_with-has, all_tuples, length-all_tuples, all_tuples-has, AreApart}
use Rattle.hk_inst.proofs.Expansions.{weight_of, weight, Under, AreCopies, Held, held}
use Rattle.hk_inst.proofs.Expansions.Under.{itself}
use Rattle.hk_inst.proofs.Origination.{copies_of, arising}
use Rattle.hk_inst.proofs.SameOnes.{once-apart}
use Rattle.hk_inst.proofs.FewCopies.{copies-are}
use Rattle.hk_inst.proofs.ApartNumbers.{apart-place, numbers-apart}

-- what this rests on
pub record IsRooted (q : Asked) : Type 0 where
  pub fit : AllFitIn (reverse q.nodes)
  pub blasted : AreBlasted q.nodes q.circuit q.table.words
  pub openings : (o : Opening) → Contains q.table.openings o → IsOpening q.nodes o
  pub once : AllPairs (λ o p. o.term ≢ p.term) q.table.openings
  pub demands : AreDemands q.nodes q.table q.instances q.demands
  pub stepped : AreStepped q
  pub arises : (t : ℕ) → HasWord q.table.words t → Arises q.nodes q.goal q.table.openings q.demands t
  pub each_once : AreOnce q.instances

-- the tuples of quantifiers with numbers from one on
abbrev tuples_from : List Node → ℕ → List ℕ → List Instance
tuples_from nodes k [] = []
tuples_from nodes k (t ∷ ts) = map (Tuple k) (all_tuples (bound_of (slice_get nodes t))) ++ tuples_from nodes (suc k) ts

tuples-there : (nodes : List Node) (n j t : ℕ) (ts ks : List ℕ) → slice_get ts j ≡ Some t → IsTuple (bound_of (slice_get nodes t)) ks → Contains (tuples_from nodes n ts) (Tuple (n + j) ks)
tuples-there nodes n j t [] ks e h = let l = slice_get_within [] j t e in absurd (omega (arith, l))
tuples-there nodes n zero t (u ∷ ts) ks e h =
    Contains-append_left (map (Tuple n) (all_tuples (bound_of (slice_get nodes u)))) (tuples_from nodes (suc n) ts) (Tuple (n + 0) ks)
    (subst (λ m. Contains (map (Tuple n) (all_tuples (bound_of (slice_get nodes u)))) (Tuple m ks)) {x = n} {y = n + 0} (omega arith)
    (contains-map (Tuple n) (all_tuples (bound_of (slice_get nodes u))) ks (all_tuples-has (bound_of (slice_get nodes u)) ks (subst (λ x. IsTuple (bound_of (slice_get nodes x)) ks) (sym (same u t e)) h))))
  where
    same : (a b : ℕ) → slice_get (a ∷ ts) 0 ≡ Some b → a ≡ b
    same a b f = cc
tuples-there nodes n (suc j) t (u ∷ ts) ks e h =
    Contains-append_right (map (Tuple n) (all_tuples (bound_of (slice_get nodes u)))) (tuples_from nodes (suc n) ts) (Tuple (n + suc j) ks)
    (subst (λ m. Contains (tuples_from nodes (suc n) ts) (Tuple m ks)) {x = suc n + j} {y = n + suc j} (omega arith) (tuples-there nodes (suc n) j t ts ks e h))

demand-there : (q : Asked) (is : List Instance) (ds : List ℕ) → AreDemands q.nodes q.table is ds → (i : Instance) → Contains is i → (d : ℕ) × (IsDemand q.nodes q.table i d)
demand-there q [] ds h i (k, l, e) = absurd (omega (arith, l))
demand-there q (j ∷ is) [] h i c = absurd h
demand-there q (j ∷ is) (d ∷ ds) h i c = by (contains-cases j is i c) (demand-there q is ds h.1 i)
  where
    by : (j ≡ i) ⊎ (Contains is i) → (Contains is i → (e : ℕ) × (IsDemand q.nodes q.table i e)) → (e : ℕ) × (IsDemand q.nodes q.table i e)
    by (inl e) go = (d, subst (λ x. IsDemand q.nodes q.table x d) e h.0)
    by (inr m) go = go m

module _ (q : Asked) (h : IsRooted q) where
  abbrev copies : ℕ → List ℕ
  copies = copies_of q.nodes q.table.openings q.demands

  whole : AreBlasted q.nodes q.circuit (flat_map (λ s. s) h.stepped.steps)
  whole = subst (AreBlasted q.nodes q.circuit) h.stepped.steps_are h.blasted

  reads-apart : AreApart q.table.reads
  reads-apart = numbers-apart q.nodes q.circuit is_select [] whole h.stepped.reads

  quantifiers-apart : AreApart q.table.quantifiers
  quantifiers-apart = numbers-apart q.nodes q.circuit is_quantifier [] whole h.stepped.quantifiers

  read-known : (t : ℕ) → Contains q.table.reads t → HasWord q.table.words t
  read-known t c = subst (λ ws. HasWord ws t) (sym h.stepped.steps_are) (numbered-are q.nodes is_select h.stepped.reads t c)

  quantifier-known : (t : ℕ) → Contains q.table.quantifiers t → HasWord q.table.words t
  quantifier-known t c = subst (λ ws. HasWord ws t) (sym h.stepped.steps_are) (numbered-are q.nodes is_quantifier h.stepped.quantifiers t c)

  read-weight : (t : ℕ) → Contains q.table.reads t → weight q.nodes copies t ≡ 1
  read-weight t c = let n = select-node (slice_get q.nodes t) (numbered-kind q.nodes is_select h.stepped.reads t c) in ap weight_of n.3

  quantifier-weight : (t : ℕ) → Contains q.table.quantifiers t → weight q.nodes copies t ≡ 1 + tuples (bound_of (slice_get q.nodes t))
  quantifier-weight t c =
      let n = quantifier-node (slice_get q.nodes t) (numbered-kind q.nodes is_quantifier h.stepped.quantifiers t c) in
      ap weight_of n.2 ∙ ap (λ b. 1 + tuples b) (sym (ap bound_of n.2))

  few : AreCopies q.nodes copies
  few = copies-are q.nodes q.table q.instances q.demands h.fit h.openings h.once h.demands h.each_once (λ t. apart-place q.table.quantifiers quantifiers-apart t)

  goal-held : Held q.nodes copies q.goal
  goal-held = held q.nodes copies h.fit few q.goal

  here : (t : ℕ) → HasWord q.table.words t → 1 ≤ weight q.nodes copies t → Contains goal-held.items t
  here t has heavy = by (arising q.nodes q.goal q.table.openings q.demands h.openings t (h.arises t has) t itself)
    where
      by : (Under q.nodes copies q.goal t) ⊎ (weight q.nodes copies t ≡ 0) → Contains goal-held.items t
      by (inl u) = goal-held.all t u
      by (inr e) = absurd (omega (arith, e, heavy))

  -- reads that are numbered are at most as many as the cost
  weigh-each : (w : ℕ → ℕ) (xs : List ℕ) → ((x : ℕ) → Contains xs x → w x ≡ 1) → weigh w xs ≡ length xs
  weigh-each w [] e = refl
  weigh-each w (x ∷ xs) e = omega (arith, e x (contains-head x xs), weigh-each w xs (λ y c. e y (contains-tail x xs y c)))

  reads-few : length q.table.reads ≤ cost q.nodes q.goal
  reads-few =
      let le = weigh-le (weight q.nodes copies) q.table.reads goal-held.items reads-apart (λ t c. here t (read-known t c) (omega (arith, read-weight t c))) in
      omega (arith, le, goal-held.light, weigh-each (weight q.nodes copies) q.table.reads read-weight)

  -- so are the tuples of quantifiers that are numbered
  tuples-few : (n : ℕ) (ts : List ℕ) → ((t : ℕ) → Contains ts t → weight q.nodes copies t ≡ 1 + tuples (bound_of (slice_get q.nodes t))) → length (tuples_from q.nodes n ts) ≤ weigh (weight q.nodes copies) ts
  tuples-few n [] e = omega arith
  tuples-few n (t ∷ ts) e =
      let bs = bound_of (slice_get q.nodes t) in
      let rest = tuples-few (suc n) ts (λ u c. e u (contains-tail t ts u c)) in
      omega (arith, length-append (map (Tuple n) (all_tuples bs)) (tuples_from q.nodes (suc n) ts), length-map (all_tuples bs) (Tuple n), length-all_tuples bs, e t (contains-head t ts), rest)

  quantifiers-few : length (tuples_from q.nodes 0 q.table.quantifiers) ≤ cost q.nodes q.goal
  quantifiers-few =
      let le = weigh-le (weight q.nodes copies) q.table.quantifiers goal-held.items quantifiers-apart (λ t c. here t (quantifier-known t c) (omega (arith, quantifier-weight t c))) in
      omega (arith, le, goal-held.light, tuples-few 0 q.table.quantifiers quantifier-weight)

  abbrev pairs_among : List Instance
  pairs_among = each_with Pair (below (length q.table.reads)) (below (length q.table.reads))

  abbrev tuples_among : List Instance
  tuples_among = tuples_from q.nodes 0 q.table.quantifiers

  there : (i : Instance) → IsInstance q.nodes q.table i → Contains (pairs_among ++ tuples_among) i
  there (Pair a b) p =
      Contains-append_left pairs_among tuples_among (Pair a b)
      (each_with-has Pair (below (length q.table.reads)) (below (length q.table.reads)) a b (below-has (length q.table.reads) a (slice_get_within q.table.reads a p.first p.first_at)) (below-has (length q.table.reads) b (slice_get_within q.table.reads b p.second p.second_at)))
  there (Tuple k ks) p =
      Contains-append_right pairs_among tuples_among (Tuple k ks)
      (subst (λ n. Contains tuples_among (Tuple n ks)) {x = 0 + k} {y = k} (omega arith) (tuples-there q.nodes 0 k p.term q.table.quantifiers ks p.at (subst (λ o. IsTuple (bound_of o) ks) (sym p.is) p.fits)))

  named : (i : Instance) (d : ℕ) → IsDemand q.nodes q.table i d → IsInstance q.nodes q.table i
  named (Pair a b) d m = m.0
  named (Tuple k ks) d m = m.0

  pub has-room : length q.instances ≤ room q.nodes q.goal
  has-room =
      let n = length q.table.reads in
      let all = length-le q.instances (pairs_among ++ tuples_among) (once-apart q.instances h.each_once) (λ i c. let m = demand-there q q.instances q.demands h.demands i c in there i (named i m.0 m.1)) in
      let sized : length (below n) * length (below n) ≡ n * n = λ i. length-below n i * length-below n i in
      let square : n * n ≤ cost q.nodes q.goal * cost q.nodes q.goal = squares n (cost q.nodes q.goal) reads-few in
      omega (arith, all, length-append pairs_among tuples_among, length-each_with Pair (below n) (below n), sized, square, quantifiers-few)
    where
      squares : (a b : ℕ) → a ≤ b → a * a ≤ b * b
      squares a b l = let e : a * a ≤ a * b = mul-le-mul_left a l in let f : b * a ≤ b * b = mul-le-mul_left b l in let g : a * b ≡ b * a = grind arith in omega (arith, e, f, g)
