-- The copies that are made are those that paths reach.
use Rattle.std.proofs.Common.{◌≡◌, ◌⊎◌, inl, inr, ℕ, zero, suc, ◌+◌, ◌-◌, ◌<◌, ◌≤◌, Bool, true, false, ◌&&◌, ◌||◌, List, [], ◌∷◌, ◌++◌, map, length, refl, sym, ◌∙◌, ap, subst, arith, eqb, eqb-true, eq-eqb, append_assoc}
use Rattle.std.specs.Prelude.{if◌then◌else◌, filter, flat_map, nat_le}
use Rattle.std.specs.List.{Contains, range_with_len}
use Rattle.std.proofs.lemmas.Bool.{cases_Bool, leb-true, leb-false}
use Rattle.std.proofs.lemmas.List.{map-append}
use Rattle.std.proofs.lemmas.List.Elements.{Contains-push, Contains-push_cases, Contains-append_left, Contains-append_right, Contains-append_cases}
use Rattle.std.proofs.lemmas.List.Concat.{flat_map-append}
use Rattle.hk_graph.specs.Walks as graphs
use Rattle.hk_graph.specs.Walks.{Walks, AreWithin, targets_of}
use Rattle.hk_flow.proofs.WalkLaws.{walks-push}
use Rattle.ir_check.proofs.Undefined.{Contains-map, of_map, in_flat_map, of_flat_map}
use Rattle.hk_unroll.specs.declared.copies.BlockCopy.{BlockCopy}
use Rattle.hk_unroll.specs.Copies.{is_turn, led_to, first_copy, Follows, IsReached, is_copy, arriving, arrivals, is_some_copy, is_reached, grown, layer_from, layer, layers_from, all_copies, copies_of}

-- ---- tests

same_copy : (c d : BlockCopy) → is_copy c d ≡ true → c ≡ d
same_copy c d e = both (eqb c.turns d.turns) (eqb c.block d.block) refl refl e
  where
    whole : (ct cb dt db : ℕ) → ct ≡ dt → cb ≡ db → (let r : BlockCopy = record { turns = ct; block = cb } in r) ≡ (let r : BlockCopy = record { turns = dt; block = db } in r)
    whole ct cb dt db e f = cc

    both : (t u : Bool) → eqb c.turns d.turns ≡ t → eqb c.block d.block ≡ u → (t && u) ≡ true → c ≡ d
    both true true e f h = whole c.turns c.block d.turns d.block (eqb-true c.turns d.turns e) (eqb-true c.block d.block f)
    both true false e f h = absurd (cc)
    both false u e f h = absurd (cc)

itself : (c : BlockCopy) → is_copy c c ≡ true
itself c = both (eqb c.turns c.turns) (eqb c.block c.block) refl refl
  where
    both : (t u : Bool) → eqb c.turns c.turns ≡ t → eqb c.block c.block ≡ u → (t && u) ≡ true
    both true true e f = refl
    both true false e f = absurd (differ (sym f ∙ eq-eqb c.block c.block refl))
      where
        differ : false ≡ true → ⊥
        differ e = absurd (cc)
    both false u e f = absurd (differ (sym e ∙ eq-eqb c.turns c.turns refl))
      where
        differ : false ≡ true → ⊥
        differ e = absurd (cc)

some_copy : (xs : List BlockCopy) → is_some_copy xs ≡ true → (x : BlockCopy) × Contains xs x
some_copy [] e = absurd (cc)
some_copy (x ∷ xs) e = (x, (0, omega arith, refl))

has_copy : (xs : List BlockCopy) (x : BlockCopy) → Contains xs x → is_some_copy xs ≡ true
has_copy [] x (k, l, e) = absurd (omega (arith, l))
has_copy (y ∷ xs) x c = refl

filtered : (p : ℕ → Bool) (xs : List ℕ) (x : ℕ) → Contains (filter p xs) x → Contains xs x × (p x ≡ true)
filtered p [] x (k, l, e) = absurd (omega (arith, l))
filtered p (y ∷ xs) x c = pick (p y) refl (λ d. filtered p xs x d) c
  where
    later : Contains xs x × (p x ≡ true) → Contains (y ∷ xs) x × (p x ≡ true)
    later r = (Contains-append_right (y ∷ []) xs x r.0, r.1)

    head : (p y ≡ true) → (Contains (filter p xs) x → Contains xs x × (p x ≡ true)) → Contains (y ∷ filter p xs) x → Contains (y ∷ xs) x × (p x ≡ true)
    head holds rest (zero, l, e) = ((0, omega arith, e), ap p (sym e) ∙ holds)
    head holds rest (suc k, l, e) = later (rest (k, omega (arith, l), e))

    pick : (t : Bool) → p y ≡ t → (Contains (filter p xs) x → Contains xs x × (p x ≡ true)) → Contains (if t then y ∷ filter p xs else filter p xs) x → Contains (y ∷ xs) x × (p x ≡ true)
    pick true e rest d = head e rest d
    pick false e rest d = later (rest d)

differ : false ≡ true → ⊥
differ e = absurd (cc)

kept_by : (p : ℕ → Bool) (xs : List ℕ) (x : ℕ) → Contains xs x → p x ≡ true → Contains (filter p xs) x
kept_by p [] x (k, l, e) holds = absurd (omega (arith, l))
kept_by p (y ∷ xs) x (zero, l, e) holds = pick (p y) refl
  where
    pick : (t : Bool) → p y ≡ t → Contains (if t then y ∷ filter p xs else filter p xs) x
    pick true f = (0, omega arith, e)
    pick false f = absurd (differ (sym f ∙ ap p e ∙ holds))
kept_by p (y ∷ xs) x (suc k, l, e) holds = pick (p y) (kept_by p xs x (k, omega (arith, l), e) holds)
  where
    pick : (t : Bool) → Contains (filter p xs) x → Contains (if t then y ∷ filter p xs else filter p xs) x
    pick true rest = Contains-append_right (y ∷ []) (filter p xs) x rest
    pick false rest = rest

module _ (graph : List (List ℕ)) (n : ℕ) where
  -- ---- what is made is reached

  from_made : (made : List BlockCopy) (c : BlockCopy) → ((d : BlockCopy) → Contains made d → IsReached graph n d) → c.turns ≤ n → is_some_copy (arrivals graph made c) ≡ true → IsReached graph n c
  from_made made c all within some =
      let x : (x : BlockCopy) × Contains (arrivals graph made c) x = some_copy (arrivals graph made c) some in
      let from = of_flat_map (λ (from : BlockCopy). arriving from c (targets_of graph from.block)) made x.0 x.1 in
      let to = of_map (λ (to : ℕ). from.0) (filter (λ to. is_copy (led_to from.0 to) c) (targets_of graph from.0.block)) x.0 from.2 in
      let edge = filtered (λ to. is_copy (led_to from.0 to) c) (targets_of graph from.0.block) to.0 to.1 in
      let led : led_to from.0 to.0 ≡ c = same_copy (led_to from.0 to.0) c edge.1 in
      let walk : IsReached graph n from.0 = all from.0 from.1 in
      (walk.0 ++ from.0 ∷ [], walks-push (Follows graph n) walk.0 first_copy from.0 c walk.1 (to.0, edge.0, sym led, within))

  one_reached : (made : List BlockCopy) (c : BlockCopy) → ((d : BlockCopy) → Contains made d → IsReached graph n d) → c.turns ≤ n → is_reached graph made c ≡ true → IsReached graph n c
  one_reached made c all within holds = pick (is_copy c first_copy) refl holds
    where
      pick : (t : Bool) → is_copy c first_copy ≡ t → (t || is_some_copy (arrivals graph made c)) ≡ true → IsReached graph n c
      pick true e g = ([], sym (same_copy c first_copy e))
      pick false e g = from_made made c all within g

  all_reached : (made cs : List BlockCopy) → ((d : BlockCopy) → Contains made d → IsReached graph n d) → ((d : BlockCopy) → Contains cs d → d.turns ≤ n)
      → (d : BlockCopy) → Contains (grown graph made cs) d → IsReached graph n d
  all_reached made [] all within d c = all d c
  all_reached made (e ∷ cs) all within d c =
      pick (is_reached graph made e) refl (λ h k. all_reached (made ++ e ∷ []) cs h (λ f g. later f g) d k) (λ k. all_reached made cs all (λ f g. later f g) d k) c
    where
      later : (f : BlockCopy) → Contains cs f → f.turns ≤ n
      later f k = within f (Contains-append_right (e ∷ []) cs f k)

      more : IsReached graph n e → (f : BlockCopy) → Contains made f ⊎ (e ≡ f) → IsReached graph n f
      more here f (inl g) = all f g
      more here f (inr same) = let P : BlockCopy → Type 0 = λ x. IsReached graph n x in subst P same here

      pick : (t : Bool) → is_reached graph made e ≡ t
          → (((f : BlockCopy) → Contains (made ++ e ∷ []) f → IsReached graph n f) → Contains (grown graph (made ++ e ∷ []) cs) d → IsReached graph n d)
          → (Contains (grown graph made cs) d → IsReached graph n d)
          → Contains (grown graph (if t then made ++ e ∷ [] else made) cs) d → IsReached graph n d
      pick true holds with_it without k = with_it (λ f g. more (one_reached made e all (within e (0, omega arith, refl)) holds) f (Contains-push_cases made e f g)) k
      pick false fails with_it without k = without k

  -- ---- what is reached is made

  grown_keeps : (made cs : List BlockCopy) (d : BlockCopy) → Contains made d → Contains (grown graph made cs) d
  grown_keeps made [] d c = c
  grown_keeps made (e ∷ cs) d c = pick (is_reached graph made e) (grown_keeps (made ++ e ∷ []) cs d (Contains-append_left made (e ∷ []) d c)) (grown_keeps made cs d c)
    where
      pick : (t : Bool) → Contains (grown graph (made ++ e ∷ []) cs) d → Contains (grown graph made cs) d → Contains (grown graph (if t then made ++ e ∷ [] else made) cs) d
      pick true a b = a
      pick false a b = b

  grown_from : (made cs : List BlockCopy) (d : BlockCopy) → Contains (grown graph made cs) d → Contains made d ⊎ Contains cs d
  grown_from made [] d c = inl c
  grown_from made (e ∷ cs) d c = pick (is_reached graph made e) (λ k. grown_from (made ++ e ∷ []) cs d k) (λ k. grown_from made cs d k) c
    where
      first : Contains made d ⊎ (e ≡ d) → Contains made d ⊎ Contains (e ∷ cs) d
      first (inl g) = inl g
      first (inr same) = inr (0, omega arith, same)

      later : Contains made d ⊎ Contains cs d → Contains made d ⊎ Contains (e ∷ cs) d
      later (inl k) = inl k
      later (inr k) = inr (Contains-append_right (e ∷ []) cs d k)

      pushed : Contains (made ++ e ∷ []) d ⊎ Contains cs d → Contains made d ⊎ Contains (e ∷ cs) d
      pushed (inl k) = first (Contains-push_cases made e d k)
      pushed (inr k) = inr (Contains-append_right (e ∷ []) cs d k)

      pick : (t : Bool) → (Contains (grown graph (made ++ e ∷ []) cs) d → Contains (made ++ e ∷ []) d ⊎ Contains cs d)
          → (Contains (grown graph made cs) d → Contains made d ⊎ Contains cs d)
          → Contains (grown graph (if t then made ++ e ∷ [] else made) cs) d → Contains made d ⊎ Contains (e ∷ cs) d
      pick true with_it without k = pushed (with_it k)
      pick false with_it without k = later (without k)

  grown_parts : (made cs ds : List BlockCopy) → grown graph made (cs ++ ds) ≡ grown graph (grown graph made cs) ds
  grown_parts made [] ds = refl
  grown_parts made (c ∷ cs) ds = grown_parts (if is_reached graph made c then made ++ c ∷ [] else made) cs ds

  -- an edge from a copy that is made leads to a reached one
  edge_reached : (made : List BlockCopy) (d e : BlockCopy) → Contains made d → Follows graph n d e → is_reached graph made e ≡ true
  edge_reached made d e c (to, edge, led, within) = or_true (is_copy e first_copy) (has_copy (arrivals graph made e) d arrives)
    where
      or_true : (t : Bool) {u : Bool} → u ≡ true → (t || u) ≡ true
      or_true true g = refl
      or_true false g = g

      is : is_copy (led_to d to) e ≡ true
      is = ap (λ x. is_copy x e) (sym led) ∙ itself e

      arrives : Contains (arrivals graph made e) d
      arrives = in_flat_map (λ (from : BlockCopy). arriving from e (targets_of graph from.block)) made d d c
          (Contains-map (λ (to : ℕ). d) (filter (λ to. is_copy (led_to d to) e) (targets_of graph d.block)) to (kept_by (λ to. is_copy (led_to d to) e) (targets_of graph d.block) to edge is))

  made_here : (made rest : List BlockCopy) (e : BlockCopy) → is_reached graph made e ≡ true → Contains (grown graph made (e ∷ rest)) e
  made_here made rest e holds = pick (is_reached graph made e) holds
    where
      pick : (t : Bool) → t ≡ true → Contains (grown graph (if t then made ++ e ∷ [] else made) rest) e
      pick true g = grown_keeps (made ++ e ∷ []) rest e (Contains-push made e)
      pick false g = absurd (cc)

-- ---- the order of copies

range_splits : (a i j : ℕ) → range_with_len a (i + j) ≡ range_with_len a i ++ range_with_len (a + i) j
range_splits a zero j = let e : 0 + j ≡ j = omega arith in let f : a + 0 ≡ a = omega arith in ap (range_with_len a) e ∙ sym (ap (λ b. range_with_len b j) f)
range_splits a (suc i) j =
    let e : suc i + j ≡ suc (i + j) = omega arith in
    let f : a + 1 + i ≡ a + suc i = omega arith in
    ap (range_with_len a) e ∙ ap (λ xs. a ∷ xs) (range_splits (a + 1) i j ∙ ap (λ b. range_with_len (a + 1) i ++ range_with_len b j) f)

from_on : (a count x : ℕ) → Contains (range_with_len a count) x → (a ≤ x) × (x < a + count)
from_on a zero x (k, l, e) = absurd (omega (arith, l))
from_on a (suc count) x (zero, l, e) = (omega (arith, e), omega (arith, e))
from_on a (suc count) x (suc k, l, e) = let rest : (a + 1 ≤ x) × (x < a + 1 + count) = from_on (a + 1) count x (k, omega (arith, l), e) in (omega (arith, rest.0), omega (arith, rest.1))

in_layer : (k b count : ℕ) (d : BlockCopy) → Contains (layer_from k b count) d → (d.turns ≡ k) × (b ≤ d.block)
in_layer k b count d c =
    let x = of_map (λ b. let r : BlockCopy = record { turns = k; block = b } in r) (range_with_len b count) d c in
    let low : (b ≤ x.0) × (x.0 < b + count) = from_on b count x.0 x.1 in
    let t : k ≡ d.turns = ap (λ (c : BlockCopy). c.turns) x.2 in
    let o : x.0 ≡ d.block = ap (λ (c : BlockCopy). c.block) x.2 in
    (sym t, omega (arith, low.0, o))

in_layers : (m k count : ℕ) (d : BlockCopy) → Contains (layers_from m k count) d → (k ≤ d.turns) × (d.turns < k + count)
in_layers m k count d c =
    let x = of_flat_map (layer m) (range_with_len k count) d c in
    let low : (k ≤ x.0) × (x.0 < k + count) = from_on k count x.0 x.1 in
    let t : d.turns ≡ x.0 = (in_layer x.0 0 m d x.2).0 in
    (omega (arith, low.0, t), omega (arith, low.1, t))

-- the copies before one, and those behind it
abbrev ahead : ℕ → BlockCopy → List BlockCopy
ahead m e = layers_from m 0 e.turns ++ layer_from e.turns 0 e.block

abbrev behind : ℕ → ℕ → BlockCopy → List BlockCopy
behind m n e = layer_from e.turns (e.block + 1) (m - (e.block + 1)) ++ layers_from m (e.turns + 1) (n - e.turns)

split_at : (m n : ℕ) (e : BlockCopy) → e.turns ≤ n → e.block < m → all_copies m n ≡ ahead m e ++ e ∷ behind m n e
split_at m n e h k =
    layers ∙ ap (λ xs. layers_from m 0 e.turns ++ (xs ++ layers_from m (e.turns + 1) (n - e.turns))) own
    ∙ ap (λ xs. layers_from m 0 e.turns ++ xs) (append_assoc (layer_from e.turns 0 e.block) (e ∷ layer_from e.turns (e.block + 1) (m - (e.block + 1))) (layers_from m (e.turns + 1) (n - e.turns)))
    ∙ sym (append_assoc (layers_from m 0 e.turns) (layer_from e.turns 0 e.block) (e ∷ behind m n e))
  where
    count : n + 1 ≡ e.turns + suc (n - e.turns)
    count = omega arith

    blocks : m ≡ e.block + suc (m - (e.block + 1))
    blocks = omega (arith, k)

    none : (x : ℕ) → 0 + x ≡ x
    none x = omega arith

    layers : all_copies m n ≡ layers_from m 0 e.turns ++ (layer m e.turns ++ layers_from m (e.turns + 1) (n - e.turns))
    layers =
        ap (layers_from m 0) count
        ∙ ap (flat_map (layer m)) (range_splits 0 e.turns (suc (n - e.turns)) ∙ ap (λ a. range_with_len 0 e.turns ++ range_with_len a (suc (n - e.turns))) (none e.turns))
        ∙ flat_map-append (layer m) (range_with_len 0 e.turns) (range_with_len e.turns (suc (n - e.turns)))

    own : layer m e.turns ≡ layer_from e.turns 0 e.block ++ e ∷ layer_from e.turns (e.block + 1) (m - (e.block + 1))
    own =
        ap (layer_from e.turns 0) blocks
        ∙ ap (map (λ b. let r : BlockCopy = record { turns = e.turns; block = b } in r)) (range_splits 0 e.block (suc (m - (e.block + 1))) ∙ ap (λ a. range_with_len 0 e.block ++ range_with_len a (suc (m - (e.block + 1)))) (none e.block))
        ∙ map-append (λ b. let r : BlockCopy = record { turns = e.turns; block = b } in r) (range_with_len 0 e.block) (range_with_len e.block (suc (m - (e.block + 1))))

-- no edge leads from a copy to one that does not come behind it
not_back : (m n : ℕ) (d e : BlockCopy) (to : ℕ) → e ≡ led_to d to → Contains (e ∷ behind m n e) d → ⊥
not_back m n d e to led c = pick (nat_le to d.block) refl
  where
    place : to ≡ e.block
    place = sym (ap (λ (c : BlockCopy). c.block) led)

    turns : (t : Bool) → nat_le to d.block ≡ t → e.turns ≡ (if t then d.turns + 1 else d.turns)
    turns t g = ap (λ (c : BlockCopy). c.turns) led ∙ ap (λ t. if t then d.turns + 1 else d.turns) g

    order : Contains (e ∷ behind m n e) d → ((d.turns ≡ e.turns) × (e.block ≤ d.block)) ⊎ (e.turns < d.turns)
    order (zero, l, g) = inl (sym (ap (λ (c : BlockCopy). c.turns) g), omega (arith, ap (λ (c : BlockCopy). c.block) g))
    order (suc k, l, g) = rest (Contains-append_cases (layer_from e.turns (e.block + 1) (m - (e.block + 1))) (layers_from m (e.turns + 1) (n - e.turns)) d (k, omega (arith, l), g))
      where
        rest : Contains (layer_from e.turns (e.block + 1) (m - (e.block + 1))) d ⊎ Contains (layers_from m (e.turns + 1) (n - e.turns)) d
            → ((d.turns ≡ e.turns) × (e.block ≤ d.block)) ⊎ (e.turns < d.turns)
        rest (inl x) = let i : (d.turns ≡ e.turns) × (e.block + 1 ≤ d.block) = in_layer e.turns (e.block + 1) (m - (e.block + 1)) d x in inl (i.0, omega (arith, i.1))
        rest (inr x) = let i : (e.turns + 1 ≤ d.turns) × (d.turns < e.turns + 1 + (n - e.turns)) = in_layers m (e.turns + 1) (n - e.turns) d x in inr (omega (arith, i.0))

    clash : (t : Bool) → nat_le to d.block ≡ t → ((d.turns ≡ e.turns) × (e.block ≤ d.block)) ⊎ (e.turns < d.turns) → ⊥
    clash true g (inl o) = let s : e.turns ≡ d.turns + 1 = turns true g in omega (arith, o.0, s)
    clash true g (inr o) = let s : e.turns ≡ d.turns + 1 = turns true g in omega (arith, o, s)
    clash false g (inl o) = let later : d.block < to = leb-false to d.block g in omega (arith, o.1, later, place)
    clash false g (inr o) = let s : e.turns ≡ d.turns = turns false g in omega (arith, o, s)

    pick : (t : Bool) → nat_le to d.block ≡ t → ⊥
    pick t g = clash t g (order c)

module _ (graph : List (List ℕ)) (n : ℕ) (within : AreWithin graph) where
  made_next : (d e : BlockCopy) → Contains (copies_of graph n) d → Follows graph n d e → Contains (copies_of graph n) e
  made_next d e c (to, edge, led, h) = subst (λ xs. Contains (grown graph [] xs) e) (sym split) (subst (λ xs. Contains xs e) (sym (grown_parts graph n [] front (e ∷ back))) here)
    where
      there : e.block < length graph
      there = let place : to ≡ e.block = sym (ap (λ (c : BlockCopy). c.block) led) in subst (λ x. x < length graph) place (within d.block to edge)

      front : List BlockCopy
      front = ahead (length graph) e

      back : List BlockCopy
      back = behind (length graph) n e

      split : all_copies (length graph) n ≡ front ++ e ∷ back
      split = split_at (length graph) n e h there

      made : List BlockCopy
      made = grown graph [] front

      in_parts : Contains (grown graph made (e ∷ back)) d
      in_parts = subst (λ xs. Contains xs d) (grown_parts graph n [] front (e ∷ back)) (subst (λ xs. Contains (grown graph [] xs) d) split c)

      before : Contains made d ⊎ Contains (e ∷ back) d → Contains made d
      before (inl k) = k
      before (inr k) = absurd (not_back (length graph) n d e to led k)

      here : Contains (grown graph made (e ∷ back)) e
      here = made_here graph n made back e (edge_reached graph n made d e (before (grown_from graph n made (e ∷ back) d in_parts)) (to, edge, led, h))

  made_along : (left : List BlockCopy) (d e : BlockCopy) → Contains (copies_of graph n) d → Walks (Follows graph n) d left e → Contains (copies_of graph n) e
  made_along [] d e c same = subst (Contains (copies_of graph n)) same c
  made_along (x ∷ left) d e c (same, y, step, walk) = made_along left y e (made_next x y (subst (Contains (copies_of graph n)) same c) step) walk

  made_first : 0 < length graph → Contains (copies_of graph n) first_copy
  made_first some = subst (λ xs. Contains (grown graph [] xs) first_copy) (sym (split_at (length graph) n first_copy (omega arith) some)) (made_here graph n [] (behind (length graph) n first_copy) first_copy refl)

  -- the copies that are made are those to which paths lead
  pub made_reached : (d : BlockCopy) → Contains (copies_of graph n) d → IsReached graph n d
  made_reached d c = all_reached graph n [] (all_copies (length graph) n) (λ e k. absurd (none e k)) (λ e k. low e (in_layers (length graph) 0 (n + 1) e k)) d c
    where
      none : (e : BlockCopy) → Contains [] e → ⊥
      none e (k, l, g) = omega (arith, l)

      low : (e : BlockCopy) → (0 ≤ e.turns) × (e.turns < 0 + (n + 1)) → e.turns ≤ n
      low e b = omega (arith, b.1)

  pub reached_made : 0 < length graph → (d : BlockCopy) → IsReached graph n d → Contains (copies_of graph n) d
  reached_made some d (left, walk) = made_along left first_copy d (made_first some) walk
