-- How the edges that arrive at copies grow.
use Rattle.std.proofs.Common.{◌≡◌, ◌≢◌, ℕ, ◌+◌, ◌<◌, ◌≤◌, ◌-◌, suc, Bool, true, false, ◌&&◌, ◌||◌, List, [], ◌∷◌, ◌++◌, length, get_or, set, map, take, refl, sym, ◌∙◌, ap, subst, arith, eqb, eqb-true, append_assoc, append-nil, length-set, get_or-set_same, get_or-set_other, replicate}
use Rattle.std.specs.Prelude.{if◌then◌else◌, filter, flat_map, nat_le}
use Rattle.std.proofs.lemmas.List.Elements.{filter-append, Contains-get_or}
use Rattle.std.proofs.lemmas.List.Concat.{flat_map-append}
use Rattle.std.proofs.lemmas.Bool.{eqb-false}
use Rattle.std.proofs.lemmas.List.{map-append, take_more, length-replicate, get_or-replicate}
use Rattle.std.specs.List.{Contains}
use Rattle.hk_graph.specs.Walks.{targets_of, HasEdge, AreWithin}
use Rattle.hk_unroll.specs.declared.copies.BlockCopy.{BlockCopy}
use Rattle.hk_unroll.specs.Copies.{led_to, is_copy, first_copy, is_some_copy, is_reached, arriving, arrivals, grown, layer_from, layer, layers_from}
use Rattle.hk_unroll.specs.Arriving.{Layers, at_copy, AreSized, AreArrivals, Arrives, ArriveAll}

-- one more copy at the row of c
abbrev put : Layers → BlockCopy → BlockCopy → Layers
put old c from = set old c.turns (set (get_or old c.turns []) c.block (at_copy old c ++ from ∷ []))

abbrev added : Bool → BlockCopy → List BlockCopy
added b from = if b then from ∷ [] else []

rows_same : (L : List (List BlockCopy)) (cb db : ℕ) (R : List BlockCopy) (from : BlockCopy) (t : Bool) → eqb cb db ≡ t → cb < length L → R ≡ get_or L cb []
    → get_or (set L cb (R ++ from ∷ [])) db [] ≡ get_or L db [] ++ added t from
rows_same L cb db R from true e h r =
    let same : cb ≡ db = eqb-true cb db e in
    let P : ℕ → Type 0 = λ k. get_or (set L cb (R ++ from ∷ [])) k [] ≡ get_or L k [] ++ from ∷ [] in
    subst P same (get_or-set_same L cb (R ++ from ∷ []) [] h ∙ ap (λ x. x ++ from ∷ []) r)
rows_same L cb db R from false e h r =
    let other : db ≢ cb = λ same. eqb-false cb db e (sym same) in
    get_or-set_other L cb db (R ++ from ∷ []) [] other ∙ sym (append-nil (get_or L db []))

layers_same : (old : Layers) (ct cb dt db : ℕ) (R : List BlockCopy) (from : BlockCopy) (t u : Bool) → eqb ct dt ≡ t → eqb cb db ≡ u → ct < length old → cb < length (get_or old ct [])
    → R ≡ get_or (get_or old ct []) cb []
    → get_or (get_or (set old ct (set (get_or old ct []) cb (R ++ from ∷ []))) dt []) db [] ≡ get_or (get_or old dt []) db [] ++ added (t && u) from
layers_same old ct cb dt db R from true u e d h k r =
    let same : ct ≡ dt = eqb-true ct dt e in
    let P : ℕ → Type 0 = λ j. get_or (get_or (set old ct (set (get_or old ct []) cb (R ++ from ∷ []))) j []) db [] ≡ get_or (get_or old j []) db [] ++ added u from in
    subst P same (ap (λ L. get_or L db []) (get_or-set_same old ct (set (get_or old ct []) cb (R ++ from ∷ [])) [] h) ∙ rows_same (get_or old ct []) cb db R from u d k r)
layers_same old ct cb dt db R from false u e d h k r =
    let other : dt ≢ ct = λ same. eqb-false ct dt e (sym same) in
    ap (λ L. get_or L db []) (get_or-set_other old ct dt (set (get_or old ct []) cb (R ++ from ∷ [])) [] other) ∙ sym (append-nil (get_or (get_or old dt []) db []))

put_adds : (old : Layers) (c d from : BlockCopy) → c.turns < length old → c.block < length (get_or old c.turns [])
    → at_copy (put old c from) d ≡ at_copy old d ++ added (is_copy c d) from
put_adds old c d from h k = layers_same old c.turns c.block d.turns d.block (at_copy old c) from (eqb c.turns d.turns) (eqb c.block d.block) refl refl h k refl

-- sizes stay
row_size : (old : Layers) (ct cb j blocks : ℕ) (R : List BlockCopy) (t : Bool) → eqb ct j ≡ t → ct < length old → length (get_or old ct []) ≡ blocks → length (get_or old j []) ≡ blocks
    → length (get_or (set old ct (set (get_or old ct []) cb R)) j []) ≡ blocks
row_size old ct cb j blocks R true e h own all =
    let P : ℕ → Type 0 = λ j. length (get_or (set old ct (set (get_or old ct []) cb R)) j []) ≡ blocks in
    subst P (eqb-true ct j e) (ap length (get_or-set_same old ct (set (get_or old ct []) cb R) [] h) ∙ length-set (get_or old ct []) cb R ∙ own)
row_size old ct cb j blocks R false e h own all =
    let other : j ≢ ct = λ same. eqb-false ct j e (sym same) in
    ap length (get_or-set_other old ct j (set (get_or old ct []) cb R) [] other) ∙ all

put_sized : (old : Layers) (c from : BlockCopy) (blocks n : ℕ) → c.turns < length old → AreSized blocks n old → AreSized blocks n (put old c from)
put_sized old c from blocks n h s = record {
  turns = length-set old c.turns (set (get_or old c.turns []) c.block (at_copy old c ++ from ∷ [])) ∙ s.turns;
  rows = λ k b. row_size old c.turns c.block k blocks (at_copy old c ++ from ∷ []) (eqb c.turns k) refl h (s.rows c.turns (subst (λ n. c.turns < n) s.turns h)) (s.rows k b);
}

-- an edge arrives at a copy within n turns
pub arrives_put : (old new : Layers) (n : ℕ) (c from : BlockCopy) → c.turns < length old → c.block < length (get_or old c.turns []) → new ≡ put old c from → Arrives n from c old new
arrives_put old new n c from h k e =
    let P : Layers → Type 0 = λ layers. Arrives n from c old layers in
    subst P (sym e) (record { sized = λ blocks s. put_sized old c from blocks n h s; adds = λ d within. put_adds old c d from h k })

-- a copy beyond them gets none
not_copy : (ct dt n : ℕ) (u : Bool) → n < ct → dt ≤ n → (eqb ct dt && u) ≡ false
not_copy ct dt n u h k = go (eqb ct dt) refl
  where
    go : (t : Bool) → eqb ct dt ≡ t → (t && u) ≡ false
    go true e = let same : ct ≡ dt = eqb-true ct dt e in absurd (omega arith)
    go false e = refl

pub arrives_none : (old new : Layers) (n : ℕ) (c from : BlockCopy) → n < c.turns → new ≡ old → Arrives n from c old new
arrives_none old new n c from h e =
    let P : Layers → Type 0 = λ layers. Arrives n from c old layers in
    subst P (sym e) (record {
      sized = λ blocks s. s;
      adds = λ d within. sym (ap (λ b. at_copy old d ++ added b from) (not_copy c.turns d.turns n (eqb c.block d.block) h within) ∙ append-nil (at_copy old d));
    })

-- ---- all edges of a copy

one_more : (from d : BlockCopy) (to : ℕ) → arriving from d (to ∷ []) ≡ added (is_copy (led_to from to) d) from
one_more from d to = go (is_copy (led_to from to) d) refl
  where
    go : (t : Bool) → is_copy (led_to from to) d ≡ t → arriving from d (to ∷ []) ≡ added t from
    go true e = ap (λ b. map (λ to. from) (if b then to ∷ [] else [])) e
    go false e = ap (λ b. map (λ to. from) (if b then to ∷ [] else [])) e

arriving_more : (from d : BlockCopy) (targets : List ℕ) (i to : ℕ) → i < length targets → to ≡ get_or targets i 0
    → arriving from d (take (i + 1) targets) ≡ arriving from d (take i targets) ++ added (is_copy (led_to from to) d) from
arriving_more from d targets i to h e =
    ap (arriving from d) (take_more targets i 0 h)
    ∙ ap (map (λ to. from)) (filter-append (λ to. is_copy (led_to from to) d) (take i targets) (get_or targets i 0 ∷ []))
    ∙ map-append (λ to. from) (filter (λ to. is_copy (led_to from to) d) (take i targets)) (filter (λ to. is_copy (led_to from to) d) (get_or targets i 0 ∷ []))
    ∙ ap (λ x. arriving from d (take i targets) ++ x) (one_more from d (get_or targets i 0) ∙ ap (λ x. added (is_copy (led_to from x) d) from) (sym e))

pub no_edges : (n : ℕ) (from : BlockCopy) (targets : List ℕ) (layers : Layers) → ArriveAll n from (take 0 targets) layers layers
no_edges n from targets layers = record { sized = λ blocks s. s; adds = λ d within. sym (append-nil (at_copy layers d)) }

pub edge_more : (n : ℕ) (from c : BlockCopy) (targets : List ℕ) (i to : ℕ) (start old new : Layers) → i < length targets → to ≡ get_or targets i 0 → c ≡ led_to from to
    → ArriveAll n from (take i targets) start old → Arrives n from c old new → ArriveAll n from (take (i + 1) targets) start new
edge_more n from c targets i to start old new h e led all one = record {
  sized = λ blocks s. one.sized blocks (all.sized blocks s);
  adds = λ d within.
      one.adds d within
      ∙ ap (λ x. x ++ added (is_copy c d) from) (all.adds d within)
      ∙ append_assoc (at_copy start d) (arriving from d (take i targets)) (added (is_copy c d) from)
      ∙ ap (λ x. at_copy start d ++ (arriving from d (take i targets) ++ added (is_copy x d) from)) led
      ∙ ap (λ x. at_copy start d ++ x) (sym (arriving_more from d targets i to h e));
}

pub led_within : (graph : List (List ℕ)) (from c : BlockCopy) (items : List ℕ) (i : ℕ) → AreWithin graph → items ≡ targets_of graph from.block → i < length items
    → c ≡ led_to from (get_or items i 0) → c.block < length graph
led_within graph from c items i within e h led =
    let edge : HasEdge graph from.block (get_or items i 0) = let P : List ℕ → Type 0 = λ xs. Contains xs (get_or items i 0) in subst P e (Contains-get_or items i 0 h) in
    let place : c.block ≡ get_or items i 0 = ap (λ (c : BlockCopy). c.block) led in
    subst (λ x. x < length graph) (sym place) (within from.block (get_or items i 0) edge)

pub edge_next : (n : ℕ) (from c : BlockCopy) (items targets : List ℕ) (i : ℕ) (start old new : Layers) → items ≡ targets → i < length items → c ≡ led_to from (get_or items i 0)
    → ArriveAll n from (take i targets) start old → Arrives n from c old new → ArriveAll n from (take (i + 1) targets) start new
edge_next n from c items targets i start old new e h led all one =
    edge_more n from c targets i (get_or items i 0) start old new (subst (λ (xs : List ℕ). i < length xs) e h) (ap (λ xs. get_or xs i 0) e) led all one

pub all_edges : (n : ℕ) (from : BlockCopy) (targets : List ℕ) (i : ℕ) (old new : Layers) → take i targets ≡ targets → ArriveAll n from (take i targets) old new → ArriveAll n from targets old new
all_edges n from targets i old new e all = let P : List ℕ → Type 0 = λ x. ArriveAll n from x old new in subst P e all

-- ---- one step

abbrev told : BlockCopy → List BlockCopy → Bool
told c arrived = is_copy c first_copy || is_some_copy arrived

told_reached : (graph : List (List ℕ)) (n : ℕ) (c : BlockCopy) (made : List BlockCopy) (layers : Layers) → c.turns ≤ n → c.block < length graph → AreArrivals graph n made layers
    → told c (at_copy layers c) ≡ is_reached graph made c
told_reached graph n c made layers h k a = ap (told c) (a.arrive c h k)

pub grown_yes : (graph : List (List ℕ)) (n : ℕ) (c : BlockCopy) (made new : List BlockCopy) (layers : Layers) (b : Bool) → c.turns ≤ n → c.block < length graph
    → AreArrivals graph n made layers → b ≡ told c (at_copy layers c) → b ≡ true → new ≡ made ++ c ∷ [] → new ≡ grown graph made (c ∷ [])
grown_yes graph n c made new layers b h k a is holds e =
    e ∙ sym (ap (λ t. if t then made ++ c ∷ [] else made) (sym (told_reached graph n c made layers h k a) ∙ sym is ∙ holds))

pub grown_no : (graph : List (List ℕ)) (n : ℕ) (c : BlockCopy) (made new : List BlockCopy) (layers : Layers) (b : Bool) → c.turns ≤ n → c.block < length graph
    → AreArrivals graph n made layers → b ≡ told c (at_copy layers c) → b ≡ false → new ≡ made → new ≡ grown graph made (c ∷ [])
grown_no graph n c made new layers b h k a is fails e =
    e ∙ sym (ap (λ t. if t then made ++ c ∷ [] else made) (sym (told_reached graph n c made layers h k a) ∙ sym is ∙ fails))

pub arrivals_more : (graph : List (List ℕ)) (n : ℕ) (c : BlockCopy) (made more : List BlockCopy) (old new : Layers) → more ≡ made ++ c ∷ [] → AreArrivals graph n made old
    → ArriveAll n c (targets_of graph c.block) old new → AreArrivals graph n more new
arrivals_more graph n c made more old new e a all =
    let P : List BlockCopy → Type 0 = λ made. AreArrivals graph n made new in
    subst P (sym e) (record {
      sized = all.sized (length graph) a.sized;
      arrive = λ d h k.
          all.adds d h
          ∙ ap (λ x. x ++ arriving c d (targets_of graph c.block)) (a.arrive d h k)
          ∙ ap (λ x. arrivals graph made d ++ x) (sym (append-nil (arriving c d (targets_of graph c.block))))
          ∙ sym (flat_map-append (λ from. arriving from d (targets_of graph from.block)) made (c ∷ []));
    })

-- ---- layers

pub layer_begins : (k b m : ℕ) → b < m → layer_from k b (m - b) ≡ record { turns = k; block = b } ∷ layer_from k (b + 1) (m - (b + 1))
layer_begins k b m h = let e : m - b ≡ suc (m - (b + 1)) = omega arith in ap (layer_from k b) e

pub layer_ends : (k b m : ℕ) → m ≤ b → layer_from k b (m - b) ≡ []
layer_ends k b m h = let e : m - b ≡ 0 = omega arith in ap (layer_from k b) e

pub layers_begin : (blocks k n : ℕ) → k < n + 1 → layers_from blocks k (n + 1 - k) ≡ layer blocks k ++ layers_from blocks (k + 1) (n + 1 - (k + 1))
layers_begin blocks k n h = let e : n + 1 - k ≡ suc (n + 1 - (k + 1)) = omega arith in ap (layers_from blocks k) e

pub layers_end : (blocks k n : ℕ) → n + 1 ≤ k → layers_from blocks k (n + 1 - k) ≡ []
layers_end blocks k n h = let e : n + 1 - k ≡ 0 = omega arith in ap (layers_from blocks k) e

-- what is grown in two parts is grown at once
pub grown_both : (graph : List (List ℕ)) (made cs ds : List BlockCopy) → grown graph made (cs ++ ds) ≡ grown graph (grown graph made cs) ds
grown_both graph made [] ds = refl
grown_both graph made (c ∷ cs) ds = grown_both graph (if is_reached graph made c then made ++ c ∷ [] else made) cs ds

pub block_done : (graph : List (List ℕ)) (old new all : List BlockCopy) (k b : ℕ) → b < length graph → grown graph old (layer_from k b (length graph - b)) ≡ all
    → new ≡ grown graph old (record { turns = k; block = b } ∷ []) → grown graph new (layer_from k (b + 1) (length graph - (b + 1))) ≡ all
block_done graph old new all k b h e one =
    ap (λ made. grown graph made (layer_from k (b + 1) (length graph - (b + 1)))) one
    ∙ sym (ap (grown graph old) (layer_begins k b (length graph) h)) ∙ e

pub layer_done : (graph : List (List ℕ)) (now all : List BlockCopy) (k b : ℕ) → length graph ≤ b → grown graph now (layer_from k b (length graph - b)) ≡ all → now ≡ all
layer_done graph now all k b h e = sym (ap (grown graph now) (layer_ends k b (length graph) h)) ∙ e

pub turns_done : (graph : List (List ℕ)) (old new all : List BlockCopy) (k n : ℕ) → k < n + 1 → grown graph old (layers_from (length graph) k (n + 1 - k)) ≡ all
    → new ≡ grown graph old (layer (length graph) k) → grown graph new (layers_from (length graph) (k + 1) (n + 1 - (k + 1))) ≡ all
turns_done graph old new all k n h e one =
    ap (λ made. grown graph made (layers_from (length graph) (k + 1) (n + 1 - (k + 1)))) one
    ∙ sym (grown_both graph old (layer (length graph) k) (layers_from (length graph) (k + 1) (n + 1 - (k + 1))))
    ∙ sym (ap (grown graph old) (layers_begin (length graph) k n h)) ∙ e

pub all_done : (graph : List (List ℕ)) (now all : List BlockCopy) (k n : ℕ) → n + 1 ≤ k → grown graph now (layers_from (length graph) k (n + 1 - k)) ≡ all → now ≡ all
all_done graph now all k n h e = sym (ap (grown graph now) (layers_end (length graph) k n h)) ∙ e

-- ---- the start

pub nothing_arrives : (graph : List (List ℕ)) (n k : ℕ) (layers : Layers) → n + 1 ≤ k → k ≤ n + 1 → layers ≡ replicate k (replicate (length graph) []) → AreArrivals graph n [] layers
nothing_arrives graph n k layers h g e =
    let same : k ≡ n + 1 = omega arith in
    let P : Layers → Type 0 = λ layers. AreArrivals graph n [] layers in
    subst P (sym e) (record {
      sized = record {
        turns = length-replicate k (replicate (length graph) []) ∙ same;
        rows = λ j b. ap length (get_or-replicate k j (replicate (length graph) []) [] (omega (arith, same))) ∙ length-replicate (length graph) [];
      };
      arrive = λ d within block.
          ap (λ L. get_or L d.block []) (get_or-replicate k d.turns (replicate (length graph) []) [] (omega (arith, same)))
          ∙ get_or-replicate (length graph) d.block [] [] block;
    })
