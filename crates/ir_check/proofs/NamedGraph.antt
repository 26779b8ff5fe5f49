-- Walks over the names of entries are walks over their places.
use Rattle.std.proofs.Common.{◌≡◌, ◌⊎◌, inl, inr, ℕ, zero, suc, ◌+◌, ◌<◌, ◌≤◌, Option, Some, None, List, [], ◌∷◌, ◌++◌, length, map, take, refl, sym, ◌∙◌, ap, subst, arith}
use Rattle.std.specs.Prelude.{slice_get, slice_index_or, option_to_list, bytes_eq}
use Rattle.std.specs.List.{Contains, IsDistinct}
use Rattle.std.proofs.lemmas.Bool.{cases_lt}
use Rattle.std.proofs.lemmas.List.{get_or_past, length-map, take_more}
use Rattle.std.proofs.lemmas.List.Elements.{Contains-append_left, Contains-append_right, Contains-append_cases}
use Rattle.ir_ast.specs.Table.{names_of, place_of}
use Rattle.hk_graph.specs.Walks.{Walks, IsOnCycle, HasEdge, AreWithin, targets_of}
use Rattle.ir_type.specs.Cycles.{places_of}
use Rattle.ir_type.proofs.Places.{StandsAt, at_place, no_place, place_there, place_below, get_below, some_same}
use Rattle.ir_check.specs.Graphs.{next_names, NameLeads, graph_by, name_of_entry}

pub exists_at : {A : Type 0} (xs : List A) (k : ℕ) → k < length xs → (a : A) × (slice_get xs k ≡ Some a)
exists_at [] k l = absurd (omega (arith, l))
exists_at (x ∷ xs) zero l = (x, refl)
exists_at (x ∷ xs) (suc k) l = exists_at xs k (omega (arith, l))

pub mapped_at : {A B : Type 0} (f : A → B) (xs : List A) (k : ℕ) (d : B) (a : A) → slice_get xs k ≡ Some a → slice_index_or (map f xs) k d ≡ f a
mapped_at f [] k d a e = absurd cc
mapped_at f (x ∷ xs) zero d a e = ap f (some_same x a e)
mapped_at f (x ∷ xs) (suc k) d a e = mapped_at f xs k d a e

in_option : (o : Option ℕ) (q : ℕ) → Contains (option_to_list o) q → o ≡ Some q
in_option None q (k, l, e) = absurd (omega (arith, l))
in_option (Some p) q (zero, l, e) = ap Some e
in_option (Some p) q (suc k, l, e) = absurd (omega (arith, l))

module _ {E : Type 0} (entries : List (List ℕ × E)) where
  pub in_places : (names : List (List ℕ)) (q : ℕ) → Contains (places_of entries names) q → (x : List ℕ) × Contains names x × (place_of x entries ≡ Some q)
  in_places [] q (k, l, e) = absurd (omega (arith, l))
  in_places (x ∷ names) q c = pick (λ d. in_places names q d) (Contains-append_cases (option_to_list (place_of x entries)) (places_of entries names) q c)
    where
      pick : (Contains (places_of entries names) q → (y : List ℕ) × Contains names y × (place_of y entries ≡ Some q))
          → Contains (option_to_list (place_of x entries)) q ⊎ Contains (places_of entries names) q → (y : List ℕ) × Contains (x ∷ names) y × (place_of y entries ≡ Some q)
      pick rest (inl d) = (x, (0, omega arith, refl), in_option (place_of x entries) q d)
      pick rest (inr d) = let r = rest d in (r.0, Contains-append_right (x ∷ []) names r.0 r.1, r.2)

  pub to_places : (names : List (List ℕ)) (x : List ℕ) (q : ℕ) → Contains names x → place_of x entries ≡ Some q → Contains (places_of entries names) q
  to_places [] x q (k, l, e) p = absurd (omega (arith, l))
  to_places (y ∷ names) x q (zero, l, e) p =
      Contains-append_left (option_to_list (place_of y entries)) (places_of entries names) q
      (subst (λ o. Contains (option_to_list o) q) (sym (ap (λ z. place_of z entries) e ∙ p)) (0, omega arith, refl))
  to_places (y ∷ names) x q (suc k, l, e) p =
      Contains-append_right (option_to_list (place_of y entries)) (places_of entries names) q (to_places names x q (k, omega (arith, l), e) p)

module _ {E : Type 0} (next : E → List (List ℕ)) (entries : List (List ℕ × E)) where
  pub graph_length : length (graph_by next entries) ≡ length entries
  graph_length = length-map entries (λ e. places_of entries (next e.1))

  pub within : AreWithin (graph_by next entries)
  within a b c = pick (cases_lt a (length (graph_by next entries)))
    where
      pick : (a < length (graph_by next entries)) ⊎ (length (graph_by next entries) ≤ a) → b < length (graph_by next entries)
      pick (inr l) = none (subst (λ ts. Contains ts b) (get_or_past (graph_by next entries) a [] l) c)
        where
          none : Contains [] b → b < length (graph_by next entries)
          none (k, m, e) = absurd (omega (arith, m))
      pick (inl l) =
          let at = exists_at entries a (subst (λ n. a < n) graph_length l) in
          let own = subst (λ ts. Contains ts b) (mapped_at (λ e. places_of entries (next e.1)) entries a [] at.0 at.1) c in
          let x = in_places entries (next at.0.1) b own in
          subst (λ n. b < n) (sym graph_length) (place_below entries x.0 b x.2)

  module _ (distinct : IsDistinct bytes_eq (names_of entries)) where
    -- the entry at a place, under its name
    pub entry_at : (p : ℕ) → p < length entries → (e : E) × StandsAt entries p (name_of_entry entries p) e × (place_of (name_of_entry entries p) entries ≡ Some p)
    entry_at p l = whole (exists_at entries p l)
      where
        whole : (a : List ℕ × E) × (slice_get entries p ≡ Some a) → (e : E) × StandsAt entries p (name_of_entry entries p) e × (place_of (name_of_entry entries p) entries ≡ Some p)
        whole ((x, e), there) =
            let is : name_of_entry entries p ≡ x = mapped_at (λ entry. entry.0) entries p [] (x, e) there in
            let place : place_of x entries ≡ Some p = place_there entries x e p distinct there in
            let stands = at_place entries x p place in
            (stands.0, subst (λ y. StandsAt entries p y stands.0) (sym is) stands.1, ap (λ y. place_of y entries) is ∙ place)

    pub targets_at : (p : ℕ) (x : List ℕ) (e : E) → slice_get entries p ≡ Some (x, e) → targets_of (graph_by next entries) p ≡ places_of entries (next e)
    targets_at p x e there = mapped_at (λ e. places_of entries (next e.1)) entries p [] (x, e) there

    pub name_of_place : (x : List ℕ) (q : ℕ) → place_of x entries ≡ Some q → name_of_entry entries q ≡ x
    name_of_place x q h = let s = at_place entries x q h in mapped_at (λ entry. entry.0) entries q [] (x, s.0) s.1.there

    pub edge_leads : (p q : ℕ) → p < length entries → HasEdge (graph_by next entries) p q
        → NameLeads next entries (name_of_entry entries p) (name_of_entry entries q) × (q < length entries)
    edge_leads p q l c =
        let at = entry_at p l in
        let own = subst (λ ts. Contains ts q) (targets_at p (name_of_entry entries p) at.0 at.1.there) c in
        let x = in_places entries (next at.0) q own in
        let spelled : Contains (next at.0) (name_of_entry entries q) = subst (λ y. Contains (next at.0) y) (sym (name_of_place x.0 q x.2)) x.1 in
        (subst (λ o. Contains (next_names next o) (name_of_entry entries q)) (sym at.1.found) spelled, place_below entries x.0 q x.2)

    pub leads_edge : (p q : ℕ) (y : List ℕ) → p < length entries → NameLeads next entries (name_of_entry entries p) y → place_of y entries ≡ Some q → HasEdge (graph_by next entries) p q
    leads_edge p q y l s h =
        let at = entry_at p l in
        let spelled : Contains (next at.0) y = subst (λ o. Contains (next_names next o) y) at.1.found s in
        subst (λ ts. Contains ts q) (sym (targets_at p (name_of_entry entries p) at.0 at.1.there)) (to_places entries (next at.0) y q spelled h)

    pub walk_names : (left : List ℕ) (p q : ℕ) → p < length entries → Walks (HasEdge (graph_by next entries)) p left q
        → Walks (NameLeads next entries) (name_of_entry entries p) (map (name_of_entry entries) left) (name_of_entry entries q)
    walk_names [] p q l e = ap (name_of_entry entries) e
    walk_names (x ∷ left) p q l (e, y, r, w) =
        let step = edge_leads p y l (subst (λ z. HasEdge (graph_by next entries) z y) (sym e) r) in
        (ap (name_of_entry entries) e, name_of_entry entries y, subst (λ z. NameLeads next entries (name_of_entry entries z) (name_of_entry entries y)) e step.0, walk_names left y q step.1 w)

    pub cycle_names : (p : ℕ) → p < length entries → IsOnCycle (HasEdge (graph_by next entries)) p → IsOnCycle (NameLeads next entries) (name_of_entry entries p)
    cycle_names p l (q, r, (left, w)) =
        let step = edge_leads p q l r in
        (name_of_entry entries q, step.0, (map (name_of_entry entries) left, walk_names left q p step.1 w))

    pub known : (y z : List ℕ) → NameLeads next entries y z → (w : ℕ) × (place_of y entries ≡ Some w)
    known y z s = pick (place_of y entries) refl
      where
        none : Contains (next_names next None) z → (w : ℕ) × (place_of y entries ≡ Some w)
        none (k, l, e) = absurd (omega (arith, l))

        pick : (o : Option ℕ) → place_of y entries ≡ o → (w : ℕ) × (place_of y entries ≡ Some w)
        pick None e = none (subst (λ o. Contains (next_names next o) z) (no_place entries y e) s)
        pick (Some w) e = (w, e)

    -- a walk over names from a name to one that has a place is a walk over places, of the same length and through the same names
    pub walk_places : (left : List (List ℕ)) (y x : List ℕ) (v : ℕ) → place_of x entries ≡ Some v → Walks (NameLeads next entries) y left x
        → (w : ℕ) × (place_of y entries ≡ Some w) × (places : List ℕ) × Walks (HasEdge (graph_by next entries)) w places v × (map (name_of_entry entries) places ≡ left)
    walk_places [] y x v h e = (v, ap (λ z. place_of z entries) e ∙ h, [], refl, refl)
    walk_places (z ∷ left) y x v h (e, u, s, w) =
        let rest = walk_places left u x v h w in
        let own = known z u s in
        let place : place_of y entries ≡ Some own.0 = ap (λ t. place_of t entries) e ∙ own.1 in
        let named : name_of_entry entries own.0 ≡ z = name_of_place z own.0 own.1 in
        let edge = leads_edge own.0 rest.0 u (place_below entries z own.0 own.1) (subst (λ t. NameLeads next entries t u) (sym named) s) rest.1 in
        (own.0, place, own.0 ∷ rest.2, (refl, rest.0, edge, rest.3), ap (λ n. n ∷ map (name_of_entry entries) rest.2) named ∙ ap (λ ns. z ∷ ns) rest.4)

    pub cycle_places : (p : ℕ) → p < length entries → IsOnCycle (NameLeads next entries) (name_of_entry entries p) → IsOnCycle (HasEdge (graph_by next entries)) p
    cycle_places p l (y, s, (left, w)) =
        let rest = walk_places left y (name_of_entry entries p) p (entry_at p l).2 w in
        (rest.0, leads_edge p rest.0 y l s rest.1, (rest.2, rest.3))

    -- the same for a cycle of names in any place
    pub any_cycle : (x : List ℕ) → IsOnCycle (NameLeads next entries) x → (p : ℕ) × (p < length entries) × IsOnCycle (HasEdge (graph_by next entries)) p
    any_cycle x (y, s, lead) =
        let own = known x y s in
        let below = place_below entries x own.0 own.1 in
        (own.0, below, cycle_places own.0 below (subst (IsOnCycle (NameLeads next entries)) (sym (name_of_place x own.0 own.1)) (y, s, lead)))

-- the graph of one more entry
pub graph_more : {E : Type 0} (next : E → List (List ℕ)) (entries : List (List ℕ × E)) (place : ℕ) (x : List ℕ) (e : E) (places : List ℕ) (graph more : List (List ℕ))
    → slice_get entries place ≡ Some (x, e) → places ≡ places_of entries (next e) → graph ≡ take place (graph_by next entries)
    → more ≡ graph ++ places ∷ [] → more ≡ take (place + 1) (graph_by next entries)
graph_more next entries place x e places graph more there is so_far added =
    let inside : place < length (graph_by next entries) = subst (λ n. place < n) (sym (graph_length next entries)) (get_below entries place (x, e) there) in
    let own : places ≡ slice_index_or (graph_by next entries) place [] = is ∙ sym (mapped_at (λ e. places_of entries (next e.1)) entries place [] (x, e) there) in
    added ∙ ap (λ g. g ++ places ∷ []) so_far ∙ ap (λ p. take place (graph_by next entries) ++ p ∷ []) own ∙ sym (take_more (graph_by next entries) place [] inside)
