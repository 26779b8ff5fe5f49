-- Walks over the names of types are walks over their places.
use Rattle.std.proofs.Common.{◌≡◌, ◌⊎◌, inl, inr, ℕ, zero, suc, ◌+◌, ◌<◌, ◌≤◌, Bool, true, false, Option, Some, None, option_map, List, [], ◌∷◌, ◌++◌, length, map, take, refl, sym, ◌∙◌, ap, subst, arith}
use Rattle.std.specs.Prelude.{slice_get, slice_index_or, option_to_list, bytes_eq}
use Rattle.std.specs.List.{Contains, IsDistinct}
use Rattle.std.proofs.lemmas.Bool.{cases_lt}
use Rattle.std.proofs.lemmas.List.{get_or_past, length-map, take_more}
use Rattle.std.proofs.lemmas.List.Elements.{Contains-append_left, Contains-append_right, Contains-append_cases}
use Rattle.std.proofs.lemmas.Option.{slice_get-map}
use Rattle.ir_ast.specs.Program.{TypeView}
use Rattle.ir_ast.specs.ProgramView.{view_entries}
use Rattle.ir_ast.specs.Table.{names_of, place_of}
use Rattle.hk_graph.specs.Walks.{Walks, Leads, IsOnCycle, HasEdge, AreWithin, targets_of}
use Rattle.hk_graph.specs.Sorted.{IsAnswer, IsOrder, flag_of}
use Rattle.ir_type.specs.Names.{names_in}
use Rattle.ir_type.specs.Whole.{Types}
use Rattle.ir_type.specs.Cycles.{entry_names, Spells, places_of, places_in, graph_of, name_at, SaysCyclic}
use Rattle.ir_type.proofs.Places.{StandsAt, at_place, no_place, place_there, place_below, get_below, some_same}

exists_at : {A : Type 0} (xs : List A) (k : ℕ) → k < length xs → (a : A) × (slice_get xs k ≡ Some a)
exists_at [] k l = absurd (omega (arith, l))
exists_at (x ∷ xs) zero l = (x, refl)
exists_at (x ∷ xs) (suc k) l = exists_at xs k (omega (arith, l))

mapped_at : {A B : Type 0} (f : A → B) (xs : List A) (k : ℕ) (d : B) (a : A) → slice_get xs k ≡ Some a → slice_index_or (map f xs) k d ≡ f a
mapped_at f [] k d a e = absurd cc
mapped_at f (x ∷ xs) zero d a e = ap f (some_same x a e)
mapped_at f (x ∷ xs) (suc k) d a e = mapped_at f xs k d a e

in_option : (o : Option ℕ) (q : ℕ) → Contains (option_to_list o) q → o ≡ Some q
in_option None q (k, l, e) = absurd (omega (arith, l))
in_option (Some p) q (zero, l, e) = ap Some e
in_option (Some p) q (suc k, l, e) = absurd (omega (arith, l))

module _ (types : Types) where
  in_places : (names : List (List ℕ)) (q : ℕ) → Contains (places_of types names) q → (x : List ℕ) × Contains names x × (place_of x types ≡ Some q)
  in_places [] q (k, l, e) = absurd (omega (arith, l))
  in_places (x ∷ names) q c = pick (λ d. in_places names q d) (Contains-append_cases (option_to_list (place_of x types)) (places_of types names) q c)
    where
      pick : (Contains (places_of types names) q → (y : List ℕ) × Contains names y × (place_of y types ≡ Some q))
          → Contains (option_to_list (place_of x types)) q ⊎ Contains (places_of types names) q → (y : List ℕ) × Contains (x ∷ names) y × (place_of y types ≡ Some q)
      pick rest (inl d) = (x, (0, omega arith, refl), in_option (place_of x types) q d)
      pick rest (inr d) = let r = rest d in (r.0, Contains-append_right (x ∷ []) names r.0 r.1, r.2)

  to_places : (names : List (List ℕ)) (x : List ℕ) (q : ℕ) → Contains names x → place_of x types ≡ Some q → Contains (places_of types names) q
  to_places [] x q (k, l, e) p = absurd (omega (arith, l))
  to_places (y ∷ names) x q (zero, l, e) p =
      Contains-append_left (option_to_list (place_of y types)) (places_of types names) q
      (subst (λ o. Contains (option_to_list o) q) (sym (ap (λ z. place_of z types) e ∙ p)) (0, omega arith, refl))
  to_places (y ∷ names) x q (suc k, l, e) p =
      Contains-append_right (option_to_list (place_of y types)) (places_of types names) q (to_places names x q (k, omega (arith, l), e) p)

  pub within : AreWithin (graph_of types)
  within a b c = pick (cases_lt a (length (graph_of types)))
    where
      pick : (a < length (graph_of types)) ⊎ (length (graph_of types) ≤ a) → b < length (graph_of types)
      pick (inr l) = none (subst (λ ts. Contains ts b) (get_or_past (graph_of types) a [] l) c)
        where
          none : Contains [] b → b < length (graph_of types)
          none (k, m, e) = absurd (omega (arith, m))
      pick (inl l) =
          let at = exists_at types a (subst (λ n. a < n) (length-map types (λ e. places_in types e.1.over)) l) in
          let own = subst (λ ts. Contains ts b) (mapped_at (λ e. places_in types e.1.over) types a [] at.0 at.1) c in
          let x = in_places (names_in at.0.1.over) b own in
          subst (λ n. b < n) (sym (length-map types (λ e. places_in types e.1.over))) (place_below types x.0 b x.2)

  module _ (distinct : IsDistinct bytes_eq (names_of types)) where
    -- the entry at a place, under its name
    pub entry_at : (p : ℕ) → p < length types → (e : TypeView) × StandsAt types p (name_at types p) e × (place_of (name_at types p) types ≡ Some p)
    entry_at p l = whole (exists_at types p l)
      where
        whole : (a : List ℕ × TypeView) × (slice_get types p ≡ Some a) → (e : TypeView) × StandsAt types p (name_at types p) e × (place_of (name_at types p) types ≡ Some p)
        whole ((x, e), there) =
            let is : name_at types p ≡ x = mapped_at (λ entry. entry.0) types p [] (x, e) there in
            let place : place_of x types ≡ Some p = place_there types x e p distinct there in
            let stands = at_place types x p place in
            (stands.0, subst (λ y. StandsAt types p y stands.0) (sym is) stands.1, ap (λ y. place_of y types) is ∙ place)

    targets_at : (p : ℕ) (e : TypeView) → slice_get types p ≡ Some (name_at types p, e) → targets_of (graph_of types) p ≡ places_in types e.over
    targets_at p e there = mapped_at (λ e. places_in types e.1.over) types p [] (name_at types p, e) there

    pub name_of_place : (x : List ℕ) (q : ℕ) → place_of x types ≡ Some q → name_at types q ≡ x
    name_of_place x q h = let s = at_place types x q h in mapped_at (λ entry. entry.0) types q [] (x, s.0) s.1.there

    pub edge_spells : (p q : ℕ) → p < length types → HasEdge (graph_of types) p q → Spells types (name_at types p) (name_at types q) × (q < length types)
    edge_spells p q l c =
        let at = entry_at p l in
        let own = subst (λ ts. Contains ts q) (targets_at p at.0 at.1.there) c in
        let x = in_places (names_in at.0.over) q own in
        let spelled : Contains (names_in at.0.over) (name_at types q) = subst (λ y. Contains (names_in at.0.over) y) (sym (name_of_place x.0 q x.2)) x.1 in
        (subst (λ o. Contains (entry_names o) (name_at types q)) (sym at.1.found) spelled, place_below types x.0 q x.2)

    pub spells_edge : (p q : ℕ) (y : List ℕ) → p < length types → Spells types (name_at types p) y → place_of y types ≡ Some q → HasEdge (graph_of types) p q
    spells_edge p q y l s h =
        let at = entry_at p l in
        let spelled : Contains (names_in at.0.over) y = subst (λ o. Contains (entry_names o) y) at.1.found s in
        subst (λ ts. Contains ts q) (sym (targets_at p at.0 at.1.there)) (to_places (names_in at.0.over) y q spelled h)

    walk_names : (left : List ℕ) (p q : ℕ) → p < length types → Walks (HasEdge (graph_of types)) p left q → Walks (Spells types) (name_at types p) (map (name_at types) left) (name_at types q)
    walk_names [] p q l e = ap (name_at types) e
    walk_names (x ∷ left) p q l (e, y, r, w) =
        let step = edge_spells p y l (subst (λ z. HasEdge (graph_of types) z y) (sym e) r) in
        (ap (name_at types) e, name_at types y, subst (λ z. Spells types (name_at types z) (name_at types y)) e step.0, walk_names left y q step.1 w)

    pub cycle_names : (p : ℕ) → p < length types → IsOnCycle (HasEdge (graph_of types)) p → IsOnCycle (Spells types) (name_at types p)
    cycle_names p l (q, r, (left, w)) =
        let step = edge_spells p q l r in
        (name_at types q, step.0, (map (name_at types) left, walk_names left q p step.1 w))

    known : (y z : List ℕ) → Spells types y z → (w : ℕ) × (place_of y types ≡ Some w)
    known y z s = pick (place_of y types) refl
      where
        none : Contains (entry_names None) z → (w : ℕ) × (place_of y types ≡ Some w)
        none (k, l, e) = absurd (omega (arith, l))

        pick : (o : Option ℕ) → place_of y types ≡ o → (w : ℕ) × (place_of y types ≡ Some w)
        pick None e = none (subst (λ o. Contains (entry_names o) z) (no_place types y e) s)
        pick (Some w) e = (w, e)

    walk_places : (left : List (List ℕ)) (y x : List ℕ) (v : ℕ) → place_of x types ≡ Some v → Walks (Spells types) y left x → (w : ℕ) × (place_of y types ≡ Some w) × Leads (HasEdge (graph_of types)) w v
    walk_places [] y x v h e = (v, ap (λ z. place_of z types) e ∙ h, ([], refl))
    walk_places (z ∷ left) y x v h (e, u, s, w) =
        let rest = walk_places left u x v h w in
        let own = known z u s in
        let place : place_of y types ≡ Some own.0 = ap (λ t. place_of t types) e ∙ own.1 in
        let named : name_at types own.0 ≡ z = name_of_place z own.0 own.1 in
        let edge = spells_edge own.0 rest.0 u (place_below types z own.0 own.1) (subst (λ t. Spells types t u) (sym named) s) rest.1 in
        (own.0, place, (own.0 ∷ rest.2.0, (refl, rest.0, edge, rest.2.1)))

    pub cycle_places : (p : ℕ) → p < length types → IsOnCycle (Spells types) (name_at types p) → IsOnCycle (HasEdge (graph_of types)) p
    cycle_places p l (y, s, (left, w)) =
        let rest = walk_places left y (name_at types p) p (entry_at p l).2 w in
        (rest.0, spells_edge p rest.0 y l s rest.1, rest.2)

    pub says : (flag : Bool) (p : ℕ) → p < length types → IsAnswer (graph_of types) flag p → SaysCyclic types flag p
    says true p l h = cycle_names p l h
    says false p l h = λ c. h (cycle_places p l c)

-- the graph of one more type
viewed : {E V : Type 0} (view : E → V) (o : Option (List ℕ × E)) (e : E) → option_map (λ entry. entry.1) o ≡ Some e
    → (x : List ℕ) × (option_map {T = List ℕ × E} {U = List ℕ × V} (λ entry. (entry.0, view entry.1)) o ≡ Some (x, view e))
viewed view None e there = absurd cc
viewed view (Some entry) e there = (entry.0, ap (λ f. Some (entry.0, view f)) (some_same entry.1 e there))

pub entry_viewed : {E V : Type 0} (view : E → V) (table : List (List ℕ × E)) (place : ℕ) (e : E) → option_map (λ entry. entry.1) (slice_get table place) ≡ Some e
    → (x : List ℕ) × (slice_get (view_entries view table) place ≡ Some (x, view e))
entry_viewed {E} {V} view table place e there =
    let v = viewed view (slice_get table place) e there in
    (v.0, slice_get-map (λ entry. (entry.0, view entry.1)) table place ∙ v.1)

pub graph_more : (types : Types) (place : ℕ) (x : List ℕ) (e : TypeView) (places : List ℕ) (graph more : List (List ℕ)) → slice_get types place ≡ Some (x, e) → places ≡ places_in types e.over
    → graph ≡ take place (graph_of types) → more ≡ graph ++ places ∷ [] → more ≡ take (place + 1) (graph_of types)
graph_more types place x e places graph more there is so_far added =
    let inside : place < length (graph_of types) = subst (λ n. place < n) (sym (length-map types (λ e. places_in types e.1.over))) (get_below types place (x, e) there) in
    let own : places ≡ slice_index_or (graph_of types) place [] = is ∙ sym (mapped_at (λ e. places_in types e.1.over) types place [] (x, e) there) in
    added ∙ ap (λ g. g ++ places ∷ []) so_far ∙ ap (λ p. take place (graph_of types) ++ p ∷ []) own ∙ sym (take_more (graph_of types) place [] inside)

pub order_says : (types : Types) → IsDistinct bytes_eq (names_of types) → (graph : List (List ℕ)) (nodes : List ℕ) (cyclic : List Bool) → graph ≡ graph_of types → IsOrder graph nodes cyclic
    → (p : ℕ) → p < length types → SaysCyclic types (flag_of cyclic p) p
order_says types distinct graph nodes cyclic is h p l =
    let n : p < length graph = subst (λ n. p < n) (sym (ap length is ∙ length-map types (λ e. places_in types e.1.over))) l in
    says types distinct (flag_of cyclic p) p l (subst (λ g. IsAnswer g (flag_of cyclic p) p) is (h.answers p n))
