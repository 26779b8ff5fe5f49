-- What a name stands for does not depend on how deep names within names are followed, from the number of names on.
use Rattle.std.proofs.Common.{◌≡◌, ◌⊎◌, inl, inr, ℕ, zero, suc, ◌+◌, ◌-◌, ◌<◌, ◌≤◌, Bool, true, false, eqb, Option, Some, None, option_map, List, [], ◌∷◌, length, take, refl, sym, ◌∙◌, ap, subst, arith}
use Rattle.std.specs.Prelude.{slice_index, bytes_eq}
use Rattle.std.specs.List.{Contains, IsDistinct}
use Rattle.std.proofs.lemmas.Bool.{eqb-true}
use Rattle.std.proofs.lemmas.List.{length-map, length-take, get_or-take, get_or_default}
use Rattle.std.proofs.lemmas.List.Elements.{Contains-append_left, Contains-append_right, Contains-append_cases, All-contains}
use Rattle.std.proofs.lemmas.Bool.Decides.{Decides-eqb}
use Rattle.std.proofs.lemmas.Map.Made.{IsDistinct-from_AllPairs}
use Rattle.std.proofs.lemmas.Map.Steps.{length-le_from_distinct_below}
use Rattle.std.proofs.lemmas.Map.Views.{Contains-from_any}
use Rattle.hk_graph.proofs.Joining.{leads_on, leads_by}
use Rattle.ir_ast.specs.Plain.{Ty, Tys, nothing, integer, pointer, array, structure, packed, named, opaque, no_types, type_and}
use Rattle.ir_ast.specs.Program.{TypeView}
use Rattle.ir_ast.specs.Table.{names_of, place_of}
use Rattle.hk_graph.specs.Walks.{Leads, IsOnCycle}
use Rattle.hk_graph.specs.Sorted.{IsOrder, flag_of}
use Rattle.ir_type.specs.Names.{entry_of, names_in, all_names_in}
use Rattle.ir_type.specs.Whole.{Types, with_part, whole_by, wholes_by, whole_entry, stands_for, whole}
use Rattle.ir_type.specs.Cycles.{entry_names, Spells, places_in, graph_of, name_at, SaysCyclic}
use Rattle.ir_type.proofs.Places.{StandsAt, no_place, place_below}
use Rattle.ir_type.proofs.NameWalks.{entry_at, spells_edge, name_of_place}

pub map_some : {A B : Type 0} (f : A → B) (o : Option A) (b : B) → option_map f o ≡ Some b → (a : A) × (o ≡ Some a) × (f a ≡ b)
map_some f None b e = absurd cc
map_some f (Some a) b e = (a, refl, cc)

pub part_some : (t : Option Ty) (ts : Option Tys) (us : Tys) → with_part t ts ≡ Some us → (a : Ty) × (b : Tys) × (t ≡ Some a) × (ts ≡ Some b) × (type_and a b ≡ us)
part_some None ts us e = absurd cc
part_some (Some t) None us e = absurd cc
part_some (Some t) (Some ts) us e = (t, ts, refl, refl, cc)

module _ (s more : List ℕ → Option Ty) where
  mapped : {A B : Type 0} (f : A → B) (o p : Option A) (b : B) → ((a : A) → o ≡ Some a → p ≡ Some a) → option_map f o ≡ Some b → option_map f p ≡ Some b
  mapped f o p b all e =
      let found = map_some f o b e in
      ap (λ x. option_map f x) (all found.0 found.1) ∙ ap Some found.2

  parted : (t t2 : Option Ty) (ts ts2 : Option Tys) (us : Tys) → ((a : Ty) → t ≡ Some a → t2 ≡ Some a) → ((b : Tys) → ts ≡ Some b → ts2 ≡ Some b)
      → with_part t ts ≡ Some us → with_part t2 ts2 ≡ Some us
  parted t t2 ts ts2 us first rest e =
      let found = part_some t ts us e in
      ap (λ x. with_part x ts2) (first found.0 found.2) ∙ ap (λ x. with_part (Some found.0) x) (rest found.1 found.3) ∙ ap Some found.4

  -- where the names of a type stand for as much, it does
  mutual
    pub grows_type : (t : Ty) → ((x : List ℕ) → Contains (names_in t) x → (u : Ty) → s x ≡ Some u → more x ≡ Some u) → (u : Ty) → whole_by s t ≡ Some u → whole_by more t ≡ Some u
    grows_type nothing g u e = e
    grows_type (integer w) g u e = e
    grows_type pointer g u e = e
    grows_type (array n t) g u e = mapped (array n) (whole_by s t) (whole_by more t) u (λ a h. grows_type t g a h) e
    grows_type (structure ts) g u e = mapped structure (wholes_by s ts) (wholes_by more ts) u (λ a h. grows_types ts g a h) e
    grows_type (packed ts) g u e = mapped packed (wholes_by s ts) (wholes_by more ts) u (λ a h. grows_types ts g a h) e
    grows_type (named x) g u e = g x (0, omega arith, refl) u e
    grows_type opaque g u e = e

    pub grows_types : (ts : Tys) → ((x : List ℕ) → Contains (all_names_in ts) x → (u : Ty) → s x ≡ Some u → more x ≡ Some u) → (us : Tys) → wholes_by s ts ≡ Some us → wholes_by more ts ≡ Some us
    grows_types no_types g us e = e
    grows_types (type_and t ts) g us e =
        parted (whole_by s t) (whole_by more t) (wholes_by s ts) (wholes_by more ts) us
        (λ a h. grows_type t (λ x c. g x (Contains-append_left (names_in t) (all_names_in ts) x c)) a h)
        (λ a h. grows_types ts (λ x c. g x (Contains-append_right (names_in t) (all_names_in ts) x c)) a h) e

module _ (types : Types) where
  -- a greater depth sees no less
  pub deeper : (k : ℕ) (x : List ℕ) (u : Ty) → stands_for k types x ≡ Some u → stands_for (suc k) types x ≡ Some u
  deeper zero x u e = absurd cc
  deeper (suc k) x u e = entry (entry_of x types) (λ y v h. deeper k y v h) e
    where
      entry : (o : Option TypeView) → ((y : List ℕ) (v : Ty) → stands_for k types y ≡ Some v → stands_for (suc k) types y ≡ Some v)
          → whole_entry (whole_by (stands_for k types)) o ≡ Some u → whole_entry (whole_by (stands_for (suc k) types)) o ≡ Some u
      entry None rest h = absurd cc
      entry (Some e) rest h = grows_type (stands_for k types) (stands_for (suc k) types) e.over (λ y c v g. rest y v g) u h

  pub deeper_by : (more k : ℕ) (x : List ℕ) (u : Ty) → stands_for k types x ≡ Some u → stands_for (more + k) types x ≡ Some u
  deeper_by zero k x u e = subst (λ n. stands_for n types x ≡ Some u) (let z : k ≡ 0 + k = omega arith in z) e
  deeper_by (suc more) k x u e =
      subst (λ n. stands_for n types x ≡ Some u) (let z : suc (more + k) ≡ suc more + k = omega arith in z) (deeper (more + k) x u (deeper_by more k x u e))

  pub deeper_to : (k n : ℕ) (x : List ℕ) (u : Ty) → k ≤ n → stands_for k types x ≡ Some u → stands_for n types x ≡ Some u
  deeper_to k n x u l e = subst (λ m. stands_for m types x ≡ Some u) (let z : n - k + k ≡ n = omega (arith, l) in z) (deeper_by (n - k) k x u e)

  -- a name that stands for nothing within a type leaves it without one
  module _ (s : List ℕ → Option Ty) (y : List ℕ) (none : s y ≡ None) where
    part_none : (t : Option Ty) (ts : Option Tys) → ts ≡ None → with_part t ts ≡ None
    part_none None ts e = refl
    part_none (Some t) ts e = ap (λ x. with_part (Some t) x) e

    mutual
      pub none_within : (t : Ty) → Contains (names_in t) y → whole_by s t ≡ None
      none_within nothing (k, l, e) = absurd (omega (arith, l))
      none_within (integer w) (k, l, e) = absurd (omega (arith, l))
      none_within pointer (k, l, e) = absurd (omega (arith, l))
      none_within (array n t) c = ap (option_map (array n)) (none_within t c)
      none_within (structure ts) c = ap (option_map structure) (none_among ts c)
      none_within (packed ts) c = ap (option_map packed) (none_among ts c)
      none_within (named x) (zero, l, e) = ap s e ∙ none
      none_within (named x) (suc k, l, e) = absurd (omega (arith, l))
      none_within opaque c = refl

      pub none_among : (ts : Tys) → Contains (all_names_in ts) y → wholes_by s ts ≡ None
      none_among no_types (k, l, e) = absurd (omega (arith, l))
      none_among (type_and t ts) c = pick (λ d. none_within t d) (λ d. none_among ts d) (Contains-append_cases (names_in t) (all_names_in ts) y c)
        where
          pick : (Contains (names_in t) y → whole_by s t ≡ None) → (Contains (all_names_in ts) y → wholes_by s ts ≡ None)
              → Contains (names_in t) y ⊎ Contains (all_names_in ts) y → with_part (whole_by s t) (wholes_by s ts) ≡ None
          pick first rest (inl d) = ap (λ x. with_part x (wholes_by s ts)) (first d)
          pick first rest (inr d) = part_none (whole_by s t) (wholes_by s ts) (rest d)

  -- the next name on a cycle is on it too
  turned : (x y : List ℕ) → Spells types x y → Leads (Spells types) y x → IsOnCycle (Spells types) y
  turned x y s ([], e) = (y, subst (λ z. Spells types z y) (sym e) s, ([], refl))
  turned x y s (z ∷ left, (e, u, r, w)) =
      (u, subst (λ z. Spells types z u) (sym e) r, leads_on (Spells types) u x y (left, w) (leads_by (Spells types) x y s))

  pub cycle_stands : (d : ℕ) (x : List ℕ) → IsOnCycle (Spells types) x → stands_for d types x ≡ None
  cycle_stands zero x c = refl
  cycle_stands (suc d) x (y, s, l) = entry (entry_of x types) s (cycle_stands d y (turned x y s l))
    where
      entry : (o : Option TypeView) → Contains (entry_names o) y → stands_for d types y ≡ None → whole_entry (whole_by (stands_for d types)) o ≡ None
      entry None c n = refl
      entry (Some e) c n = none_within (stands_for d types) y n e.over c

  module _ (distinct : IsDistinct bytes_eq (names_of types)) (nodes : List ℕ) (cyclic : List Bool) (order : IsOrder (graph_of types) nodes cyclic)
      (says : (p : ℕ) → p < length types → SaysCyclic types (flag_of cyclic p) p) where
    size_is : length (graph_of types) ≡ length types
    size_is = length-map types (λ e. places_in types e.1.over)

    node_below : (k : ℕ) → k < length nodes → slice_index nodes k < length types
    node_below k l = subst (λ n. slice_index nodes k < n) size_is (order.within k 0 l)

    -- what stands at a place of the order stands for a type at the depth of that place
    settles : (bound k : ℕ) → k < bound → k < length nodes → (d : ℕ) (u : Ty) → stands_for d types (name_at types (slice_index nodes k)) ≡ Some u
        → stands_for (suc k) types (name_at types (slice_index nodes k)) ≡ Some u
    settles zero k b l d u e = absurd (omega (arith, b))
    settles (suc bound) k b l zero u e = absurd (clash e)
      where
        clash : None ≡ Some u → ⊥
        clash e = cc
    settles (suc bound) k b l (suc d) u e = pick (flag_of cyclic (slice_index nodes k)) refl (λ j m n c v h. settles bound j m n c v h)
      where
        clash : None ≡ Some u → ⊥
        clash e = cc

        pick : (flag : Bool) → flag_of cyclic (slice_index nodes k) ≡ flag
            → ((j : ℕ) → j < bound → j < length nodes → (c : ℕ) (v : Ty) → stands_for c types (name_at types (slice_index nodes j)) ≡ Some v → stands_for (suc j) types (name_at types (slice_index nodes j)) ≡ Some v)
            → stands_for (suc k) types (name_at types (slice_index nodes k)) ≡ Some u
        pick true f rest =
            let cycle = subst (λ g. SaysCyclic types g (slice_index nodes k)) f (says (slice_index nodes k) (node_below k l)) in
            absurd (clash (sym (cycle_stands (suc d) (name_at types (slice_index nodes k)) cycle) ∙ e))
        pick false f rest = entry
          where
            at : (e : TypeView) × StandsAt types (slice_index nodes k) (name_at types (slice_index nodes k)) e × (place_of (name_at types (slice_index nodes k)) types ≡ Some (slice_index nodes k))
            at = entry_at types distinct (slice_index nodes k) (node_below k l)

            opened : (n : ℕ) → stands_for (suc n) types (name_at types (slice_index nodes k)) ≡ whole_by (stands_for n types) at.0.over
            opened n = ap (whole_entry (whole_by (stands_for n types))) at.1.found

            names : (y : List ℕ) → Contains (names_in at.0.over) y → (v : Ty) → stands_for d types y ≡ Some v → stands_for k types y ≡ Some v
            names y c v h = known (place_of y types) refl
              where
                known : (o : Option ℕ) → place_of y types ≡ o → stands_for k types y ≡ Some v
                known None n = absurd (lost d h)
                  where
                    lost : (d : ℕ) → stands_for d types y ≡ Some v → ⊥
                    lost zero h = cc
                    lost (suc d) h = gone (sym (ap (whole_entry (whole_by (stands_for d types))) (no_place types y n)) ∙ h)
                      where
                        gone : None ≡ Some v → ⊥
                        gone e = cc
                known (Some q) n =
                    let spells : Spells types (name_at types (slice_index nodes k)) y = subst (λ o. Contains (entry_names o) y) (sym at.1.found) c in
                    let edge = spells_edge types distinct (slice_index nodes k) q y (node_below k l) spells n in
                    let before = order.forward k q l f edge in
                    let i = before.0 in
                    let il : i < k = first i before.1 in
                    let inside : i < length nodes = omega (arith, il, l) in
                    let is : slice_index nodes i ≡ q = get_or_default nodes i 0 q inside ∙ sym (get_or-take k nodes i q il) ∙ before.2 in
                    let name : name_at types (slice_index nodes i) ≡ y = ap (name_at types) is ∙ name_of_place types distinct y q n in
                    let rested = rest i (omega (arith, il, b)) inside d v (ap (stands_for d types) name ∙ h) in
                    deeper_to (suc i) k y v (omega (arith, il)) (sym (ap (stands_for (suc i) types) name) ∙ rested)
                  where
                    first : (i : ℕ) → i < length (take k nodes) → i < k
                    first i m = omega (arith, m, length-take k nodes)

            entry : stands_for (suc k) types (name_at types (slice_index nodes k)) ≡ Some u
            entry = opened k ∙ grows_type (stands_for d types) (stands_for k types) at.0.over names u (sym (opened d) ∙ e)

    few : length nodes ≤ length types
    few = subst (λ n. length nodes ≤ n) size_is
        (length-le_from_distinct_below nodes (length (graph_of types)) (IsDistinct-from_AllPairs {eq = eqb} Decides-eqb nodes order.once)
        (λ q e. All-contains (λ v. v < length (graph_of types)) nodes q order.within (Contains-from_any eqb-true q nodes e)))

    -- the depth of the number of names suffices
    pub suffices : (x : List ℕ) (d : ℕ) (u : Ty) → stands_for d types x ≡ Some u → stands_for (length types) types x ≡ Some u
    suffices x zero u e = absurd cc
    suffices x (suc d) u e = known (place_of x types) refl
      where
        known : (o : Option ℕ) → place_of x types ≡ o → stands_for (length types) types x ≡ Some u
        known None n = absurd (gone (sym (ap (whole_entry (whole_by (stands_for d types))) (no_place types x n)) ∙ e))
          where
            gone : None ≡ Some u → ⊥
            gone e = cc
        known (Some q) n =
            let at = order.each q (subst (λ m. q < m) (sym size_is) (place_below types x q n)) in
            let is : slice_index nodes at.0 ≡ q = get_or_default nodes at.0 0 q at.1 ∙ at.2 in
            let name : name_at types (slice_index nodes at.0) ≡ x = ap (name_at types) is ∙ name_of_place types distinct x q n in
            let s = settles (suc at.0) at.0 (omega arith) at.1 (suc d) u (ap (stands_for (suc d) types) name ∙ e) in
            let l : at.0 < length nodes = at.1 in
            deeper_to (suc at.0) (length types) x u (omega (arith, l, few)) (sym (ap (stands_for (suc at.0) types) name) ∙ s)

    -- a name stands for what its type is, seen through its names
    pub opens : (x : List ℕ) (e : TypeView) → entry_of x types ≡ Some e → whole types (named x) ≡ whole types e.over
    opens x e found = pick (stands_for (suc (length types)) types x) refl (stands_for (length types) types x) refl
      where
        next : stands_for (suc (length types)) types x ≡ whole_by (stands_for (length types) types) e.over
        next = ap (whole_entry (whole_by (stands_for (length types) types))) found

        pick : (o : Option Ty) → stands_for (suc (length types)) types x ≡ o → (p : Option Ty) → stands_for (length types) types x ≡ p
            → stands_for (length types) types x ≡ whole_by (stands_for (length types) types) e.over
        pick (Some u) h p g = suffices x (suc (length types)) u h ∙ sym h ∙ next
        pick None h (Some v) g = absurd (gone (sym h ∙ deeper (length types) x v g))
          where
            gone : None ≡ Some v → ⊥
            gone e = cc
        pick None h None g = g ∙ sym h ∙ next
