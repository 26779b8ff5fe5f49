-- The places of what named types stand for, one after another in their order.
use Rattle.std.proofs.Common.{◌≡◌, ◌⊎◌, inl, inr, ℕ, ◌+◌, ◌<◌, Bool, true, false, Option, Some, None, option_map, List, [], ◌∷◌, ◌++◌, length, take, drop, refl, sym, ◌∙◌, ap, subst, arith, length-set, get_or-set_same, get_or-set_other, append_assoc}
use Rattle.std.specs.Prelude.{slice_get, slice_index, slice_index_or, slice_set, bytes_eq, is_some}
use Rattle.std.specs.List.{Contains, IsDistinct}
use Rattle.std.proofs.lemmas.Bool.{cases_order, false≢true}
use Rattle.std.proofs.lemmas.List.{get_or-take, get_or_default, length-take, length-map}
use Rattle.ir_ast.specs.Plain.{Ty, nothing, integer, pointer, array, structure, packed, named, opaque}
use Rattle.ir_ast.specs.Program.{TypeView}
use Rattle.ir_ast.specs.Table.{names_of, place_of}
use Rattle.ir_ast.specs.ProgramView.{view_entries}
use Rattle.hk_graph.specs.Walks.{IsOnCycle}
use Rattle.hk_graph.specs.Sorted.{IsOrder, flag_of}
use Rattle.ir_type.specs.Names.{entry_of, names_in}
use Rattle.ir_type.specs.Whole.{Types, whole}
use Rattle.ir_type.specs.Cycles.{entry_names, Spells, places_in, graph_of, name_at, SaysCyclic}
use Rattle.ir_type.proofs.Places.{StandsAt, no_place, place_below}
use Rattle.ir_type.proofs.NameWalks.{entry_at, spells_edge, name_of_place}
use Rattle.ir_type.proofs.Views.{place_viewed}
use Rattle.ir_layout.specs.Offsets.{is_named, root_of, root_by, IsRooted, AreRoots, AreRooted, with_roots}
use Rattle.ir_layout.proofs.Seen.{cycle_stands, opens}
use Rattle.ir_layout.proofs.FactSteps.{unknown_stands, node_below}
use Rattle.ir_layout.proofs.Turns.{drop_here}

-- places are the same in a table as it is viewed
pub root_viewed : {E V : Type 0} (view : E → V) (entries : List (List ℕ × E)) (roots : List ℕ) (node : ℕ) (t : Ty) → root_by entries roots node t ≡ root_by (view_entries view entries) roots node t
root_viewed view entries roots node nothing = refl
root_viewed view entries roots node (integer w) = refl
root_viewed view entries roots node pointer = refl
root_viewed view entries roots node (array n t) = refl
root_viewed view entries roots node (structure ts) = refl
root_viewed view entries roots node (packed ts) = refl
root_viewed view entries roots node (named x) = ap (root_of roots node) (sym (place_viewed view entries x))
root_viewed view entries roots node opaque = refl

module _ (types : Types) (distinct : IsDistinct bytes_eq (names_of types)) (nodes : List ℕ) (cyclic : List Bool) (order : IsOrder (graph_of types) nodes cyclic)
    (says : (p : ℕ) → p < length types → SaysCyclic types (flag_of cyclic p) p) where
  size_is : length (graph_of types) ≡ length types
  size_is = length-map types (λ e. places_in types e.1.over)

  root_fits : (k : ℕ) (roots : List ℕ) → AreRooted types nodes k roots → k < length nodes → (e : TypeView) → slice_get types (slice_index nodes k) ≡ Some (name_at types (slice_index nodes k), e)
      → entry_of (name_at types (slice_index nodes k)) types ≡ Some e → (t : Ty) → e.over ≡ t → IsRooted types (slice_index nodes k) (root_by types roots (slice_index nodes k) t)
  root_fits k roots h l e there found t is = pick t is
    where
      own : whole types (named (name_at types (slice_index nodes k))) ≡ whole types e.over
      own = opens types distinct nodes cyclic order says (name_at types (slice_index nodes k)) e found

      itself : is_named e.over ≡ false → IsRooted types (slice_index nodes k) (slice_index nodes k)
      itself plain known = (name_at types (slice_index nodes k), e, there, own, plain)

      pick : (t : Ty) → e.over ≡ t → IsRooted types (slice_index nodes k) (root_by types roots (slice_index nodes k) t)
      pick nothing s = itself (ap is_named s)
      pick (integer w) s = itself (ap is_named s)
      pick pointer s = itself (ap is_named s)
      pick (array n u) s = itself (ap is_named s)
      pick (structure ts) s = itself (ap is_named s)
      pick (packed ts) s = itself (ap is_named s)
      pick opaque s = itself (ap is_named s)
      pick (named y) s = by_place (place_of y types) refl
        where
          seen : whole types (named (name_at types (slice_index nodes k))) ≡ whole types (named y)
          seen = own ∙ ap (whole types) s

          none : is_some (whole types (named (name_at types (slice_index nodes k)))) ≡ true → whole types (named (name_at types (slice_index nodes k))) ≡ None → ⊥
          none known e = false≢true (sym (ap is_some e) ∙ known)

          by_place : (o : Option ℕ) → place_of y types ≡ o → IsRooted types (slice_index nodes k) (root_of roots (slice_index nodes k) o)
          by_place None n known = absurd (none known (seen ∙ unknown_stands types (length types) y (no_place types y n)))
          by_place (Some q) n known = by_flag (flag_of cyclic (slice_index nodes k)) refl
            where
              said : SaysCyclic types (flag_of cyclic (slice_index nodes k)) (slice_index nodes k)
              said = says (slice_index nodes k) (node_below types distinct nodes cyclic order says k l)

              by_flag : (flag : Bool) → flag_of cyclic (slice_index nodes k) ≡ flag
                  → (x : List ℕ) × (f : TypeView) × (slice_get types (slice_index_or roots q (slice_index nodes k)) ≡ Some (x, f)) × (whole types (named (name_at types (slice_index nodes k))) ≡ whole types f.over) × (is_named f.over ≡ false)
              by_flag true f =
                  let cycle : IsOnCycle (Spells types) (name_at types (slice_index nodes k)) = subst (λ g. SaysCyclic types g (slice_index nodes k)) f said in
                  absurd (none known (cycle_stands types (length types) (name_at types (slice_index nodes k)) cycle))
              by_flag false f =
                  let c : Contains (names_in e.over) y = subst (λ t. Contains (names_in t) y) (sym s) (0, omega arith, refl) in
                  let spells : Spells types (name_at types (slice_index nodes k)) y = subst (λ o. Contains (entry_names o) y) (sym found) c in
                  let edge = spells_edge types distinct (slice_index nodes k) q y (node_below types distinct nodes cyclic order says k l) spells n in
                  let before = order.forward k q l f edge in
                  let i = before.0 in
                  let il : i < k = first i before.1 in
                  let inside : i < length nodes = omega (arith, il, l) in
                  let at : slice_index nodes i ≡ q = get_or_default nodes i 0 q inside ∙ sym (get_or-take k nodes i q il) ∙ before.2 in
                  let name : name_at types q ≡ y = name_of_place types distinct y q n in
                  let rest : IsRooted types q (slice_index roots q) = subst (λ p. IsRooted types p (slice_index roots p)) at (h.each i il inside) in
                  let same : whole types (named (name_at types q)) ≡ whole types (named (name_at types (slice_index nodes k))) = ap (λ z. whole types (named z)) name ∙ sym seen in
                  let root : slice_index_or roots q (slice_index nodes k) ≡ slice_index roots q = get_or_default roots q (slice_index nodes k) 0 (subst (λ n. q < n) (sym h.count) (place_below types y q n)) in
                  finish (rest (ap is_some same ∙ known)) root same
                where
                  finish : (x : List ℕ) × (f : TypeView) × (slice_get types (slice_index roots q) ≡ Some (x, f)) × (whole types (named (name_at types q)) ≡ whole types f.over) × (is_named f.over ≡ false)
                      → slice_index_or roots q (slice_index nodes k) ≡ slice_index roots q → whole types (named (name_at types q)) ≡ whole types (named (name_at types (slice_index nodes k)))
                      → (x : List ℕ) × (f : TypeView) × (slice_get types (slice_index_or roots q (slice_index nodes k)) ≡ Some (x, f)) × (whole types (named (name_at types (slice_index nodes k))) ≡ whole types f.over) × (is_named f.over ≡ false)
                  finish (x, f, there, stands, plain) root same = (x, f, ap (slice_get types) root ∙ there, sym same ∙ stands, plain)

                  first : (i : ℕ) → i < length (take k nodes) → i < k
                  first i m = omega (arith, m, length-take k nodes)

  pub root_more : (k : ℕ) (roots : List ℕ) (r : ℕ) → AreRooted types nodes k roots → k < length nodes
      → ((e : TypeView) (x : List ℕ) → slice_get types (slice_index nodes k) ≡ Some (x, e) → r ≡ root_by types roots (slice_index nodes k) e.over)
      → AreRooted types nodes (k + 1) (slice_set roots (slice_index nodes k) r)
  root_more k roots r h l is = record {
    count = length-set roots (slice_index nodes k) r ∙ h.count;
    each = λ i a b. pick i b (cases_order i k) a;
  }
    where
      at : (e : TypeView) × StandsAt types (slice_index nodes k) (name_at types (slice_index nodes k)) e × (place_of (name_at types (slice_index nodes k)) types ≡ Some (slice_index nodes k))
      at = entry_at types distinct (slice_index nodes k) (node_below types distinct nodes cyclic order says k l)

      own : IsRooted types (slice_index nodes k) r
      own = subst (IsRooted types (slice_index nodes k)) (sym (is at.0 (name_at types (slice_index nodes k)) at.1.there)) (root_fits k roots h l at.0 at.1.there at.1.found at.0.over refl)

      pick : (i : ℕ) → i < length nodes → (i ≡ k) ⊎ ((i < k) ⊎ (k < i)) → i < k + 1 → IsRooted types (slice_index nodes i) (slice_index (slice_set roots (slice_index nodes k) r) (slice_index nodes i))
      pick i b (inl e) a =
          subst (λ j. IsRooted types (slice_index nodes j) (slice_index (slice_set roots (slice_index nodes k) r) (slice_index nodes j))) (sym e)
          (subst (IsRooted types (slice_index nodes k))
          (sym (get_or-set_same roots (slice_index nodes k) r 0 (subst (λ n. slice_index nodes k < n) (sym h.count) (node_below types distinct nodes cyclic order says k l)))) own)
      pick i b (inr (inl m)) a =
          subst (IsRooted types (slice_index nodes i)) (sym (get_or-set_other roots (slice_index nodes k) (slice_index nodes i) r 0 (order.once i k 0 m l))) (h.each i m b)
      pick i b (inr (inr m)) a = absurd (omega (arith, m, a))

  pub all_rooted : (roots : List ℕ) → AreRooted types nodes (length nodes) roots → AreRoots types roots
  all_rooted roots h = record { count = h.count; each = each }
    where
      each : (p : ℕ) → p < length types → IsRooted types p (slice_index roots p)
      each p l =
          let at = order.each p (subst (λ m. p < m) (sym size_is) l) in
          let is : slice_index nodes at.0 ≡ p = get_or_default nodes at.0 0 p at.1 ∙ at.2 in
          subst (λ q. IsRooted types q (slice_index roots q)) is (h.each at.0 at.1 at.1)

-- ---- names with roots

first_at : {E : Type 0} (o : Option (List ℕ × E)) (x : List ℕ) → option_map (λ entry. entry.0) o ≡ Some x → (e : E) × (o ≡ Some (x, e))
first_at {E} None x h = absurd (clash h)
  where
    clash : None ≡ Some x → ⊥
    clash h = cc
first_at {E} (Some p) x h = (p.1, ap (λ y. Some (y, p.1)) (same h))
  where
    same : Some p.0 ≡ Some x → p.0 ≡ x
    same h = cc

pub names_more : {E : Type 0} (entries : List (List ℕ × E)) (roots : List ℕ) (place : ℕ) (x y : List ℕ) (r : ℕ) (names more whole : List (List ℕ × ℕ)) → option_map (λ entry. entry.0) (slice_get entries place) ≡ Some x
    → y ≡ x → r ≡ slice_index roots place → more ≡ names ++ (y, r) ∷ [] → names ++ with_roots place (drop place entries) roots ≡ whole
    → more ++ with_roots (place + 1) (drop (place + 1) entries) roots ≡ whole
names_more entries roots place x y r names more whole there same is added so_far =
    let e = first_at (slice_get entries place) x there in
    ap (λ ys. ys ++ with_roots (place + 1) (drop (place + 1) entries) roots) added
    ∙ append_assoc names ((y, r) ∷ []) (with_roots (place + 1) (drop (place + 1) entries) roots)
    ∙ ap (λ z. names ++ ((z, r) ∷ with_roots (place + 1) (drop (place + 1) entries) roots)) same
    ∙ ap (λ n. names ++ ((x, n) ∷ with_roots (place + 1) (drop (place + 1) entries) roots)) is
    ∙ sym (ap (λ ys. names ++ with_roots place ys roots) (drop_here entries place (x, e.0) e.1)) ∙ so_far
