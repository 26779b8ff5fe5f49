-- The numbers of the named types, one after another in their order.
use Rattle.std.proofs.Common.{◌≡◌, ◌⊎◌, inl, inr, ℕ, zero, suc, ◌+◌, ◌<◌, ◌≤◌, Bool, true, false, Option, Some, None, option_map, List, [], ◌∷◌, length, take, refl, sym, ◌∙◌, ap, subst, arith, length-set, get_or-set_same, get_or-set_other}
use Rattle.std.specs.Prelude.{slice_get, slice_index, slice_set, replicate, bytes_eq, unwrap_or}
use Rattle.std.specs.List.{Contains, IsDistinct}
use Rattle.std.proofs.lemmas.Bool.{cases_order, cases_lt}
use Rattle.std.proofs.lemmas.List.{get_or-take, get_or_default, get_or_past, length-take, length-map, length-replicate}
use Rattle.std.proofs.lemmas.List.Elements.{All-set, All-replicate, Contains-append_left, Contains-append_right}
use Rattle.std.proofs.lemmas.Option.{slice_get_within, slice_get-get_or}
use Rattle.ir_ast.specs.Plain.{Ty, Tys, nothing, integer, pointer, array, structure, packed, named, opaque, no_types, type_and}
use Rattle.ir_ast.specs.Program.{TypeView}
use Rattle.ir_ast.specs.Table.{names_of, place_of}
use Rattle.hk_graph.specs.Walks.{IsOnCycle}
use Rattle.hk_graph.specs.Sorted.{IsOrder, flag_of}
use Rattle.ir_type.specs.Names.{entry_of, names_in, all_names_in}
use Rattle.ir_type.specs.Whole.{Types, with_part, whole_by, wholes_by, whole_entry, stands_for, whole}
use Rattle.ir_type.specs.Cycles.{entry_names, Spells, places_in, graph_of, name_at, SaysCyclic}
use Rattle.ir_ast.specs.ProgramView.{view_entries}
use Rattle.ir_type.proofs.Views.{place_viewed}
use Rattle.ir_type.proofs.Places.{StandsAt, no_place, place_below}
use Rattle.ir_type.proofs.NameWalks.{entry_at, spells_edge, name_of_place}
use Rattle.ir_layout.proofs.Seen.{cycle_stands, opens}
use Rattle.ir_whole.specs.declared.head.Head.{Head}
use Rattle.ir_whole.specs.declared.head.Head.TheVariants.{Opaque}
use Rattle.ir_whole.specs.Heads.{type_at, type_of, types_by, Grows, Stands}
use Rattle.ir_whole.specs.Numbers.{number_at, look_in, Looks, AreBelow, node_whole, AreNamed, IsFilled}
use Rattle.ir_whole.proofs.HeadLaws.{some_is, kept_at, longer, grows_itself, grows_on, types_grow, count_is, grown_types, stands_grown, type_there, type_grown}
use Rattle.ir_whole.proofs.RowLaws.{below_more}

-- ---- names that stand for the same

module _ (s more : List ℕ → Option Ty) where
  mutual
    whole_same : (t : Ty) → ((x : List ℕ) → Contains (names_in t) x → s x ≡ more x) → whole_by s t ≡ whole_by more t
    whole_same nothing g = refl
    whole_same (integer w) g = refl
    whole_same pointer g = refl
    whole_same (array n t) g = ap (option_map (array n)) (whole_same t g)
    whole_same (structure ts) g = ap (option_map structure) (wholes_same ts g)
    whole_same (packed ts) g = ap (option_map packed) (wholes_same ts g)
    whole_same (named x) g = g x (0, omega arith, refl)
    whole_same opaque g = refl

    wholes_same : (ts : Tys) → ((x : List ℕ) → Contains (all_names_in ts) x → s x ≡ more x) → wholes_by s ts ≡ wholes_by more ts
    wholes_same no_types g = refl
    wholes_same (type_and t ts) g =
        ap (λ o. with_part o (wholes_by s ts)) (whole_same t (λ x c. g x (Contains-append_left (names_in t) (all_names_in ts) x c)))
        ∙ ap (with_part (whole_by more t)) (wholes_same ts (λ x c. g x (Contains-append_right (names_in t) (all_names_in ts) x c)))

-- ---- what a number stands for

abbrev seen : List Ty → ℕ → Option Ty
seen types zero = None
seen types (suc n) = Some (type_at types (suc n))

seen_stands : (types : List Ty) (n : ℕ) → n < length types → Stands types n (seen types n)
seen_stands types zero l = refl
seen_stands types (suc n) l = (omega arith, slice_get-get_or types (suc n) opaque l)

stands_seen : (types : List Ty) (n : ℕ) (o : Option Ty) → Stands types n o → seen types n ≡ o
stands_seen types n None e = ap (seen types) e
stands_seen types zero (Some t) (some, e) = absurd (omega (arith, some))
stands_seen types (suc n) (Some t) (some, e) = ap Some (type_there types (suc n) t e)

pub look_below : (n : ℕ) (numbers : List ℕ) (o : Option ℕ) → 0 < n → AreBelow n numbers → number_at numbers o < n
look_below n numbers None some below = some
look_below n numbers (Some p) some below = pick (cases_lt p (length numbers))
  where
    pick : (p < length numbers) ⊎ (length numbers ≤ p) → slice_index numbers p < n
    pick (inl l) = below p 0 l
    pick (inr l) = subst (λ k. k < n) (sym (get_or_past numbers p 0 l)) some

pub first_type : (heads : List Head) → slice_get heads 0 ≡ Some Opaque → slice_get (types_by heads) 0 ≡ Some opaque
first_type [] e = absurd cc
first_type (h ∷ heads) e =
    kept_at (type_of [] h ∷ []) (types_by (h ∷ heads)) 0 (types_grow (type_of [] h ∷ []) heads) (omega arith)
    ∙ ap (λ x. Some (type_of [] x)) (some_is h Opaque e)

pub first_grown : (old new : List Head) → Grows old new → slice_get old 0 ≡ Some Opaque → slice_get new 0 ≡ Some Opaque
first_grown old new g e = kept_at old new 0 g (slice_get_within old 0 Opaque e) ∙ e

pub stands_meant : (types : List Ty) (n : ℕ) (o : Option Ty) → slice_get types 0 ≡ Some opaque → Stands types n o → slice_get types n ≡ Some (unwrap_or o opaque)
stands_meant types n None first e = ap (slice_get types) e ∙ first
stands_meant types n (Some t) first (some, e) = e

unknown_stands : (types : Types) (d : ℕ) (x : List ℕ) → entry_of x types ≡ None → stands_for d types x ≡ None
unknown_stands types zero x e = refl
unknown_stands types (suc d) x e = ap (whole_entry (whole_by (stands_for d types))) e

-- ---- one named type after another

module _ (types : Types) where
  unknown_is : (heads : List Head) (numbers : List ℕ) (x : List ℕ) → place_of x types ≡ None → Stands (types_by heads) (look_in types numbers x) (whole types (named x))
  unknown_is heads numbers x e =
      subst (Stands (types_by heads) (look_in types numbers x)) (sym (unknown_stands types (length types) x (no_place types x e))) (ap (number_at numbers) e)

  -- the numbers of all names
  pub all_look : (heads : List Head) (numbers : List ℕ) → AreNamed types heads numbers → (x : List ℕ) → Stands (types_by heads) (look_in types numbers x) (whole types (named x))
  all_look heads numbers are x = pick (place_of x types) refl
    where
      pick : (o : Option ℕ) → place_of x types ≡ o → Stands (types_by heads) (look_in types numbers x) (whole types (named x))
      pick None n = unknown_is heads numbers x n
      pick (Some q) n =
          subst (λ o. Stands (types_by heads) (number_at numbers o) (whole types (named x))) (sym n)
          (subst (λ y. Stands (types_by heads) (slice_index numbers q) (whole types (named y))) (name_of_place types are.distinct x q n) (are.each q (place_below types x q n)))

  -- numbers stay where the list of heads grows
  pub named_grown : (old new : List Head) (numbers : List ℕ) → Grows old new → AreNamed types old numbers → AreNamed types new numbers
  named_grown old new numbers g are = record {
    distinct = are.distinct;
    count = are.count;
    below = below_more (length old) (length new) numbers (longer old new g) are.below;
    first = first_grown old new g are.first;
    each = λ p l. stands_grown (types_by old) (types_by new) (slice_index numbers p) (whole types (named (name_at types p))) (grown_types old new g) (are.each p l);
  }

  pub begins : (heads : List Head) (nodes : List ℕ) (n : ℕ) → slice_get heads 0 ≡ Some Opaque → n ≡ length types → IsFilled types nodes 0 heads (replicate n 0)
  begins heads nodes n first is = record {
    count = length-replicate {A = ℕ} n 0 ∙ is;
    below = All-replicate (λ x. x < length heads) n 0 (slice_get_within heads 0 Opaque first);
    first = first;
    each = λ i a. absurd (omega (arith, a));
  }

  module _ (distinct : IsDistinct bytes_eq (names_of types)) (nodes : List ℕ) (cyclic : List Bool) (order : IsOrder (graph_of types) nodes cyclic)
      (says : (p : ℕ) → p < length types → SaysCyclic types (flag_of cyclic p) p) where
    size_is : length (graph_of types) ≡ length types
    size_is = length-map types (λ e. places_in types e.1.over)

    pub node_below : (k : ℕ) → k < length nodes → slice_index nodes k < length types
    node_below k l = subst (λ n. slice_index nodes k < n) size_is (order.within k 0 l)

    -- the names that a type spells have their numbers before it
    looks : (k : ℕ) (heads : List Head) (numbers : List ℕ) → IsFilled types nodes k heads numbers → k < length nodes → flag_of cyclic (slice_index nodes k) ≡ false → (e : TypeView)
        → entry_of (name_at types (slice_index nodes k)) types ≡ Some e → (x : List ℕ) → Contains (names_in e.over) x → Stands (types_by heads) (look_in types numbers x) (whole types (named x))
    looks k heads numbers h l flag e found x c = pick (place_of x types) refl
      where
        pick : (o : Option ℕ) → place_of x types ≡ o → Stands (types_by heads) (look_in types numbers x) (whole types (named x))
        pick None n = unknown_is heads numbers x n
        pick (Some q) n =
            let spells : Spells types (name_at types (slice_index nodes k)) x = subst (λ o. Contains (entry_names o) x) (sym found) c in
            let edge = spells_edge types distinct (slice_index nodes k) q x (node_below k l) spells n in
            let before = order.forward k q l flag edge in
            let i = before.0 in
            let il : i < k = first i before.1 in
            let inside : i < length nodes = omega (arith, il, l) in
            let is : slice_index nodes i ≡ q = get_or_default nodes i 0 q inside ∙ sym (get_or-take k nodes i q il) ∙ before.2 in
            let name : name_at types (slice_index nodes i) ≡ x = ap (name_at types) is ∙ name_of_place types distinct x q n in
            subst (λ o. Stands (types_by heads) (number_at numbers o) (whole types (named x))) (sym n)
            (subst (λ p. Stands (types_by heads) (slice_index numbers p) (whole types (named x))) is
            (subst (λ y. Stands (types_by heads) (slice_index numbers (slice_index nodes i)) (whole types (named y))) name (h.each i il inside)))
          where
            first : (i : ℕ) → i < length (take k nodes) → i < k
            first i m = omega (arith, m, length-take k nodes)

    abbrev found_by : List Head → List ℕ → List ℕ → Option Ty
    found_by heads numbers x = seen (types_by heads) (look_in types numbers x)

    found_looks : (k : ℕ) (heads : List Head) (numbers : List ℕ) → IsFilled types nodes k heads numbers → Looks types numbers (types_by heads) (found_by heads numbers)
    found_looks k heads numbers h x =
        seen_stands (types_by heads) (look_in types numbers x)
        (subst (λ n. look_in types numbers x < n) (sym (count_is heads)) (look_below (length heads) numbers (place_of x types) (slice_get_within heads 0 Opaque h.first) h.below))

    node_stands : (k : ℕ) (heads heads' : List Head) (numbers : List ℕ) (n : ℕ) → IsFilled types nodes k heads numbers → k < length nodes → (e : TypeView)
        → entry_of (name_at types (slice_index nodes k)) types ≡ Some e
        → Stands (types_by heads') n (node_whole (flag_of cyclic (slice_index nodes k)) (whole_by (found_by heads numbers) e.over))
        → Stands (types_by heads') n (whole types (named (name_at types (slice_index nodes k))))
    node_stands k heads heads' numbers n h l e found stands = pick (flag_of cyclic (slice_index nodes k)) refl stands
      where
        said : SaysCyclic types (flag_of cyclic (slice_index nodes k)) (slice_index nodes k)
        said = says (slice_index nodes k) (node_below k l)

        pick : (flag : Bool) → flag_of cyclic (slice_index nodes k) ≡ flag → Stands (types_by heads') n (node_whole flag (whole_by (found_by heads numbers) e.over))
            → Stands (types_by heads') n (whole types (named (name_at types (slice_index nodes k))))
        pick true f is =
            let cycle : IsOnCycle (Spells types) (name_at types (slice_index nodes k)) = subst (λ g. SaysCyclic types g (slice_index nodes k)) f said in
            subst (Stands (types_by heads') n) (sym (cycle_stands types (length types) (name_at types (slice_index nodes k)) cycle)) is
        pick false f is =
            subst (Stands (types_by heads') n)
            (whole_same (found_by heads numbers) (stands_for (length types) types) e.over
            (λ x c. stands_seen (types_by heads) (look_in types numbers x) (whole types (named x)) (looks k heads numbers h l f e found x c))
            ∙ sym (opens types distinct nodes cyclic order says (name_at types (slice_index nodes k)) e found)) is

    -- one more named type
    pub fill : (k : ℕ) (heads heads' : List Head) (numbers : List ℕ) (n : ℕ) → IsFilled types nodes k heads numbers → k < length nodes → Grows heads heads' → n < length heads'
        → ((s : List ℕ → Option Ty) → Looks types numbers (types_by heads) s → (e : TypeView) → (x : List ℕ) → slice_get types (slice_index nodes k) ≡ Some (x, e)
        → Stands (types_by heads') n (node_whole (flag_of cyclic (slice_index nodes k)) (whole_by s e.over)))
        → IsFilled types nodes (k + 1) heads' (slice_set numbers (slice_index nodes k) n)
    fill k heads heads' numbers n h l g within is = record {
      count = length-set numbers (slice_index nodes k) n ∙ h.count;
      below = All-set (λ x. x < length heads') numbers (slice_index nodes k) n within (below_more (length heads) (length heads') numbers (longer heads heads' g) h.below);
      first = first_grown heads heads' g h.first;
      each = λ i a b. pick i b (cases_order i k) a;
    }
      where
        at : (e : TypeView) × StandsAt types (slice_index nodes k) (name_at types (slice_index nodes k)) e × (place_of (name_at types (slice_index nodes k)) types ≡ Some (slice_index nodes k))
        at = entry_at types distinct (slice_index nodes k) (node_below k l)

        own : Stands (types_by heads') n (whole types (named (name_at types (slice_index nodes k))))
        own =
            node_stands k heads heads' numbers n h l at.0 at.1.found
            (is (found_by heads numbers) (found_looks k heads numbers h) at.0 (name_at types (slice_index nodes k)) at.1.there)

        pick : (i : ℕ) → i < length nodes → (i ≡ k) ⊎ ((i < k) ⊎ (k < i)) → i < k + 1
            → Stands (types_by heads') (slice_index (slice_set numbers (slice_index nodes k) n) (slice_index nodes i)) (whole types (named (name_at types (slice_index nodes i))))
        pick i b (inl e) a =
            subst (λ j. Stands (types_by heads') (slice_index (slice_set numbers (slice_index nodes k) n) (slice_index nodes j)) (whole types (named (name_at types (slice_index nodes j))))) (sym e)
            (subst (λ m. Stands (types_by heads') m (whole types (named (name_at types (slice_index nodes k)))))
            (sym (get_or-set_same numbers (slice_index nodes k) n 0 (subst (λ m. slice_index nodes k < m) (sym h.count) (node_below k l)))) own)
        pick i b (inr (inl m)) a =
            subst (λ j. Stands (types_by heads') j (whole types (named (name_at types (slice_index nodes i)))))
            (sym (get_or-set_other numbers (slice_index nodes k) (slice_index nodes i) n 0 (order.once i k 0 m l)))
            (stands_grown (types_by heads) (types_by heads') (slice_index numbers (slice_index nodes i)) (whole types (named (name_at types (slice_index nodes i)))) (grown_types heads heads' g) (h.each i m b))
        pick i b (inr (inr m)) a = absurd (omega (arith, m, a))

    pub filled : (heads : List Head) (numbers : List ℕ) → IsFilled types nodes (length nodes) heads numbers → AreNamed types heads numbers
    filled heads numbers h = record {
      distinct = distinct;
      count = h.count;
      below = h.below;
      first = h.first;
      each = λ p l. each p l;
    }
      where
        each : (p : ℕ) → p < length types → Stands (types_by heads) (slice_index numbers p) (whole types (named (name_at types p)))
        each p l =
            let at = order.each p (subst (λ m. p < m) (sym size_is) l) in
            let is : slice_index nodes at.0 ≡ p = get_or_default nodes at.0 0 p at.1 ∙ at.2 in
            subst (λ q. Stands (types_by heads) (slice_index numbers q) (whole types (named (name_at types q)))) is (h.each at.0 at.1 at.1)

-- names are looked up by their places alone
pub looks_moved : {E : Type 0} (view : E → TypeView) (entries : List (List ℕ × E)) (numbers numbers' : List ℕ) (types : List Ty) (s : List ℕ → Option Ty) → numbers' ≡ numbers
    → Looks (view_entries view entries) numbers types s → Looks entries numbers' types s
looks_moved view entries numbers numbers' types s same looks x = subst (λ n. Stands types n (s x)) (λ i. number_at (sym same i) (place_viewed view entries x i)) (looks x)

pub looks_all : {E : Type 0} (view : E → TypeView) (entries : List (List ℕ × E)) (heads : List Head) (numbers numbers' : List ℕ) → numbers' ≡ numbers → AreNamed (view_entries view entries) heads numbers
    → Looks entries numbers' (types_by heads) (stands_for (length (view_entries view entries)) (view_entries view entries))
looks_all view entries heads numbers numbers' same are =
    looks_moved view entries numbers numbers' (types_by heads) (stands_for (length (view_entries view entries)) (view_entries view entries)) same (all_look (view_entries view entries) heads numbers are)

pub grown_on : (old new : List Head) → ((first : List Head) → Grows first old → Grows first new) → Grows old new
grown_on old new g = g old (grows_itself old)

pub types_on : (old new : List Head) → ((first : List Head) → Grows first old → Grows first new) → (first : List Ty) → Grows first (types_by old) → Grows first (types_by new)
types_on old new g first h = grows_on first (types_by old) (types_by new) h (grown_types old new (grown_on old new g))

pub types_longer : (old new : List Head) → ((first : List Head) → Grows first old → Grows first new) → length (types_by old) ≤ length (types_by new)
types_longer old new g = longer (types_by old) (types_by new) (grown_types old new (grown_on old new g))

pub types_keep : (old new : List Head) → ((first : List Head) → Grows first old → Grows first new) → (k : ℕ) → k < length (types_by old) → type_at (types_by new) k ≡ type_at (types_by old) k
types_keep old new g k l = type_grown (types_by old) (types_by new) k (grown_types old new (grown_on old new g)) l

pub number_within : (heads : List Head) (n : ℕ) → n < length heads → n < length (types_by heads)
number_within heads n l = subst (λ k. n < k) (sym (count_is heads)) l

pub place_within : (heads : List Head) (n : ℕ) → n < length (types_by heads) → n < length heads
place_within heads n l = subst (λ k. n < k) (count_is heads) l
