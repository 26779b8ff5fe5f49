-- What is kept of the named types, one after another in their order.
use Rattle.std.proofs.Common.{◌≡◌, ◌⊎◌, inl, inr, ℕ, zero, suc, ◌+◌, ◌<◌, Bool, true, false, ◌&&◌, Option, Some, None, List, length, take, refl, sym, ◌∙◌, ap, subst, arith, length-set, get_or-set_same, get_or-set_other}
use Rattle.std.specs.Prelude.{slice_get, slice_index, slice_index_or, slice_set, replicate, bytes_eq, is_some, unwrap_or}
use Rattle.std.specs.List.{Contains, IsDistinct}
use Rattle.std.proofs.lemmas.Bool.{cases_order, false≢true}
use Rattle.std.proofs.lemmas.List.{get_or-take, get_or_default, length-take, length-map, length-replicate}
use Rattle.std.proofs.lemmas.List.Elements.{All-set, All-replicate}
use Rattle.ir_ast.specs.Plain.{Ty, named, opaque}
use Rattle.ir_ast.specs.Program.{TypeView}
use Rattle.ir_ast.specs.Table.{names_of, place_of}
use Rattle.hk_graph.specs.Walks.{IsOnCycle}
use Rattle.hk_graph.specs.Sorted.{IsOrder, flag_of}
use Rattle.ir_type.specs.Names.{entry_of, names_in}
use Rattle.ir_type.specs.Whole.{Types, whole_by, whole_entry, stands_for, whole, meant, has_odd}
use Rattle.ir_type.specs.Cycles.{entry_names, Spells, is_opaque, is_unusable, IsBadName, places_in, graph_of, name_at, SaysCyclic}
use Rattle.ir_type.proofs.Places.{StandsAt, no_place, place_below}
use Rattle.ir_type.proofs.NameWalks.{entry_at, spells_edge, name_of_place}
use Rattle.ir_layout.specs.declared.fact.Fact.{Fact}
use Rattle.ir_layout.specs.Sizes.{size_of, align_of}
use Rattle.ir_layout.specs.Facts.{cut, unknown_fact, fact_by, fact_at, named_fact, node_fact, IsKept, NameFits, FactFits, AreFacts, IsFilled}
use Rattle.ir_layout.proofs.Seen.{cycle_stands, opens}
use Rattle.ir_layout.proofs.FactLaws.{fits}

module _ (types : Types) where
  -- a name that stands for nothing
  lost_fits : (x : List ℕ) → whole types (named x) ≡ None → IsBadName types x → NameFits types x unknown_fact
  lost_fits x none bad = record {
    known = sym (ap is_some none);
    size = λ k. absurd (false≢true k);
    align = λ k. absurd (false≢true k);
    odd = sym (ap (λ o. has_odd (unwrap_or o opaque)) none);
    bad = λ e. bad;
    good = λ e. refl;
    large = refl;
  }

  pub unknown_stands : (d : ℕ) (x : List ℕ) → entry_of x types ≡ None → stands_for d types x ≡ None
  unknown_stands zero x e = refl
  unknown_stands (suc d) x e = ap (whole_entry (whole_by (stands_for d types))) e

  unknown_fits : (x : List ℕ) → place_of x types ≡ None → NameFits types x unknown_fact
  unknown_fits x e =
      let none = no_place types x e in
      lost_fits x (unknown_stands (length types) x none) (inl (ap is_unusable none))

  -- a name of a type that does not contain itself
  named_fits : (x : List ℕ) (over : Ty) (f : Fact) → whole types (named x) ≡ whole types over → (is_opaque over ≡ true → IsBadName types x) → (IsBadName types x → is_opaque over ≡ true)
      → FactFits types over f → NameFits types x (named_fact (is_opaque over) f)
  named_fits x over f same bad good h = record {
    known = h.known ∙ ap is_some (sym same);
    size = λ k. h.size k ∙ sym (ap (λ o. cut (size_of (unwrap_or o opaque))) same);
    align = λ k. h.align k ∙ sym (ap (λ o. align_of (unwrap_or o opaque)) same);
    odd = odd f.known refl ∙ sym (ap (λ o. has_odd (unwrap_or o opaque)) same);
    bad = bad;
    good = good;
    large = refl;
  }
    where
      odd : (k : Bool) → f.known ≡ k → (f.known && f.odd) ≡ has_odd (meant types over)
      odd true e = ap (λ b. b && f.odd) e ∙ h.seen e
      odd false e = ap (λ b. b && f.odd) e ∙ sym (none (whole types over) refl)
        where
          none : (o : Option Ty) → whole types over ≡ o → has_odd (meant types over) ≡ false
          none None n = ap (λ o. has_odd (unwrap_or o opaque)) n
          none (Some u) n = absurd (false≢true (sym e ∙ h.known ∙ ap is_some n))

  module _ (distinct : IsDistinct bytes_eq (names_of types)) (nodes : List ℕ) (cyclic : List Bool) (order : IsOrder (graph_of types) nodes cyclic)
      (says : (p : ℕ) → p < length types → SaysCyclic types (flag_of cyclic p) p) where
    size_is : length (graph_of types) ≡ length types
    size_is = length-map types (λ e. places_in types e.1.over)

    pub node_below : (k : ℕ) → k < length nodes → slice_index nodes k < length types
    node_below k l = subst (λ n. slice_index nodes k < n) size_is (order.within k 0 l)

    looks : (k : ℕ) (facts : List Fact) → IsFilled types nodes k facts → k < length nodes → flag_of cyclic (slice_index nodes k) ≡ false → (e : TypeView)
        → entry_of (name_at types (slice_index nodes k)) types ≡ Some e → (x : List ℕ) → Contains (names_in e.over) x → NameFits types x (fact_at facts (place_of x types))
    looks k facts h l flag e found x c = pick (place_of x types) refl
      where
        pick : (o : Option ℕ) → place_of x types ≡ o → NameFits types x (fact_at facts (place_of x types))
        pick None n = subst (λ o. NameFits types x (fact_at facts o)) (sym n) (unknown_fits x n)
        pick (Some q) n =
            let spells : Spells types (name_at types (slice_index nodes k)) x = subst (λ o. Contains (entry_names o) x) (sym found) c in
            let edge = spells_edge types distinct (slice_index nodes k) q x (node_below k l) spells n in
            let before = order.forward k q l flag edge in
            let i = before.0 in
            let il : i < k = first i before.1 in
            let inside : i < length nodes = omega (arith, il, l) in
            let is : slice_index nodes i ≡ q = get_or_default nodes i 0 q inside ∙ sym (get_or-take k nodes i q il) ∙ before.2 in
            let name : name_at types (slice_index nodes i) ≡ x = ap (name_at types) is ∙ name_of_place types distinct x q n in
            subst (λ o. NameFits types x (fact_at facts o)) (sym n)
            (subst (λ p. NameFits types x (slice_index_or facts p unknown_fact)) is
            (subst (λ y. NameFits types y (slice_index_or facts (slice_index nodes i) unknown_fact)) name (h.each i il inside)))
          where
            first : (i : ℕ) → i < length (take k nodes) → i < k
            first i m = omega (arith, m, length-take k nodes)

    node_fits : (k : ℕ) (facts : List Fact) (look : List ℕ → Fact) → IsFilled types nodes k facts → k < length nodes → ((x : List ℕ) → look x ≡ fact_at facts (place_of x types)) → (e : TypeView)
        → entry_of (name_at types (slice_index nodes k)) types ≡ Some e
        → NameFits types (name_at types (slice_index nodes k)) (node_fact (flag_of cyclic (slice_index nodes k)) e.over (fact_by look e.over))
    node_fits k facts look h l same e found = pick (flag_of cyclic (slice_index nodes k)) refl
      where
        said : SaysCyclic types (flag_of cyclic (slice_index nodes k)) (slice_index nodes k)
        said = says (slice_index nodes k) (node_below k l)

        pick : (flag : Bool) → flag_of cyclic (slice_index nodes k) ≡ flag
            → NameFits types (name_at types (slice_index nodes k)) (node_fact (flag_of cyclic (slice_index nodes k)) e.over (fact_by look e.over))
        pick true f =
            let cycle : IsOnCycle (Spells types) (name_at types (slice_index nodes k)) = subst (λ g. SaysCyclic types g (slice_index nodes k)) f said in
            subst (λ g. NameFits types (name_at types (slice_index nodes k)) (node_fact g e.over (fact_by look e.over))) (sym f)
            (lost_fits (name_at types (slice_index nodes k)) (cycle_stands types (length types) (name_at types (slice_index nodes k)) cycle) (inr cycle))
        pick false f =
            let acyclic : IsOnCycle (Spells types) (name_at types (slice_index nodes k)) → ⊥ = subst (λ g. SaysCyclic types g (slice_index nodes k)) f said in
            let inner = fits types look e.over (λ x c. subst (NameFits types x) (sym (same x)) (looks k facts h l f e found x c)) in
            subst (λ g. NameFits types (name_at types (slice_index nodes k)) (node_fact g e.over (fact_by look e.over))) (sym f)
            (named_fits (name_at types (slice_index nodes k)) e.over (fact_by look e.over) (opens types distinct nodes cyclic order says (name_at types (slice_index nodes k)) e found)
            (λ o. inl (ap is_unusable found ∙ o)) (good acyclic) inner)
          where
            good : (IsOnCycle (Spells types) (name_at types (slice_index nodes k)) → ⊥) → IsBadName types (name_at types (slice_index nodes k)) → is_opaque e.over ≡ true
            good acyclic (inl u) = sym (ap is_unusable found) ∙ u
            good acyclic (inr c) = absurd (acyclic c)

    -- one more node
    pub fill : (k : ℕ) (facts : List Fact) (look : List ℕ → Fact) (f : Fact) → IsFilled types nodes k facts → k < length nodes → ((x : List ℕ) → look x ≡ fact_at facts (place_of x types)) → IsKept f
        → ((e : TypeView) (x : List ℕ) → slice_get types (slice_index nodes k) ≡ Some (x, e) → f ≡ node_fact (flag_of cyclic (slice_index nodes k)) e.over (fact_by look e.over))
        → IsFilled types nodes (k + 1) (slice_set facts (slice_index nodes k) f)
    fill k facts look f h l same kept is = record {
      count = length-set facts (slice_index nodes k) f ∙ h.count;
      kept = All-set IsKept facts (slice_index nodes k) f kept h.kept;
      each = λ i a b. pick i b (cases_order i k) a;
    }
      where
        at : (e : TypeView) × StandsAt types (slice_index nodes k) (name_at types (slice_index nodes k)) e × (place_of (name_at types (slice_index nodes k)) types ≡ Some (slice_index nodes k))
        at = entry_at types distinct (slice_index nodes k) (node_below k l)

        own : NameFits types (name_at types (slice_index nodes k)) f
        own = subst (NameFits types (name_at types (slice_index nodes k))) (sym (is at.0 (name_at types (slice_index nodes k)) at.1.there)) (node_fits k facts look h l same at.0 at.1.found)

        pick : (i : ℕ) → i < length nodes → (i ≡ k) ⊎ ((i < k) ⊎ (k < i)) → i < k + 1
            → NameFits types (name_at types (slice_index nodes i)) (slice_index_or (slice_set facts (slice_index nodes k) f) (slice_index nodes i) unknown_fact)
        pick i b (inl e) a =
            subst (λ j. NameFits types (name_at types (slice_index nodes j)) (slice_index_or (slice_set facts (slice_index nodes k) f) (slice_index nodes j) unknown_fact)) (sym e)
            (subst (NameFits types (name_at types (slice_index nodes k)))
            (sym (get_or-set_same facts (slice_index nodes k) f unknown_fact (subst (λ n. slice_index nodes k < n) (sym h.count) (node_below k l)))) own)
        pick i b (inr (inl m)) a =
            subst (NameFits types (name_at types (slice_index nodes i)))
            (sym (get_or-set_other facts (slice_index nodes k) (slice_index nodes i) f unknown_fact (order.once i k 0 m l))) (h.each i m b)
        pick i b (inr (inr m)) a = absurd (omega (arith, m, a))

    pub filled : (facts : List Fact) → IsFilled types nodes (length nodes) facts → AreFacts types facts
    filled facts h = record {
      distinct = distinct;
      count = h.count;
      kept = h.kept;
      each = λ p l. each p l;
    }
      where
        each : (p : ℕ) → p < length types → NameFits types (name_at types p) (slice_index_or facts p unknown_fact)
        each p l =
            let at = order.each p (subst (λ m. p < m) (sym size_is) l) in
            let is : slice_index nodes at.0 ≡ p = get_or_default nodes at.0 0 p at.1 ∙ at.2 in
            subst (λ q. NameFits types (name_at types q) (slice_index_or facts q unknown_fact)) is (h.each at.0 at.1 at.1)

  -- what is kept of a name, by its place
  looked : IsDistinct bytes_eq (names_of types) → (facts : List Fact) → AreFacts types facts → (x : List ℕ) → NameFits types x (fact_at facts (place_of x types))
  looked distinct facts h x = pick (place_of x types) refl
    where
      pick : (o : Option ℕ) → place_of x types ≡ o → NameFits types x (fact_at facts (place_of x types))
      pick None n = subst (λ o. NameFits types x (fact_at facts o)) (sym n) (unknown_fits x n)
      pick (Some q) n =
          subst (λ o. NameFits types x (fact_at facts o)) (sym n)
          (subst (λ y. NameFits types y (slice_index_or facts q unknown_fact)) (name_of_place types distinct x q n) (h.each q (place_below types x q n)))

  -- what is kept of a type
  pub kept_fits : (facts : List Fact) (look : List ℕ → Fact) → AreFacts types facts → ((x : List ℕ) → look x ≡ fact_at facts (place_of x types)) → (t : Ty) → FactFits types t (fact_by look t)
  kept_fits facts look h same t = fits types look t (λ x c. subst (NameFits types x) (sym (same x)) (looked h.distinct facts h x))

  pub begins : (nodes : List ℕ) (n : ℕ) → n ≡ length types → IsFilled types nodes 0 (replicate n unknown_fact)
  begins nodes n is = record {
    count = length-replicate n unknown_fact ∙ is;
    kept = All-replicate IsKept n unknown_fact (record { some = omega arith; few = omega arith; cut_off = omega arith });
    each = λ i a. absurd (omega (arith, a));
  }

-- what is kept of a type that does not contain itself
pub node_at : (cyclic : Bool) (over : Ty) (look : List ℕ → Fact) (result inner : Fact) (flag : Bool) → cyclic ≡ false → result ≡ named_fact flag inner → flag ≡ is_opaque over → inner ≡ fact_by look over
    → result ≡ node_fact cyclic over (fact_by look over)
node_at cyclic over look result inner flag none is opaque_is inner_is =
    is ∙ ap (λ b. named_fact b inner) opaque_is ∙ ap (λ f. named_fact (is_opaque over) f) inner_is ∙ sym (ap (λ b. node_fact b over (fact_by look over)) none)
