-- Totals of calls by places are expanded lengths of functions.
use Rattle.std.proofs.Common.{◌≡◌, ℕ, ◌+◌, ◌<◌, Option, Some, None, List, [], ◌∷◌, ◌++◌, length, map, take, refl, sym, ◌∙◌, ap, subst, arith}
use Rattle.std.specs.Prelude.{slice_get, slice_index, flat_map, option_to_list, bytes_eq, sum, sum_by}
use Rattle.std.specs.List.{IsDistinct}
use Rattle.std.proofs.lemmas.List.{append-nil, length-map, take_more}
use Rattle.std.proofs.lemmas.List.Sums.{sum_by-cons, sum_by-append}
use Rattle.ir_ast.specs.Program.{InstrView, BlockView, FunctionView, ModuleView}
use Rattle.ir_ast.specs.Table.{names_of, place_of}
use Rattle.hk_graph.specs.Walks.{Walks, Leads, IsOnCycle, HasEdge, targets_of}
use Rattle.hk_flow.specs.Total.{IsTarget, LeadsToCycle, IsTotal}
use Rattle.hk_flow.specs.Sums.{IsSum}
use Rattle.ir_type.specs.Rows.{callees}
use Rattle.ir_type.specs.Cycles.{places_of}
use Rattle.ir_type.proofs.Places.{at_place, no_place, get_below}
use Rattle.ir_typing.specs.Registers.{blocks_of, function_of}
use Rattle.ir_check.specs.Paths.{HasCall, body_of, weight, IsLength}
use Rattle.ir_check.specs.Graphs as named
use Rattle.ir_check.specs.Graphs.{NameLeads, called_by, call_graph, name_of_entry, own_of, SaysLength}
use Rattle.ir_check.proofs.EdgeLaws.{walks_by, cycle_by, call_to, call_from}
use Rattle.ir_check.proofs.NamedGraph.{graph_length, entry_at, targets_at, mapped_at, walk_names, walk_places, cycle_names}
use Rattle.ir_check.proofs.OrderFacts.{has_node}

-- ---- sums

sum_map : {A : Type 0} (f : A → ℕ) (xs : List A) → sum (map f xs) ≡ sum_by f xs
sum_map f [] = refl
sum_map f (x ∷ xs) =
    let a = sum_by-cons (λ n. n) (f x) (map f xs) in
    let b = sum_by-cons f x xs in
    let rest = sum_map f xs in
    omega arith

pub sum_weights : (L : List ℕ → ℕ) (is : List InstrView) → sum (map (weight L) is) ≡ length is + sum_by L (flat_map (λ i. callees i.act) is)
sum_weights L [] = refl
sum_weights L (i ∷ is) =
    let a = sum_by-cons (λ n. n) (weight L i) (map (weight L) is) in
    let b = sum_by-append L (callees i.act) (flat_map (λ i. callees i.act) is) in
    let own = sum_map L (callees i.act) in
    let rest = sum_weights L is in
    omega arith

module _ {E : Type 0} (entries : List (List ℕ × E)) (T : ℕ → ℕ) where
  abbrev at_option : Option ℕ → ℕ
  at_option None = 0
  at_option (Some p) = T p

  abbrev by_name : List ℕ → ℕ
  by_name y = at_option (place_of y entries)

  sum_places : (names : List (List ℕ)) → sum_by T (places_of entries names) ≡ sum_by by_name names
  sum_places [] = refl
  sum_places (x ∷ names) =
      let a = sum_by-append T (option_to_list (place_of x entries)) (places_of entries names) in
      let b = sum_by-cons by_name x names in
      let own = first (place_of x entries) in
      let rest = sum_places names in
      omega arith
    where
      first : (o : Option ℕ) → sum_by T (option_to_list o) ≡ at_option o
      first None = refl
      first (Some p) = let a = sum_by-cons T p [] in omega arith

-- ---- what each function has of its own

pub own_more : (functions : List (List ℕ × FunctionView)) (place : ℕ) (x : List ℕ) (e : FunctionView) (blocks : List BlockView) (count : ℕ) (own more : List ℕ)
    → slice_get functions place ≡ Some (x, e) → blocks ≡ blocks_of e → count ≡ length (flat_map (λ b. b.instrs) blocks) → own ≡ take place (own_of functions)
    → more ≡ own ++ count ∷ [] → more ≡ take (place + 1) (own_of functions)
own_more functions place x e blocks count own more there seen is so_far added =
    let own_length : List ℕ × FunctionView → ℕ = λ f. length (flat_map (λ b. b.instrs) (blocks_of f.1)) in
    let inside : place < length (own_of functions) = subst (λ n. place < n) (sym (length-map functions own_length)) (get_below functions place (x, e) there) in
    let mine : count ≡ slice_index (own_of functions) place = is ∙ ap (λ bs. length (flat_map (λ (b : BlockView). b.instrs) bs)) seen ∙ sym (mapped_at own_length functions place 0 (x, e) there) in
    added ∙ ap (λ xs. xs ++ count ∷ []) so_far ∙ ap (λ n. take place (own_of functions) ++ n ∷ []) mine ∙ sym (take_more (own_of functions) place 0 inside)

-- ---- totals

body_there : (m : ModuleView) (g : List ℕ) (e : FunctionView) → function_of m g ≡ Some e → body_of m g ≡ flat_map (λ b. b.instrs) (blocks_of e)
body_there m g e found =
    ap (λ o. flat_map (λ (b : BlockView). b.instrs) (flat_map blocks_of (option_to_list o))) found ∙ ap (flat_map (λ (b : BlockView). b.instrs)) (append-nil (blocks_of e))

module _ (m : ModuleView) (distinct : IsDistinct bytes_eq (names_of m.functions)) (p : ℕ) (below : p < length m.functions) where
  -- a total of the calls by places is an expanded length
  pub total_length : (t : ℕ) → IsTotal (call_graph m) (own_of m.functions) p t → IsLength m (name_of_entry m.functions p) t
  total_length t total = record {
    length_of = by_name m.functions total.total_of;
    sums = sums;
    is = ap (at_option m.functions total.total_of) (entry_at called_by m.functions distinct p below).2 ∙ total.is;
  }
    where
      reached : (g : List ℕ) (q : ℕ) → place_of g m.functions ≡ Some q → Leads (HasCall m) (name_of_entry m.functions p) g → Leads (IsTarget (targets_of (call_graph m))) p q
      reached g q place (left, w) =
          let r = walk_places called_by m.functions distinct left (name_of_entry m.functions p) g q place
          (walks_by (HasCall m) (NameLeads called_by m.functions) (call_to m) left (name_of_entry m.functions p) g w) in
          let same : r.0 ≡ p = same_some r.0 p (sym r.1 ∙ (entry_at called_by m.functions distinct p below).2) in
          (r.2, subst (λ a. Walks (HasEdge (call_graph m)) a r.2 q) same r.3)
        where
          same_some : (k j : ℕ) → Some k ≡ Some j → k ≡ j
          same_some k j e = cc

      at_place_of : (g : List ℕ) (q : ℕ) → place_of g m.functions ≡ Some q → Leads (IsTarget (targets_of (call_graph m))) p q
          → total.total_of q ≡ sum (map (weight (by_name m.functions total.total_of)) (body_of m g))
      at_place_of g q place led =
          let L : List ℕ → ℕ = by_name m.functions total.total_of in
          let s = at_place m.functions g q place in
          let own_length : List ℕ × FunctionView → ℕ = λ f. length (flat_map (λ b. b.instrs) (blocks_of f.1)) in
          let body = body_there m g s.0 s.1.found in
          let equation : total.total_of q ≡ slice_index (own_of m.functions) q + sum_by total.total_of (targets_of (call_graph m) q) = total.sums q led in
          let own : slice_index (own_of m.functions) q ≡ length (body_of m g) = mapped_at own_length m.functions q 0 (g, s.0) s.1.there ∙ ap length (sym body) in
          let targets : targets_of (call_graph m) q ≡ places_of m.functions (called_by s.0) = targets_at called_by m.functions distinct q g s.0 s.1.there in
          let called : flat_map (λ i. callees i.act) (body_of m g) ≡ called_by s.0 = ap (flat_map (λ (i : InstrView). callees i.act)) body in
          let along : sum_by total.total_of (targets_of (call_graph m) q) ≡ sum_by (by_name m.functions total.total_of) (flat_map (λ i. callees i.act) (body_of m g)) =
          ap (sum_by total.total_of) targets ∙ sum_places m.functions total.total_of (called_by s.0) ∙ ap (sum_by (by_name m.functions total.total_of)) (sym called) in
          let weights = sum_weights (by_name m.functions total.total_of) (body_of m g) in
          omega (arith, equation, own, along, weights)

      sums : (g : List ℕ) → Leads (HasCall m) (name_of_entry m.functions p) g → by_name m.functions total.total_of g ≡ sum (map (weight (by_name m.functions total.total_of)) (body_of m g))
      sums g led = by (place_of g m.functions) refl
        where
          by : (o : Option ℕ) → place_of g m.functions ≡ o → at_option m.functions total.total_of o ≡ sum (map (weight (by_name m.functions total.total_of)) (body_of m g))
          by None e = ap (λ o. sum (map (weight (by_name m.functions total.total_of)) (flat_map (λ (b : BlockView). b.instrs) (flat_map blocks_of (option_to_list o))))) (sym (no_place m.functions g e))
          by (Some q) e = at_place_of g q e (reached g q e led)

  -- and what leads to a cycle by places does so by names
  pub cycle_leads : LeadsToCycle (targets_of (call_graph m)) p → named.LeadsToCycle m (name_of_entry m.functions p)
  cycle_leads (c, (left, w), cycle) =
      let step = walk_names called_by m.functions distinct left p c below w in
      let node : c < length m.functions = on_cycle cycle in (
        name_of_entry m.functions c,
        (map (name_of_entry m.functions) left, walks_by (NameLeads called_by m.functions) (HasCall m) (call_from m) (map (name_of_entry m.functions) left) (name_of_entry m.functions p) (name_of_entry m.functions c) step),
        cycle_by (NameLeads called_by m.functions) (HasCall m) (call_from m) (name_of_entry m.functions c) (cycle_names called_by m.functions distinct c node cycle),
      )
    where
      on_cycle : IsOnCycle (HasEdge (call_graph m)) c → c < length m.functions
      on_cycle (b, r, l) = subst (λ n. c < n) (graph_length called_by m.functions) (has_node (call_graph m) c b r)

  pub says_length : (graph : List (List ℕ)) (own : List ℕ) (o : Option ℕ) → graph ≡ call_graph m → own ≡ own_of m.functions → IsSum graph own 100001 p o → SaysLength m o p
  says_length graph own o is mine h = by o (subst (λ os. IsSum (call_graph m) os 100001 p o) mine (subst (λ g. IsSum g own 100001 p o) is h))
    where
      by : (o : Option ℕ) → IsSum (call_graph m) (own_of m.functions) 100001 p o → SaysLength m o p
      by None h = cycle_leads h
      by (Some n) (clear, t, total, cut) = (t, total_length t total, cut)
