-- Orders of blocks by places, and what they say of the blocks by names.
use Rattle.std.proofs.Common.{◌≡◌, inl, inr, ℕ, ◌<◌, Some, option_map, List, [], ◌∷◌, length, refl, sym, ◌∙◌, ap, subst, arith}
use Rattle.std.specs.Prelude.{slice_get, bytes_eq}
use Rattle.std.specs.List.{IsDistinct}
use Rattle.std.proofs.lemmas.List.{length-map}
use Rattle.std.proofs.lemmas.List.Elements.{All-weaker}
use Rattle.std.proofs.lemmas.Option.{slice_get-map}
use Rattle.ir_ast.specs.Program.{BlockView, FunctionView}
use Rattle.ir_ast.specs.Table.{names_of, place_of}
use Rattle.hk_graph.specs.Walks.{HasEdge}
use Rattle.ir_type.proofs.Places.{place_there, place_below}
use Rattle.ir_typing.specs.Registers.{blocks_of}
use Rattle.ir_check.specs.Paths as paths
use Rattle.ir_check.specs.Paths.{IsEntry, FallsK10}
use Rattle.ir_check.specs.Graphs.{NameLeads, named, named_blocks, name_of_entry, block_targets, block_graph, HasNoOrder, IsOnward}
use Rattle.ir_check.specs.Checked.{IsForward}
use Rattle.ir_check.proofs.EdgeLaws.{cycle_by, edge_to, edge_from}
use Rattle.ir_check.proofs.NamedGraph.{graph_length, name_of_place, edge_leads, leads_edge, cycle_names, any_cycle, known}
use Rattle.ir_check.proofs.OrderFacts.{has_node}

first_of_blocks : (blocks : List BlockView) → 0 < length (named blocks)
    → (b : BlockView) × (rest : List BlockView) × (blocks ≡ b ∷ rest) × (b.name ≡ name_of_entry (named blocks) 0)
first_of_blocks [] l = absurd (omega (arith, l))
first_of_blocks (b ∷ rest) l = (b, rest, refl, refl)

module _ (f : FunctionView) (distinct : IsDistinct bytes_eq (names_of (named_blocks f))) where
  pub block_there : (k : ℕ) (b : BlockView) → slice_get (blocks_of f) k ≡ Some b → slice_get (named_blocks f) k ≡ Some (b.name, b)
  block_there k b e = slice_get-map (λ (b : BlockView). (b.name, b)) (blocks_of f) k ∙ ap (option_map (λ (b : BlockView). (b.name, b))) e

  pub block_place : (k : ℕ) (b : BlockView) → slice_get (blocks_of f) k ≡ Some b → place_of b.name (named_blocks f) ≡ Some k
  block_place k b e = place_there (named_blocks f) b.name b k distinct (block_there k b e)

  pub entry_place : (x : List ℕ) → IsEntry f x → place_of x (named_blocks f) ≡ Some 0
  entry_place x (b, rest, is, named) = subst (λ y. place_of y (named_blocks f) ≡ Some 0) named (block_place 0 b (ap (λ bs. slice_get bs 0) is))

  pub entry_named : 0 < length (named_blocks f) → IsEntry f (name_of_entry (named_blocks f) 0)
  entry_named l = first_of_blocks (blocks_of f) l

  pub no_order_falls : HasNoOrder (block_graph f) → FallsK10 f
  no_order_falls (inl (p, l, cycle)) =
      let below = subst (λ n. p < n) (graph_length block_targets (named_blocks f)) l in
      inl (name_of_entry (named_blocks f) p, cycle_by (NameLeads block_targets (named_blocks f)) (paths.HasEdge f) (edge_from f) (name_of_entry (named_blocks f) p) (cycle_names block_targets (named_blocks f) distinct p below cycle))
  no_order_falls (inr (p, e)) =
      let l = has_node (block_graph f) p 0 e in
      let below = subst (λ n. p < n) (graph_length block_targets (named_blocks f)) l in
      let step = edge_leads block_targets (named_blocks f) distinct p 0 below e in
      inr (name_of_entry (named_blocks f) p, name_of_entry (named_blocks f) 0, edge_from f (name_of_entry (named_blocks f) p) (name_of_entry (named_blocks f) 0) step.0, entry_named step.1)

  pub onward_falls : (order : List ℕ) → IsOnward (block_graph f) order → FallsK10 f → ⊥
  onward_falls order o (inl (x, cycle)) =
      let c = any_cycle block_targets (named_blocks f) distinct x (cycle_by (paths.HasEdge f) (NameLeads block_targets (named_blocks f)) (edge_to f) x cycle) in
      o.acyclic c.0 (subst (λ n. c.0 < n) (sym (graph_length block_targets (named_blocks f))) c.1) c.2
  onward_falls order o (inr (x, y, e, entry)) =
      let leads = edge_to f x y e in
      let own = known block_targets (named_blocks f) distinct x y leads in
      let named_x = sym (name_of_place block_targets (named_blocks f) distinct x own.0 own.1) in
      o.ahead (
        own.0,
        leads_edge block_targets (named_blocks f) distinct own.0 0 y (place_below (named_blocks f) x own.0 own.1)
            (subst (λ z. NameLeads block_targets (named_blocks f) z y) named_x leads) (entry_place y entry),
      )

  count : length (block_graph f) ≡ length (blocks_of f)
  count = graph_length block_targets (named_blocks f) ∙ length-map (blocks_of f) (λ b. (b.name, b))

  pub edge_of_blocks : (k j : ℕ) (a b : BlockView) → slice_get (blocks_of f) k ≡ Some a → slice_get (blocks_of f) j ≡ Some b → paths.HasEdge f a.name b.name
      → HasEdge (block_graph f) k j
  edge_of_blocks k j a b at to e =
      let there = block_there k a at in
      let place = block_place k a at in
      let named_a = sym (name_of_place block_targets (named_blocks f) distinct a.name k place) in
      leads_edge block_targets (named_blocks f) distinct k j b.name (place_below (named_blocks f) a.name k place)
      (subst (λ z. NameLeads block_targets (named_blocks f) z b.name) named_a (edge_to f a.name b.name e)) (block_place j b to)

  pub onward_forward : (order : List ℕ) → IsOnward (block_graph f) order → IsForward f order
  onward_forward order o = record {
    once = o.forward.once;
    each = λ k l. o.forward.each k (subst (λ n. k < n) (sym count) l);
    within = All-weaker (λ k. k < length (block_graph f)) (λ k. k < length (blocks_of f)) (λ k l. subst (λ n. k < n) count l) order o.forward.within;
    forward = λ before after k j a b is at to e. o.forward.forward before after k j is (edge_of_blocks k j a b at to e);
  }
