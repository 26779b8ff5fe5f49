-- What the flags and the edges of a graph say of its orders.
use Rattle.std.proofs.Common.{◌≡◌, ◌⊎◌, inl, inr, ℕ, zero, suc, ◌<◌, ◌≤◌, Bool, true, false, List, [], ◌∷◌, length, refl, subst, arith}
use Rattle.std.specs.Prelude.{Contains}
use Rattle.std.proofs.lemmas.Bool.{cases_lt}
use Rattle.std.proofs.lemmas.List.{get_or_past}
use Rattle.hk_graph.specs.Walks.{HasEdge}
use Rattle.hk_graph.specs.Sorted.{IsOrder, IsAnswer, flag_of}
use Rattle.hk_flow.specs.Onward.{AreClear, IsForward}
use Rattle.ir_check.specs.Graphs.{LeadsBack, HasNoOrder, IsOnward}

-- what has an edge is a node
pub has_node : (graph : List (List ℕ)) (p q : ℕ) → HasEdge graph p q → p < length graph
has_node graph p q c = pick (cases_lt p (length graph))
  where
    none : Contains [] q → p < length graph
    none (k, l, e) = absurd (omega (arith, l))

    pick : (p < length graph) ⊎ (length graph ≤ p) → p < length graph
    pick (inl l) = l
    pick (inr l) = none (subst (λ ts. Contains ts q) (get_or_past graph p [] l) c)

pub no_edge_back : (graph : List (List ℕ)) (n : ℕ) → length graph ≤ n → ((p : ℕ) → p < n → HasEdge graph p 0 → ⊥) → LeadsBack graph → ⊥
no_edge_back graph n most none (p, e) = let l = has_node graph p 0 e in none p (omega arith) e

flagged : (flags : List Bool) → (AreClear flags → ⊥) → (p : ℕ) × (p < length flags) × (flag_of flags p ≡ true)
flagged [] h = absurd (h (λ v. refl))
flagged (true ∷ flags) h = (0, omega arith, refl)
flagged (false ∷ flags) h =
    let rest = flagged flags (λ clear. h (later clear)) in
    let l = rest.1 in
    (suc rest.0, omega arith, rest.2)
  where
    later : AreClear flags → (v : ℕ) → flag_of (false ∷ flags) v ≡ false
    later clear zero = refl
    later clear (suc v) = clear v

pub looping : (graph : List (List ℕ)) (nodes : List ℕ) (cyclic : List Bool) → IsOrder graph nodes cyclic → (AreClear cyclic → ⊥) → HasNoOrder graph
looping graph nodes cyclic o h =
    let p = flagged cyclic h in
    let l = p.1 in
    let m = o.flags in
    let n : p.0 < length graph = omega arith in
    inl (p.0, n, subst (λ b. IsAnswer graph b p.0) p.2 (o.answers p.0 n))

pub onward : (graph : List (List ℕ)) (nodes order : List ℕ) (cyclic : List Bool) → IsOrder graph nodes cyclic → AreClear cyclic → IsForward graph order → (LeadsBack graph → ⊥) → IsOnward graph order
onward graph nodes order cyclic o clear f ahead = record {
  forward = f;
  acyclic = λ p l. subst (λ b. IsAnswer graph b p) (clear p) (o.answers p l);
  ahead = ahead;
}
