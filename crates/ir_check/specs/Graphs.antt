-- Blocks and functions by their places: the graph of a function's edges, and that of a module's calls.
use Rattle.std.specs.Prelude.{◌≡◌, ℕ, ◌<◌, ◌⊎◌, Bool, true, false, Option, Some, None, List, [], length, map, flat_map, position, option_to_list, min, bytes_eq, slice_index_or}
use Rattle.std.specs.List.{Contains}
use Rattle.ir_ast.specs.Program.{BlockView, FunctionView, ModuleView}
use Rattle.ir_ast.specs.Table.{names_of}
use Rattle.hk_graph.specs.Walks.{Leads, HasEdge, IsOnCycle}
use Rattle.hk_flow.specs.Onward.{IsForward}
use Rattle.ir_type.specs.Names.{entry_of}
use Rattle.ir_type.specs.Rows.{targets, callees}
use Rattle.ir_type.specs.Cycles.{places_of}
use Rattle.ir_typing.specs.Registers.{blocks_of}
use Rattle.ir_check.specs.Paths.{HasCall, IsLength}

-- ---- entries that lead to names

abbrev pub next_names : {E : Type 0} → (E → List (List ℕ)) → Option E → List (List ℕ)
next_names next None = []
next_names next (Some e) = next e

-- the entry named x leads to the name y
abbrev pub NameLeads : {E : Type 0} → (E → List (List ℕ)) → List (List ℕ × E) → List ℕ → List ℕ → Type 0
NameLeads next entries x y = Contains (next_names next (entry_of x entries)) y

-- the graph of the places: each entry leads to those that have the names that it leads to
abbrev pub graph_by : {E : Type 0} → (E → List (List ℕ)) → List (List ℕ × E) → List (List ℕ)
graph_by next entries = map (λ e. places_of entries (next e.1)) entries

-- the name of the entry at a place
abbrev pub name_of_entry : {E : Type 0} → List (List ℕ × E) → ℕ → List ℕ
name_of_entry entries p = slice_index_or (names_of entries) p []

-- the places of names in a list of names, where they have one
abbrev pub places_among : List (List ℕ) → List (List ℕ) → List ℕ
places_among index names = flat_map (λ x. option_to_list (position (bytes_eq x) index)) names

-- ---- blocks and functions

abbrev pub named : List BlockView → List (List ℕ × BlockView)
named blocks = map (λ b. (b.name, b)) blocks

abbrev pub named_blocks : FunctionView → List (List ℕ × BlockView)
named_blocks f = named (blocks_of f)

-- the blocks that a block goes to, one for each edge
abbrev pub block_targets : BlockView → List (List ℕ)
block_targets b = flat_map (λ i. targets i.act) b.instrs

abbrev pub block_graph : FunctionView → List (List ℕ)
block_graph f = graph_by block_targets (named_blocks f)

-- the functions that a function calls, one for each call
abbrev pub called_by : FunctionView → List (List ℕ)
called_by f = flat_map (λ i. callees i.act) (flat_map (λ b. b.instrs) (blocks_of f))

abbrev pub call_graph : ModuleView → List (List ℕ)
call_graph m = graph_by called_by m.functions

-- the flag says whether the function at the place lies on a cycle of calls
abbrev pub SaysCalls : ModuleView → Bool → ℕ → Type 0
SaysCalls m true p = IsOnCycle (HasCall m) (name_of_entry m.functions p)
SaysCalls m false p = IsOnCycle (HasCall m) (name_of_entry m.functions p) → ⊥

-- how many instructions each function has
abbrev pub own_of : List (List ℕ × FunctionView) → List ℕ
own_of functions = map (λ e. length (flat_map (λ b. b.instrs) (blocks_of e.1))) functions

-- calls lead from the function to a cycle, so it has no length
abbrev pub LeadsToCycle : ModuleView → List ℕ → Type 0
LeadsToCycle m f = (g : List ℕ) × Leads (HasCall m) f g × IsOnCycle (HasCall m) g

-- the expanded length of the function at the place, cut at one more than the limit, or nothing where calls lead to a cycle
abbrev pub SaysLength : ModuleView → Option ℕ → ℕ → Type 0
SaysLength m None p = LeadsToCycle m (name_of_entry m.functions p)
SaysLength m (Some n) p = (t : ℕ) × IsLength m (name_of_entry m.functions p) t × (n ≡ min t 100001)

-- ---- orders

-- an edge leads to node 0
abbrev pub LeadsBack : List (List ℕ) → Type 0
LeadsBack graph = (p : ℕ) × HasEdge graph p 0

-- some node lies on a cycle, or an edge leads to node 0
abbrev pub HasNoOrder : List (List ℕ) → Type 0
HasNoOrder graph = ((p : ℕ) × (p < length graph) × IsOnCycle (HasEdge graph) p) ⊎ LeadsBack graph

-- each edge goes forward, and none to node 0
pub record IsOnward (graph : List (List ℕ)) (order : List ℕ) : Type 0 where
  pub forward : IsForward graph order
  pub acyclic : (p : ℕ) → p < length graph → IsOnCycle (HasEdge graph) p → ⊥
  pub ahead : LeadsBack graph → ⊥
