-- Edges and calls, by the entries of a table.
use Rattle.std.proofs.Common.{◌≡◌, ℕ, Bool, true, false, cond, Option, Some, None, option_map, List, [], ◌∷◌, map, refl, sym, ◌∙◌, ap, subst}
use Rattle.std.specs.Prelude.{find, flat_map, option_to_list, bytes_eq, Contains}
use Rattle.std.specs.List.{IsDistinct}
use Rattle.std.proofs.lemmas.List.{append-nil}
use Rattle.ir_ast.specs.Program.{BlockView, FunctionView, ModuleView}
use Rattle.ir_ast.specs.ProgramView.{view_block}
use Rattle.ir_ast.specs.Table.{names_of}
use Rattle.ir_ast.specs.declared.instr.Block.{Block}
use Rattle.hk_graph.specs.Walks.{Walks, IsOnCycle}
use Rattle.ir_type.specs.Names.{entry_of}
use Rattle.ir_type.specs.Rows.{targets, callees}
use Rattle.ir_typing.specs.Registers.{blocks_of, block_of, function_of}
use Rattle.ir_check.specs.Paths.{targets_of, HasEdge, HasCall}
use Rattle.ir_check.specs.Graphs.{next_names, NameLeads, named, named_blocks, block_targets, called_by, places_among, graph_by}

-- ---- walks of one relation are walks of another

module _ {A : Type 0} (R S : A → A → Type 0) (to : (a b : A) → R a b → S a b) where
  pub walks_by : (left : List A) (a b : A) → Walks R a left b → Walks S a left b
  walks_by [] a b e = e
  walks_by (x ∷ left) a b (e, y, r, w) = (e, y, to x y r, walks_by left y b w)

  pub cycle_by : (a : A) → IsOnCycle R a → IsOnCycle S a
  cycle_by a (b, r, (left, w)) = (b, to a b r, (left, walks_by left b a w))

-- ---- edges

block_found : (x : List ℕ) (blocks : List BlockView) → entry_of x (named blocks) ≡ find (λ b. bytes_eq x b.name) blocks
block_found x [] = refl
block_found x (b ∷ blocks) = by (bytes_eq x b.name) (block_found x blocks)
  where
    by : (t : Bool) → option_map (λ e. e.1) (find (λ e. bytes_eq x e.0) (named blocks)) ≡ find (λ b. bytes_eq x b.name) blocks
        → option_map (λ e. e.1) (cond t (Some (b.name, b)) (find (λ e. bytes_eq x e.0) (named blocks))) ≡ cond t (Some b) (find (λ b. bytes_eq x b.name) blocks)
    by true rest = refl
    by false rest = rest

pub block_entry : (f : FunctionView) (x : List ℕ) → entry_of x (named_blocks f) ≡ block_of f x
block_entry f x = block_found x (blocks_of f)

of_block : (o : Option BlockView) → flat_map (λ i. targets i.act) (flat_map (λ b. b.instrs) (option_to_list o)) ≡ next_names block_targets o
of_block None = refl
of_block (Some b) = ap (flat_map (λ i. targets i.act)) (append-nil b.instrs)

pub edges_are : (f : FunctionView) (x : List ℕ) → targets_of f x ≡ next_names block_targets (entry_of x (named_blocks f))
edges_are f x = of_block (block_of f x) ∙ ap (next_names block_targets) (sym (block_entry f x))

pub edge_to : (f : FunctionView) (x y : List ℕ) → HasEdge f x y → NameLeads block_targets (named_blocks f) x y
edge_to f x y c = subst (λ ts. Contains ts y) (edges_are f x) c

pub edge_from : (f : FunctionView) (x y : List ℕ) → NameLeads block_targets (named_blocks f) x y → HasEdge f x y
edge_from f x y c = subst (λ ts. Contains ts y) (sym (edges_are f x)) c

-- ---- calls

of_function : (o : Option FunctionView) → flat_map (λ i. callees i.act) (flat_map (λ b. b.instrs) (flat_map blocks_of (option_to_list o))) ≡ next_names called_by o
of_function None = refl
of_function (Some f) = ap (λ bs. flat_map (λ i. callees i.act) (flat_map (λ b. b.instrs) bs)) (append-nil (blocks_of f))

pub call_to : (m : ModuleView) (f g : List ℕ) → HasCall m f g → NameLeads called_by m.functions f g
call_to m f g c = subst (λ ts. Contains ts g) (of_function (function_of m f)) c

pub call_from : (m : ModuleView) (f g : List ℕ) → NameLeads called_by m.functions f g → HasCall m f g
call_from m f g c = subst (λ ts. Contains ts g) (sym (of_function (function_of m f))) c

-- ---- the graph of blocks that the code makes

pub names_of_blocks : (blocks : List Block) → names_of (named (map view_block blocks)) ≡ map (λ b. b.name) blocks
names_of_blocks [] = refl
names_of_blocks (b ∷ blocks) = ap (λ ns. b.name ∷ ns) (names_of_blocks blocks)

rows_by : (index : List (List ℕ)) (blocks : List Block)
    → map (λ b. places_among index (block_targets (view_block b))) blocks ≡ map (λ e. places_among index (block_targets e.1)) (named (map view_block blocks))
rows_by index [] = refl
rows_by index (b ∷ blocks) = ap (λ rs. places_among index (block_targets (view_block b)) ∷ rs) (rows_by index blocks)

pub graph_made : (index : List (List ℕ)) (blocks : List Block) (graph : List (List ℕ)) → index ≡ map (λ b. b.name) blocks
    → graph ≡ map (λ b. places_among index (block_targets (view_block b))) blocks → graph ≡ graph_by block_targets (named (map view_block blocks))
graph_made index blocks graph is made =
    made ∙ rows_by index blocks ∙ ap (λ ns. map (λ e. places_among ns (block_targets e.1)) (named (map view_block blocks))) (is ∙ sym (names_of_blocks blocks))

pub names_differ : (index : List (List ℕ)) (blocks : List Block) → index ≡ map (λ b. b.name) blocks → IsDistinct bytes_eq index
    → IsDistinct bytes_eq (names_of (named (map view_block blocks)))
names_differ index blocks is d = subst (IsDistinct bytes_eq) (is ∙ sym (names_of_blocks blocks)) d
