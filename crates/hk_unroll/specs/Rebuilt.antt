-- The function that stands for one with loops, and the module in which each such function is rebuilt.
use Rattle.std.specs.Prelude.{◌≡◌, ◌⊎◌, ℕ, ◌+◌, ◌<◌, Bool, true, false, ◌&&◌, ◌==◌, if◌then◌else◌, nat_le, nat_lt, Option, Some, None, option_map, unwrap_or, List, [], ◌∷◌, ◌++◌, map, flat_map, filter, find, length, position, bytes_eq, slice_get, slice_index_or, Contains}
use Rattle.std.specs.List.{list_any}
use Rattle.ir_ast.specs.Plain.{Ty, Val, local, null}
use Rattle.ir_ast.specs.Program.{Act, phi, unreachable, InstrView, BlockView, FunctionView, ModuleView}
use Rattle.hk_graph.specs.Walks.{targets_of}
use Rattle.ir_typing.specs.Registers.{blocks_of}
use Rattle.ir_typing.specs.Places.{block_names}
use Rattle.ir_check.specs.Graphs.{block_graph}
use Rattle.ir_check.specs.Sites.{IsPassed}
use Rattle.hk_unroll.specs.declared.copies.BlockCopy.{BlockCopy}
use Rattle.hk_unroll.specs.declared.registers.Holding.{Holding}
use Rattle.hk_unroll.specs.declared.registers.Holding.TheVariants.{Value, Slot, Pair}
use Rattle.hk_unroll.specs.declared.registers.Setting.{Setting}
use Rattle.hk_unroll.specs.Copies.{HasCycle, led_to, arrivals, copies_of}
use Rattle.hk_unroll.specs.Registers.{registers_of, setting_of, register_place, type_of}
use Rattle.hk_unroll.specs.Names.{names_of, fresh, block_name, register_name, phi_name, end_name}
use Rattle.hk_unroll.specs.Missing.{Tells}
use Rattle.hk_unroll.specs.Renaming.{renamed, readdressed}

-- a function with loops, how many turns are taken at most, a number that begins no name, and the test which blocks, by their places,
-- every path to a block leaves
pub record Loops : Type 0 where
  pub function : FunctionView
  pub most : ℕ
  pub fresh : ℕ
  pub is_passed : ℕ → ℕ → Bool

abbrev pub graph_of : Loops → List (List ℕ)
graph_of l = block_graph l.function

-- the copies that are made
abbrev pub made : Loops → List BlockCopy
made l = copies_of (graph_of l) l.most

-- the copies from which edges arrive at a copy, one for each edge
abbrev pub arriving : Loops → BlockCopy → List BlockCopy
arriving l c = arrivals (graph_of l) (made l) c

-- ---- names in a copy

-- copies without a turn keep the name of the block
abbrev pub copy_name : Loops → BlockCopy → List ℕ
copy_name l c = if c.turns == 0 then slice_index_or (block_names l.function) c.block [] else block_name l.fresh c

-- and the names of what they set
abbrev pub set_name : Loops → ℕ → List ℕ → List ℕ
set_name l turns x = if turns == 0 then x else register_name l.fresh turns (register_place l.function x)

-- what a copy sets for the result of an instruction
abbrev pub result_name : Loops → ℕ → List ℕ → List ℕ
result_name l turns x = set_name l turns x

-- a register at the start of a copy: its added phi; slots keep their names, which one copy alone sets, and so do pairs, which are used in
-- their own blocks
abbrev pub start_name : Loops → BlockCopy → List ℕ → Holding → List ℕ
start_name l c x Value = phi_name l.fresh c (register_place l.function x)
start_name l c x Slot = x
start_name l c x Pair = x

-- the instruction stands in the block of the copy, among so many
abbrev pub is_before : Setting → BlockCopy → ℕ → Bool
is_before s c count = (s.block == c.block) && nat_lt s.place count

abbrev pub name_of : Loops → BlockCopy → ℕ → List ℕ → Option Setting → List ℕ
name_of l c count x None = x
name_of l c count x (Some s) = if is_before s c count then set_name l c.turns x else start_name l c x s.holding

-- the name by which a register is known in a copy behind so many instructions of its block; parameters keep theirs
abbrev pub known_as : Loops → BlockCopy → ℕ → List ℕ → List ℕ
known_as l c count x = name_of l c count x (setting_of l.function x)

abbrev pub instrs_at : Loops → ℕ → List InstrView
instrs_at l b = unwrap_or (option_map (λ (b : BlockView). b.instrs) (slice_get (blocks_of l.function) b)) []

-- and at the end of the copy
abbrev pub known_at_end : Loops → BlockCopy → List ℕ → List ℕ
known_at_end l c x = known_as l c (length (instrs_at l c.block)) x

-- ---- edges

abbrev pub led_name : Loops → BlockCopy → List ℕ → Option ℕ → List ℕ
led_name l c y None = y
led_name l c y (Some to) = if nat_le (led_to c to).turns l.most then copy_name l (led_to c to) else end_name l.fresh

-- the block to which an edge from a copy leads: a turn behind the last leads to the added block
abbrev pub target_name : Loops → BlockCopy → List ℕ → List ℕ
target_name l c y = led_name l c y (position (bytes_eq y) (block_names l.function))

-- ---- phis: one arm for each edge that arrives, with what is known at the end of the copy that the edge leaves

abbrev pub is_at : Option ℕ → ℕ → Bool
is_at None b = false
is_at (Some p) b = p == b

-- the operand of a phi for the edges from the block at a place
abbrev pub arm_of : Loops → List (Val × List ℕ) → ℕ → Val
arm_of l arms b = unwrap_or (option_map (λ arm. arm.0) (find (λ arm. is_at (position (bytes_eq arm.1) (block_names l.function)) b) arms)) null

abbrev pub copied_arm : Loops → List (Val × List ℕ) → BlockCopy → Val × List ℕ
copied_arm l arms from = (renamed (known_at_end l from) (arm_of l arms from.block), copy_name l from)

-- the register is a number or a pointer, and every path to the block leaves the one that sets it
abbrev pub is_carried : Loops → ℕ → Option Setting → Bool
is_carried l b None = false
is_carried l b (Some s) = carries s.holding
  where
    carries : Holding → Bool
    carries Value = l.is_passed s.block b
    carries Slot = false
    carries Pair = false

abbrev pub added_arm : Loops → List ℕ → BlockCopy → Val × List ℕ
added_arm l x from = (local (known_at_end l from x), copy_name l from)

-- the phi that is added to a copy for a register; it stands on the line of the instruction that sets it
abbrev pub added_phi : Loops → BlockCopy → List ℕ × Option Setting → List InstrView
added_phi l c (x, None) = []
added_phi l c (x, Some s) =
    record {
      line = s.line;
      result = Some (phi_name l.fresh c (register_place l.function x));
      act = phi (type_of (blocks_of l.function) s) (map (added_arm l x) (arriving l c));
    } ∷ []

-- one for each register that is carried into its block, in text order
abbrev pub added_phis : Loops → BlockCopy → List InstrView
added_phis l c = flat_map (added_phi l c) (filter (λ r. is_carried l c.block r.1) (registers_of l.function))

-- ---- the copy of a block

abbrev pub copied_act : Loops → BlockCopy → ℕ → Act → Act
copied_act l c count (phi over arms) = phi over (map (copied_arm l arms) (arriving l c))
copied_act l c count act = readdressed (known_as l c count) (target_name l c) act

-- the copy of an instruction behind so many others of its block; lines are kept
abbrev pub copied_instr : Loops → BlockCopy → ℕ → InstrView → InstrView
copied_instr l c count i = record { line = i.line; result = option_map (result_name l c.turns) i.result; act = copied_act l c count i.act }

abbrev pub copied_instrs : Loops → BlockCopy → ℕ → List InstrView → List InstrView
copied_instrs l c count [] = []
copied_instrs l c count (i ∷ is) = copied_instr l c count i ∷ copied_instrs l c (count + 1) is

abbrev pub copied_from : Loops → BlockCopy → Option BlockView → List BlockView
copied_from l c None = []
copied_from l c (Some b) = record { line = b.line; name = copy_name l c; instrs = added_phis l c ++ copied_instrs l c 0 b.instrs } ∷ []

abbrev pub copied_block : Loops → BlockCopy → List BlockView
copied_block l c = copied_from l c (slice_get (blocks_of l.function) c.block)

-- ---- the rebuilt function

-- a turn behind the last leaves the copy
abbrev pub leaves : Loops → BlockCopy → Bool
leaves l c = list_any (λ to. nat_lt l.most (led_to c to).turns) (targets_of (graph_of l) c.block)

-- the block to which turns behind the last lead, at the line of the function
abbrev pub end_block : Loops → BlockView
end_block l = record { line = l.function.line; name = end_name l.fresh; instrs = record { line = l.function.line; result = None; act = unreachable } ∷ [] }

abbrev pub end_blocks : Loops → List BlockView
end_blocks l = if list_any (leaves l) (made l) then end_block l ∷ [] else []

abbrev pub rebuilt_blocks : Loops → List BlockView
rebuilt_blocks l = flat_map (copied_block l) (made l) ++ end_blocks l

abbrev pub rebuilt : Loops → FunctionView
rebuilt l = record l.function { body = Some (rebuilt_blocks l) }

-- the test says of each block that sets a register which blocks no path from the first block reaches without leaving it
abbrev pub TellsPassed : FunctionView → (ℕ → ℕ → Bool) → Type 0
TellsPassed f is_passed =
    (x : List ℕ) (s : Setting) (to : ℕ) → Contains (registers_of f) (x, Some s) → to < length (blocks_of f) → Tells (is_passed s.block to) (IsPassed (block_graph f) s.block to)

-- the function is rebuilt, within so many turns
abbrev pub IsRebuilt : ℕ → FunctionView → FunctionView → Type 0
IsRebuilt n f g =
    (is_passed : ℕ → ℕ → Bool) × TellsPassed f is_passed
    × (g ≡ rebuilt (record { function = f; most = n; fresh = fresh (names_of f); is_passed = is_passed }))

-- a function without a cycle is left as it is
abbrev pub StandsFor : ℕ → FunctionView → FunctionView → Type 0
StandsFor n f g = ((HasCycle f → ⊥) × (g ≡ f)) ⊎ (HasCycle f × IsRebuilt n f g)

-- functions stand for functions one by one, under the same names
abbrev pub AreUnrolled : ℕ → List (List ℕ × FunctionView) → List (List ℕ × FunctionView) → Type 0
AreUnrolled n [] gs = gs ≡ []
AreUnrolled n (e ∷ fs) gs = (g : FunctionView) × (rest : List (List ℕ × FunctionView)) × (gs ≡ (e.0, g) ∷ rest) × StandsFor n e.1 g × AreUnrolled n fs rest

-- the module in which each function with a cycle is rebuilt
pub record Unrolls (n : ℕ) (m u : ModuleView) : Type 0 where
  pub layout_text : u.layout_text ≡ m.layout_text
  pub types : u.types ≡ m.types
  pub globals : u.globals ≡ m.globals
  pub ranges : u.ranges ≡ m.ranges
  pub functions : AreUnrolled n m.functions u.functions
