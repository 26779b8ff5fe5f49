-- Why a function with a cycle is not rebuilt: X1, X2 and X3.
use Rattle.std.specs.Prelude.{◌≡◌, ◌≢◌, ◌⊎◌, ℕ, ◌+◌, ◌*◌, ◌<◌, ◌≤◌, Bool, true, false, ◌&&◌, is_some, List, ◌∷◌, ◌++◌, map, flat_map, length, sum, Contains}
use Rattle.std.specs.List.{list_all}
use Rattle.ir_ast.specs.Plain.{Ty}
use Rattle.ir_ast.specs.Program.{Act, InstrView, BlockView, FunctionView, ModuleView}
use Rattle.ir_type.specs.Names.{entry_of}
use Rattle.ir_type.specs.Rows.{used, targets, arm_blocks}
use Rattle.ir_typing.specs.Registers.{Kind, slot_of, pair_of, blocks_of, block_of, registers_of, set_by}
use Rattle.ir_check.specs.Paths.{HasEdge, IsEntry, uses, Use, FallsK12, results}
use Rattle.ir_check.specs.Arms.{FallsK15}
use Rattle.hk_unroll.specs.declared.fault.UnrollFault.{UnrollFault}
use Rattle.hk_unroll.specs.declared.fault.UnrollReason.{UnrollReason}
use Rattle.hk_unroll.specs.declared.fault.UnrollReason.TheVariants.{X1, X2, X3}
use Rattle.hk_unroll.specs.declared.fault.UnrollStop.{UnrollStop}
use Rattle.hk_unroll.specs.declared.fault.UnrollStop.TheVariants.{Refused, Memory}
use Rattle.hk_unroll.specs.Copies.{HasCycle}

-- an instruction of the function, its block and the instructions before it
pub record IsInstr (f : FunctionView) (b : BlockView) (before : List InstrView) (i : InstrView) : Type 0 where
  pub block : Contains (blocks_of f) b
  pub after : List InstrView
  pub stands : b.instrs ≡ before ++ i ∷ after

-- ---- X1

-- each register and each block that it names is one of the function
abbrev pub knows_names : FunctionView → Act → Bool
knows_names f act =
    list_all (λ x. is_some (entry_of x (registers_of f))) (used act)
    && list_all (λ x. is_some (block_of f x)) (targets act)
    && list_all (λ x. is_some (block_of f x)) (arm_blocks act)

-- an item falls under K8 for a register or a block, under K12 or under K15
abbrev pub FallsX1 : ModuleView → FunctionView → Type 0
FallsX1 m f =
    (b : BlockView) × (before : List InstrView) × (i : InstrView) × IsInstr f b before i
    × ((knows_names f i.act ≡ false) ⊎ FallsK12 f b before i ⊎ FallsK15 m.types f b i.act)

-- ---- X2

-- an edge leads to the first block
abbrev pub LeadsToFirst : FunctionView → Type 0
LeadsToFirst f = (x y : List ℕ) × HasEdge f x y × IsEntry f y

-- a slot stands outside the first block
abbrev pub HasStraySlot : FunctionView → Type 0
HasStraySlot f =
    (b : BlockView) × (before : List InstrView) × (i : InstrView) × IsInstr f b before i
    × ((x : List ℕ) × (t : Ty) × Contains (set_by i) (x, slot_of t)) × (IsEntry f b.name → ⊥)

-- the block sets the register to a pair
abbrev pub SetsPair : BlockView → List ℕ → Type 0
SetsPair b x = (t : Ty) × Contains (flat_map set_by b.instrs) (x, pair_of t)

-- a pair is used outside the block that sets it
abbrev pub HasStrayPair : FunctionView → Type 0
HasStrayPair f =
    (home b : BlockView) × (before : List InstrView) × (i : InstrView) × (u : Use) × Contains (blocks_of f) home × IsInstr f b before i
    × Contains (uses f b before i.act) u × SetsPair home u.register × (u.block ≢ home.name)

abbrev pub FallsX2 : FunctionView → Type 0
FallsX2 f = LeadsToFirst f ⊎ HasStraySlot f ⊎ HasStrayPair f

-- ---- X3

abbrev pub instr_count : FunctionView → ℕ
instr_count f = sum (map (λ (b : BlockView). length b.instrs) (blocks_of f))

abbrev pub result_count : FunctionView → ℕ
result_count f = sum (map (λ (b : BlockView). length (results b.instrs)) (blocks_of f))

-- the instructions, and each register in each block, once for each number of turns, are more than 100,000
abbrev pub FallsX3 : FunctionView → ℕ → Type 0
FallsX3 f n = 100000 < (n + 1) * (instr_count f + length (blocks_of f) * result_count f)

-- ---- the first function that falls

abbrev pub Falls : ModuleView → ℕ → FunctionView → UnrollReason → Type 0
Falls m n f X1 = HasCycle f × FallsX1 m f
Falls m n f X2 = HasCycle f × FallsX2 f
Falls m n f X3 = HasCycle f × FallsX3 f n

abbrev pub number_of : UnrollReason → ℕ
number_of X1 = 1
number_of X2 = 2
number_of X3 = 3

abbrev pub FallsNot : ModuleView → ℕ → List ℕ × FunctionView → Type 0
FallsNot m n e = (r : UnrollReason) → Falls m n e.1 r → ⊥

-- the first function in text order that falls, at its line, with the least of its reasons
pub record IsFirstFall (m : ModuleView) (n : ℕ) (fault : UnrollFault) : Type 0 where
  pub before : List (List ℕ × FunctionView)
  pub name : List ℕ
  pub f : FunctionView
  pub after : List (List ℕ × FunctionView)
  pub stands : m.functions ≡ before ++ (name, f) ∷ after
  pub line : fault.line ≡ f.line
  pub falls : Falls m n f fault.reason
  pub first : (e : List ℕ × FunctionView) → Contains before e → FallsNot m n e
  pub least : (r : UnrollReason) → Falls m n f r → number_of fault.reason ≤ number_of r

-- a refusal is that of the first function that falls; want of memory says nothing
abbrev pub IsStop : ModuleView → ℕ → UnrollStop → Type 0
IsStop m n (Refused fault) = IsFirstFall m n fault
IsStop m n Memory = Unit
