-- Paths of blocks and of calls: K10, K11, K12 and K14.
use Rattle.std.specs.Prelude.{◌≡◌, ℕ, ◌+◌, ◌<◌, ◌^◌, ◌⊎◌, option_to_list, List, ◌∷◌, ◌++◌, map, flat_map, sum, length, Contains}
use Rattle.ir_ast.specs.Program.{Act, phi, InstrView, BlockView, FunctionView, ModuleView}
use Rattle.hk_graph.specs.Walks.{Walks, Leads, IsOnCycle}
use Rattle.ir_type.specs.Names.{locals_in}
use Rattle.ir_type.specs.Rows.{used, targets, callees}
use Rattle.ir_typing.specs.Registers.{blocks_of, block_of, function_of}

-- ---- edges, and K10

abbrev pub instrs_of : FunctionView → List ℕ → List InstrView
instrs_of f x = flat_map (λ b. b.instrs) (option_to_list (block_of f x))

-- the blocks that a block goes to, one for each edge
abbrev pub targets_of : FunctionView → List ℕ → List (List ℕ)
targets_of f x = flat_map (λ i. targets i.act) (instrs_of f x)

-- an edge from block x to block y
abbrev pub HasEdge : FunctionView → List ℕ → List ℕ → Type 0
HasEdge f x y = Contains (targets_of f x) y

-- the first block
abbrev pub IsEntry : FunctionView → List ℕ → Type 0
IsEntry f x = (b : BlockView) × (rest : List BlockView) × (blocks_of f ≡ b ∷ rest) × (b.name ≡ x)

abbrev pub FallsK10 : FunctionView → Type 0
FallsK10 f = ((x : List ℕ) × IsOnCycle (HasEdge f) x) ⊎ ((x : List ℕ) × (y : List ℕ) × HasEdge f x y × IsEntry f y)

-- the function has fewer than 2^32 blocks
abbrev pub AreFewBlocks : FunctionView → Type 0
AreFewBlocks f = length (blocks_of f) < 2 ^ 32

-- ---- calls, K11 and K14

-- the instructions of a function's body, and none where there is no body
abbrev pub body_of : ModuleView → List ℕ → List InstrView
body_of m name = flat_map (λ b. b.instrs) (flat_map blocks_of (option_to_list (function_of m name)))

-- function f calls function g
abbrev pub HasCall : ModuleView → List ℕ → List ℕ → Type 0
HasCall m f g = Contains (flat_map (λ i. callees i.act) (body_of m f)) g

abbrev pub FallsK11 : ModuleView → FunctionView → Type 0
FallsK11 m f = IsOnCycle (HasCall m) f.name

-- an instruction counts 1, and beside that the length of the function that it calls
abbrev pub weight : (List ℕ → ℕ) → InstrView → ℕ
weight length_of i = 1 + sum (map length_of (callees i.act))

-- n is the expanded length of f: there are lengths, each the sum of the weights of its function's body, of f and of all functions that
-- calls lead to. So there is none where they lead to a cycle, and a declared function has the length 0.
pub record IsLength (m : ModuleView) (f : List ℕ) (n : ℕ) : Type 0 where
  pub length_of : List ℕ → ℕ
  pub sums : (g : List ℕ) → Leads (HasCall m) f g → length_of g ≡ sum (map (weight length_of) (body_of m g))
  pub is : length_of f ≡ n

abbrev pub FallsK14 : ModuleView → FunctionView → Type 0
FallsK14 m f = (n : ℕ) × IsLength m f.name n × (100000 < n)

-- ---- uses, and K12

-- a register is used in a block behind these instructions
pub record Use : Type 0 where
  pub register : List ℕ
  pub block : List ℕ
  pub behind : List InstrView

-- the uses of an instruction behind these in its block: an operand of a phi is used at the end of the block that its arm names
abbrev pub uses : FunctionView → BlockView → List InstrView → Act → List Use
uses f b before (phi over arms) =
    flat_map (λ arm. map (λ x. record { register = x; block = arm.1; behind = instrs_of f arm.1 }) (locals_in arm.0)) arms
uses f b before act = map (λ x. record { register = x; block = b.name; behind = before }) (used act)

abbrev pub results : List InstrView → List (List ℕ)
results is = flat_map (λ i. option_to_list i.result) is

abbrev pub parameter_names : FunctionView → List (List ℕ)
parameter_names f = map (λ p. p.1) f.parameters

-- the registers that are set when these blocks are left and these instructions are done
abbrev pub set_along : FunctionView → List (List ℕ) → List InstrView → List (List ℕ)
set_along f left behind = parameter_names f ++ flat_map (λ x. results (instrs_of f x)) left ++ results behind

-- a path from the first block reaches the use without the definition
abbrev pub IsUndefined : FunctionView → Use → Type 0
IsUndefined f u =
    (entry : List ℕ) × IsEntry f entry × (left : List (List ℕ)) × Walks (HasEdge f) entry left u.block
    × (Contains (set_along f left u.behind) u.register → ⊥)

abbrev pub FallsK12 : FunctionView → BlockView → List InstrView → InstrView → Type 0
FallsK12 f b before i = (u : Use) × Contains (uses f b before i.act) u × IsUndefined f u
