-- What makes runs of a program end: blocks in an order in which edges go forward, calls that go down, and lengths.
use Rattle.std.specs.Prelude.{◌≡◌, ◌≢◌, ℕ, ◌+◌, ◌<◌, ◌≤◌, Bool, true, false, List, [], ◌∷◌, ◌++◌, map, length, sum_by, slice_get, Contains, AllPairs}
use Rattle.ir_code.specs.declared.act.Step.{Step}
use Rattle.ir_code.specs.declared.act.Act.{Act}
use Rattle.ir_code.specs.declared.act.Act.TheVariants as act
use Rattle.ir_code.specs.declared.program.Block.{Block}
use Rattle.ir_code.specs.declared.program.Program.{Program}
use Rattle.ir_machine.specs.Step.{blocks_in, steps_of}

-- the blocks of a function
abbrev pub body_of : Program → ℕ → List Block
body_of P f = blocks_in (slice_get P.functions f)

-- ---- where instructions lead

-- the blocks that an instruction leads to, one for each edge
abbrev pub targets : Act → List ℕ
targets (act.Goto to) = to ∷ []
targets (act.Branch c taken other) = taken ∷ other ∷ []
targets (act.Switch w on cases default) = default ∷ map (λ c. c.block) cases
targets _ = []

-- the function that an instruction calls
abbrev pub callees : Act → List ℕ
callees (act.Call g arguments) = g ∷ []
callees _ = []

-- an edge from block k to block j of function f
abbrev pub HasEdge : Program → ℕ → ℕ → ℕ → Type 0
HasEdge P f k j = (s : Step) × Contains (steps_of P f k) s × Contains (targets s.act) j

-- a call of g in block k of function f
abbrev pub HasCall : Program → ℕ → ℕ → ℕ → Type 0
HasCall P f k g = (s : Step) × Contains (steps_of P f k) s × Contains (callees s.act) g

abbrev pub is_terminator : Act → Bool
is_terminator (act.Goto to) = true
is_terminator (act.Branch c taken other) = true
is_terminator (act.Switch w on cases default) = true
is_terminator (act.Return value) = true
is_terminator act.Unreachable = true
is_terminator _ = false

-- whether the last instruction is a terminator; `before` says it of the one before these
abbrev pub ends_behind : Bool → List Step → Bool
ends_behind before [] = before
ends_behind before (s ∷ ss) = ends_behind (is_terminator s.act) ss

abbrev pub ends_in_terminator : List Step → Bool
ends_in_terminator ss = ends_behind false ss

-- each function lists no block twice, and blocks alone that end in a terminator
pub record AreOrders (P : Program) (order : ℕ → List ℕ) : Type 0 where
  pub once : (f : ℕ) → AllPairs (λ k j. k ≢ j) (order f)
  pub ends : (f k : ℕ) → Contains (order f) k → ends_in_terminator (steps_of P f k) ≡ true

-- edges go forward in the order, from the first block on, and calls go to functions of less depth that have a body
pub record IsLoopFree (P : Program) (order : ℕ → List ℕ) (depth : ℕ → ℕ) : Type 0 where
  pub orders : AreOrders P order
  pub first : (f : ℕ) → 0 < length (body_of P f) → Contains (order f) 0
  pub forward : (f k j : ℕ) (before after : List ℕ) → order f ≡ before ++ k ∷ after → HasEdge P f k j → Contains after j
  pub called : (f k g : ℕ) → Contains (order f) k → HasCall P f k g → 0 < length (body_of P g)
  pub falls : (f k g : ℕ) → Contains (order f) k → HasCall P f k g → depth g < depth f

-- ---- lengths

-- an instruction counts once, and a call as its function too
abbrev pub weight : (ℕ → ℕ) → Act → ℕ
weight E (act.Call g arguments) = 1 + E g
weight E _ = 1

abbrev pub weight_of : (ℕ → ℕ) → List Step → ℕ
weight_of E ss = sum_by (λ s. weight E s.act) ss

-- the expanded length of each function is at most this
abbrev pub AreLengths : Program → (ℕ → ℕ) → Type 0
AreLengths P E = (f : ℕ) → sum_by (λ b. weight_of E b.steps) (body_of P f) ≤ E f
