-- K15: the arms of a phi against the edges to its block.
use Rattle.std.specs.Prelude.{◌≡◌, ℕ, Option, Some, option_and_then, List, count_by, position, nat_eq, bytes_eq, slice_get, Contains}
use Rattle.ir_ast.specs.Plain.{Ty, Val}
use Rattle.ir_ast.specs.Program.{Act, phi, BlockView, FunctionView}
use Rattle.ir_type.specs.Whole.{Types, meant}
use Rattle.ir_typing.specs.Values.{by_value}
use Rattle.ir_check.specs.Paths.{targets_of}

abbrev pub times : List ℕ → List (List ℕ) → ℕ
times x xs = count_by (bytes_eq x) xs

-- each block is listed as often as it has edges to this block
abbrev pub MeetsCounts : FunctionView → BlockView → List (Val × List ℕ) → Type 0
MeetsCounts f b arms = (x : List ℕ) → count_by (λ arm. bytes_eq x arm.1) arms ≡ times b.name (targets_of f x)

-- each block is listed with one operand, by value
abbrev pub HaveOneOperand : Types → Ty → List (Val × List ℕ) → Type 0
HaveOneOperand types over arms =
    (a c : Val × List ℕ) → Contains arms a → Contains arms c → a.1 ≡ c.1 → by_value types (meant types over) a.0 ≡ by_value types (meant types over) c.0

-- each block is listed as often as it has edges to this block, with one operand
pub record MeetsEdges (types : Types) (f : FunctionView) (b : BlockView) (over : Ty) (arms : List (Val × List ℕ)) : Type 0 where
  pub count : MeetsCounts f b arms
  pub one : HaveOneOperand types over arms

abbrev pub FallsK15 : Types → FunctionView → BlockView → Act → Type 0
FallsK15 types f b (phi over arms) = MeetsEdges types f b over arms → ⊥
FallsK15 types f b _ = ⊥

-- ---- arms by places

-- where the first arm from the block of this name stands, by the places of the blocks that the arms name
abbrev pub first_arm : List (List ℕ) → List ℕ → List ℕ → Option ℕ
first_arm index places x = option_and_then (λ q. position (nat_eq q) places) (position (bytes_eq x) index)

-- the operand of the arm is that of the first arm from its block
abbrev pub IsAsFirst : Types → Ty → List (List ℕ) → List ℕ → List (Val × List ℕ) → Val × List ℕ → Type 0
IsAsFirst types over index places arms arm =
    (k : ℕ) (first : Val × List ℕ) → first_arm index places arm.1 ≡ Some k → slice_get arms k ≡ Some first
    → by_value types (meant types over) first.0 ≡ by_value types (meant types over) arm.0
