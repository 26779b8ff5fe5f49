-- The registers and the blocks of a function by their places in text order: where a name stands twice, the first place counts.
use Rattle.std.specs.Prelude.{◌≡◌, ℕ, ◌<◌, ◌^◌, if◌then◌else◌, is_some, List, [], ◌∷◌, ◌++◌, map, length, position, bytes_eq}
use Rattle.ir_ast.specs.Program.{FunctionView}
use Rattle.ir_type.specs.Names.{entry_of}
use Rattle.ir_typing.specs.Registers.{registers_of, blocks_of}

-- the names with one more, at its place, unless it is there
abbrev pub with_place : List (List ℕ × ℕ) → List ℕ → ℕ → List (List ℕ × ℕ)
with_place firsts x place = if is_some (entry_of x firsts) then firsts else firsts ++ (x, place) ∷ []

-- the table gives each name the place at which it first stands
abbrev pub AreFirsts : List (List ℕ × ℕ) → List (List ℕ) → Type 0
AreFirsts firsts names = (x : List ℕ) → entry_of x firsts ≡ position (bytes_eq x) names

abbrev pub register_names : FunctionView → List (List ℕ)
register_names f = map (λ r. r.0) (registers_of f)

abbrev pub block_names : FunctionView → List (List ℕ)
block_names f = map (λ b. b.name) (blocks_of f)

pub record ArePlaces (f : FunctionView) (by_register by_block : List (List ℕ × ℕ)) : Type 0 where
  pub registers : AreFirsts by_register (register_names f)
  pub blocks : AreFirsts by_block (block_names f)
  pub few_registers : length by_register < 2 ^ 32
  pub few_blocks : length by_block < 2 ^ 32
