-- The names of what is new: short, unlike all names of the function, and unlike one another.
use Rattle.std.specs.Prelude.{ℕ, zero, suc, ◌+◌, ◌<◌, ◌^◌, Bool, not, if◌then◌else◌, ◌==◌, nat_eq, Some, option_to_list, unwrap_or, List, [], ◌∷◌, ◌++◌, map, flat_map, find, length, codes, decimal}
use Rattle.std.specs.List.{list_any, starts_with, range_with_len}
use Rattle.ir_ast.specs.Program.{InstrView, BlockView, FunctionView}
use Rattle.ir_typing.specs.Registers.{blocks_of}
use Rattle.hk_unroll.specs.declared.copies.BlockCopy.{BlockCopy}

-- the names of a function: parameters, blocks, and what instructions set
abbrev pub names_of : FunctionView → List (List ℕ)
names_of f = map (λ p. p.1) f.parameters ++ flat_map (λ (b : BlockView). b.name ∷ flat_map (λ (i : InstrView). option_to_list i.result) b.instrs) (blocks_of f)

-- d slashes and a colon, `:` or `/:` or `//:`, with which each new name begins
abbrev pub prefix : ℕ → List ℕ
prefix zero = codes ":"
prefix (suc d) = 47 ∷ prefix d

-- no name begins so
abbrev pub is_free : List (List ℕ) → ℕ → Bool
is_free names d = not (list_any (λ x. starts_with nat_eq x (prefix d)) names)

-- the least d such that no name begins with d slashes and a colon: each name begins so for one d at most
abbrev pub fresh : List (List ℕ) → ℕ
fresh names = unwrap_or (find (is_free names) (range_with_len 0 (length names + 1))) 0

-- `:K:B`, a copy of the block at place B behind K turns
abbrev pub block_name : ℕ → BlockCopy → List ℕ
block_name d c = prefix d ++ decimal c.turns ++ codes ":" ++ decimal c.block

-- `:K:rR`, what a copy behind K turns sets for the register at place R
abbrev pub register_name : ℕ → ℕ → ℕ → List ℕ
register_name d turns register = prefix d ++ decimal turns ++ codes ":r" ++ decimal register

-- `:K:B:rR`, the phi that is added to a copy for the register at place R
abbrev pub phi_name : ℕ → BlockCopy → ℕ → List ℕ
phi_name d c register = prefix d ++ decimal c.turns ++ codes ":" ++ decimal c.block ++ codes ":r" ++ decimal register

-- `:e`, the block to which a turn behind the last leads
abbrev pub end_name : ℕ → List ℕ
end_name d = prefix d ++ codes "e"

-- numbers that code has
pub record IsShort (c : BlockCopy) : Type 0 where
  pub turns : c.turns < 2 ^ 64
  pub block : c.block < 2 ^ 64
