-- The registers of a frame on all paths at once.
use Rattle.std.specs.Prelude.{◌≡◌, ℕ, Option, Some, None, List, map, length, slice_index_or}
use Rattle.hk_term.specs.Meaning.{Reading}
use Rattle.hk_term.specs.declared.node.Node.{Node}
use Rattle.ir_machine.specs.declared.state.Held.{Held}
use Rattle.ir_machine.specs.Values.{Registers, held_at}
use Rattle.hk_symstep.specs.declared.state.SymHeld.{SymHeld}
use Rattle.hk_symstep.specs.Held.{place_meaning, IsPlace}

-- the registers by their places; none is what is not set on any path
abbrev pub File : Type 0
File = List (Option SymHeld)

abbrev pub place_at : File → ℕ → Option SymHeld
place_at file k = slice_index_or file k None

-- all terms of the file are in the list
abbrev pub IsFile : List Node → File → Type 0
IsFile nodes file = (k : ℕ) → IsPlace nodes (place_at file k)

-- what all registers hold under a reading, as if each were set that is set on some path
abbrev pub registers_of : List Node → Reading → File → Registers
registers_of nodes v file = map (place_meaning nodes v) file

-- there are as many registers, and what is set in the first is set alike in the second
pub record IsWithin (first second : Registers) : Type 0 where
  pub size : length first ≡ length second
  pub same : (k : ℕ) (h : Held) → held_at first k ≡ Some h → held_at second k ≡ Some h

-- each register that the machine has set stands in the file, with what it holds; the file may have more
abbrev pub Covers : List Node → Reading → File → Registers → Type 0
Covers nodes v file rs = IsWithin rs (registers_of nodes v file)
