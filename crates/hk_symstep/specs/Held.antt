-- What a register holds, as terms.
use Rattle.std.specs.Prelude.{◌≡◌, ℕ, if◌then◌else◌, Option, Some, None, List}
use Rattle.hk_term.specs.Meaning.{Reading}
use Rattle.hk_term.specs.declared.node.Node.{Node}
use Rattle.ir_value.specs.declared.value.Value as machine
use Rattle.ir_machine.specs.declared.state.Held.{Held}
use Rattle.ir_machine.specs.declared.state.Held.TheVariants as held
use Rattle.hk_symvalue.specs.declared.value.SymValue.{SymValue}
use Rattle.hk_symvalue.specs.Meaning.{IsTruth, IsSym, is_true, meaning}
use Rattle.hk_symstep.specs.declared.state.SymHeld.{SymHeld}
use Rattle.hk_symstep.specs.declared.state.SymHeld.TheVariants.{Value, Pair, Slot}

-- what a slot has stored: nothing, where it is not filled
abbrev pub stored_in : List Node → Reading → ℕ → SymValue → Option machine.Value
stored_in nodes v filled stored = if is_true nodes filled v then Some (meaning nodes stored v) else None

-- what a register holds under a reading
abbrev pub held_meaning : List Node → Reading → SymHeld → Held
held_meaning nodes v (Value s) = held.Value (meaning nodes s v)
held_meaning nodes v (Pair p) = held.Pair (meaning nodes p.number v) (meaning nodes p.overflow v)
held_meaning nodes v (Slot s) = held.Slot s.align (stored_in nodes v s.filled s.stored)

-- the same of a register that may not be set on any path
abbrev pub place_meaning : List Node → Reading → Option SymHeld → Option Held
place_meaning nodes v None = None
place_meaning nodes v (Some h) = Some (held_meaning nodes v h)

-- the same of an operand that may not be there
abbrev pub value_meaning : List Node → Reading → Option SymValue → Option machine.Value
value_meaning nodes v None = None
value_meaning nodes v (Some s) = Some (meaning nodes s v)

-- ---- terms are in the list

abbrev pub IsHeld : List Node → SymHeld → Type 0
IsHeld nodes (Value s) = IsSym nodes s
IsHeld nodes (Pair p) = IsSym nodes p.number × IsSym nodes p.overflow
IsHeld nodes (Slot s) = IsTruth nodes s.filled × IsSym nodes s.stored

abbrev pub IsPlace : List Node → Option SymHeld → Type 0
IsPlace nodes None = Unit {0}
IsPlace nodes (Some h) = IsHeld nodes h

abbrev pub IsOperand : List Node → Option SymValue → Type 0
IsOperand nodes None = Unit {0}
IsOperand nodes (Some s) = IsSym nodes s

-- ---- paths

-- what was held, if anything was, is held still
abbrev pub Keeps : Option Held → Held → Type 0
Keeps None h = Unit {0}
Keeps (Some g) h = h ≡ g
