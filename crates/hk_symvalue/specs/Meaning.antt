-- What symbolic values stand for.
use Rattle.std.specs.Prelude.{◌≡◌, ℕ, ◌-◌, ◌<◌, Bool, true, false, not, if◌then◌else◌, nat_eq, List, length}
use Rattle.hk_term.specs.Shape.{width}
use Rattle.hk_term.specs.Meaning.{Reading, value}
use Rattle.hk_term.specs.declared.node.Node.{Node}
use Rattle.ir_value.specs.declared.value.Value.{Value}
use Rattle.ir_value.specs.declared.value.Value.TheVariants.{Number, Null, Address, Poison}
use Rattle.hk_symvalue.specs.declared.value.SymValue.{SymValue}
use Rattle.hk_symvalue.specs.declared.value.SymMade.{SymMade}

-- ---- truth values

-- a term of the list of width 1
abbrev pub IsTruth : List Node → ℕ → Type 0
IsTruth nodes t = (t < length nodes) × (width nodes t ≡ 1)

-- a term of the list of a width
abbrev pub IsWord : List Node → ℕ → ℕ → Type 0
IsWord nodes w t = (t < length nodes) × (width nodes t ≡ w)

-- whether a term is true
abbrev pub is_true : List Node → ℕ → Reading → Bool
is_true nodes t v = nat_eq (value nodes t v) 1

-- one of the two is true
abbrev pub differ : Bool → Bool → Bool
differ true b = not b
differ false b = b

-- ---- values

-- 0 is the base of a number, 1 that of null, and k + 2 that of an address in object k; the bits are the number, or the offset
abbrev pub based : ℕ → ℕ → Value
based base bits = if nat_eq base 0 then Number bits else (if nat_eq base 1 then Null else Address (base - 2) bits)

abbrev pub stands_for : Bool → ℕ → ℕ → Value
stands_for poison base bits = if poison then Poison else based base bits

-- the machine value that a symbolic one stands for under a reading
abbrev pub meaning : List Node → SymValue → Reading → Value
meaning nodes s v = stands_for (is_true nodes s.poison v) (value nodes s.base v) (value nodes s.bits v)

-- its terms are in the list
pub record IsSym (nodes : List Node) (s : SymValue) : Type 0 where
  pub poison : IsTruth nodes s.poison
  pub base : IsWord nodes 64 s.base
  pub bits : s.bits < length nodes

-- a value beside whether the run is stuck
pub record IsMade (nodes : List Node) (m : SymMade) : Type 0 where
  pub stuck : IsTruth nodes m.stuck
  pub value : IsSym nodes m.value
