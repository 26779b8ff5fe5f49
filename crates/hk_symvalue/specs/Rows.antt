-- How terms answer a row of the machine. What the row loses, operands of other types, is not claimed.
use Rattle.std.specs.Prelude.{◌≡◌, ℕ, Bool, true, false, not, if◌then◌else◌, nat_eq, nat_le, ◌==◌, ◌||◌, ◌&&◌, List}
use Rattle.hk_term.specs.Meaning.{Reading, value}
use Rattle.hk_term.specs.declared.node.Node.{Node}
use Rattle.ir_value.specs.declared.value.Value.{Value}
use Rattle.ir_value.specs.declared.value.Value.TheVariants.{Number, Poison}
use Rattle.ir_value.specs.declared.value.Made.{Made}
use Rattle.ir_value.specs.declared.value.Made.TheVariants.{Gives, Sticks, Lost}
use Rattle.ir_ast.specs.declared.instr.BinaryKind.{BinaryKind}
use Rattle.ir_ast.specs.declared.instr.BinaryKind.TheVariants.{Udiv, Sdiv, Urem, Srem}
use Rattle.ir_ast.specs.declared.instr.Predicate.{Predicate}
use Rattle.ir_ast.specs.declared.instr.Predicate.TheVariants.{Eq, Ne}
use Rattle.ir_value.specs.Numbers.{is_minus_one, is_least, holds}
use Rattle.ir_value.specs.Pointers.{is_equality}
use Rattle.hk_symvalue.specs.declared.value.Flagged.{Flagged}
use Rattle.hk_symvalue.specs.declared.value.Place.{Place}
use Rattle.hk_symvalue.specs.Meaning.{IsTruth, IsWord, is_true}
use Rattle.ir_value.specs.declared.access.Access.{Access}
use Rattle.ir_value.specs.declared.access.Access.TheVariants.{At, Not, Nowhere}

-- stuck exactly where the row sticks, and else the value that it gives
abbrev pub Answers : Bool → Value → Made → Type 0
Answers stuck value (Gives given) = (stuck ≡ false) × (value ≡ given)
Answers stuck value (Sticks reason) = stuck ≡ true
Answers stuck value Lost = Unit {0}

-- stuck exactly where the access reaches nothing
abbrev pub Reaches : Bool → Access → Type 0
Reaches stuck (At o x) = stuck ≡ false
Reaches stuck (Not reason) = stuck ≡ true
Reaches stuck Nowhere = Unit {0}

-- a row's answer in two parts: whether it sticks, and what it gives
abbrev pub sticks : Made → Bool
sticks (Sticks reason) = true
sticks _ = false

abbrev pub Shown : Value → Made → Type 0
Shown value (Gives given) = value ≡ given
Shown value (Sticks reason) = Unit {0}
Shown value Lost = Unit {0}

-- a number that may be poison
abbrev pub flagged : Bool → ℕ → Value
flagged poison n = if poison then Poison else Number n

-- two terms that stand for one, at a width
pub record IsFlagged (nodes : List Node) (w : ℕ) (f : Flagged) : Type 0 where
  pub poison : IsTruth nodes f.poison
  pub bits : IsWord nodes w f.bits

abbrev pub shown : List Node → Flagged → Reading → Value
shown nodes f v = flagged (is_true nodes f.poison v) (value nodes f.bits v)

-- whether an operation sticks at two numbers, each of which may be poison
abbrev pub binary_sticks : BinaryKind → ℕ → Bool → ℕ → Bool → ℕ → Bool
binary_sticks Udiv w pa a pb b = pb || b == 0
binary_sticks Urem w pa a pb b = pb || b == 0
binary_sticks Sdiv w pa a pb b = (pb || b == 0) || (is_minus_one w b && (pa || is_least w a))
binary_sticks Srem w pa a pb b = (pb || b == 0) || (is_minus_one w b && (pa || is_least w a))
binary_sticks _ w pa a pb b = false

-- ---- comparisons of pointers, as terms tell them: the base of null is 1

-- a base and an offset
pub record IsPlace (nodes : List Node) (p : Place) : Type 0 where
  pub base : IsWord nodes 64 p.base
  pub offset : IsWord nodes 64 p.offset

-- neither is there one object, nor is one of them null and the other one in its object or at its end
abbrev pub equality_sticks : ℕ → ℕ → ℕ → ℕ → ℕ → ℕ → Bool
equality_sticks size_a size_b a x b y = not (nat_eq a b || ((nat_eq a 1 && nat_le y size_b) || (nat_eq b 1 && nat_le x size_a)))

-- they are not in one object, or one of them is beyond its end
abbrev pub order_sticks : ℕ → ℕ → ℕ → ℕ → ℕ → Bool
order_sticks size a x b y = not ((nat_eq a b && not (nat_eq a 1)) && (nat_le x size && nat_le y size))

abbrev pub pointers_stick : Predicate → ℕ → ℕ → ℕ → ℕ → ℕ → ℕ → Bool
pointers_stick p size_a size_b a x b y = if is_equality p then equality_sticks size_a size_b a x b y else order_sticks size_a a x b y

abbrev pub same_pointer : ℕ → ℕ → ℕ → ℕ → Bool
same_pointer a x b y = nat_eq a b && (nat_eq a 1 || nat_eq x y)

abbrev pub pointers_hold : Predicate → ℕ → ℕ → ℕ → ℕ → Bool
pointers_hold Eq a x b y = same_pointer a x b y
pointers_hold Ne a x b y = not (same_pointer a x b y)
pointers_hold p a x b y = holds p 64 x y
