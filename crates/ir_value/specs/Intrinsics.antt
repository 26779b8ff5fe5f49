-- What the listed intrinsics give (LLVM Language Reference, "Intrinsic Functions").
use Rattle.std.specs.Prelude.{ℕ, ◌-◌, ◌^◌, Bool, true, false, not, ◌&&◌, ◌||◌, ◌==◌, if◌then◌else◌, nat_le, nat_eq}
use Rattle.hk_num.specs.Numbers.{bvadd, bvsub, bvmul, bvult, bvslt, bvuaddo, bvsaddo, bvusubo, bvssubo, bvumulo, bvsmulo}
use Rattle.ir_value.specs.declared.value.Value.{Value}
use Rattle.ir_value.specs.declared.value.Value.TheVariants.{Number, Null, Address, Poison}
use Rattle.ir_value.specs.declared.value.StuckReason.TheVariants.{U17}
use Rattle.ir_value.specs.declared.value.Made.{Made}
use Rattle.ir_value.specs.declared.value.Made.TheVariants.{Gives, Sticks, Lost}
use Rattle.ir_value.specs.declared.intrinsics.OverflowKind.{OverflowKind}
use Rattle.ir_value.specs.declared.intrinsics.OverflowKind.TheVariants.{Add, Sub, Mul}
use Rattle.ir_value.specs.declared.intrinsics.PairKind.{PairKind}
use Rattle.ir_value.specs.declared.intrinsics.PairKind.TheVariants.{Umin, Umax, Smin, Smax, Abs, Expect}
use Rattle.ir_value.specs.Numbers.{is_width, is_number, is_least, takes, unless, truth}

-- ---- a number, and whether it overflowed

abbrev pub wrapped : OverflowKind → ℕ → ℕ → ℕ → ℕ
wrapped Add w a b = bvadd w a b
wrapped Sub w a b = bvsub w a b
wrapped Mul w a b = bvmul w a b

abbrev pub overflowed : OverflowKind → Bool → ℕ → ℕ → ℕ → Bool
overflowed Add signed w a b = if signed then bvsaddo w a b else bvuaddo w a b
overflowed Sub signed w a b = if signed then bvssubo w a b else bvusubo w a b
overflowed Mul signed w a b = if signed then bvsmulo w a b else bvumulo w a b

-- part 0 is the number, part 1 the bit
abbrev pub part_of : OverflowKind → Bool → ℕ → ℕ → ℕ → ℕ → Made
part_of kind signed w part a b = Gives (Number (if part == 0 then wrapped kind w a b else truth (overflowed kind signed w a b)))

abbrev pub overflow_of : OverflowKind → Bool → ℕ → ℕ → Value → Value → Made
overflow_of kind signed w part (Number a) (Number b) = part_of kind signed w part a b
overflow_of kind signed w part _ _ = Gives Poison

abbrev pub with_overflow : OverflowKind → Bool → ℕ → ℕ → Value → Value → Made
with_overflow kind signed w part a b = if is_width w && (takes w a && takes w b) then overflow_of kind signed w part a b else Lost

-- ---- a number from two

abbrev pub pick : Bool → ℕ → ℕ → Made
pick first a b = Gives (Number (if first then a else b))

-- the magnitude of the signed reading; the flag says that the least number, which has none, gives poison
abbrev pub absolute : ℕ → ℕ → Bool → Made
absolute w a strict = if is_least w a then unless strict a else pick (bvslt w a 0) (bvsub w 0 a) a

abbrev pub pair_numbers : PairKind → ℕ → ℕ → ℕ → Made
pair_numbers Umin w a b = pick (bvult w b a) b a
pair_numbers Umax w a b = pick (bvult w b a) a b
pair_numbers Smin w a b = pick (bvslt w b a) b a
pair_numbers Smax w a b = pick (bvslt w b a) a b
pair_numbers Abs w a b = absolute w a (b == 1)
pair_numbers Expect w a b = Gives (Number a)

abbrev pub pair_of : PairKind → ℕ → Value → Value → Made
pair_of kind w (Number a) (Number b) = pair_numbers kind w a b
pair_of kind w _ _ = Gives Poison

-- the second operand of `llvm.abs` is a flag
abbrev pub second_width : PairKind → ℕ → ℕ
second_width Abs w = 1
second_width _ w = w

abbrev pub pair : PairKind → ℕ → Value → Value → Made
pair kind w a b = if is_width w && (takes w a && takes (second_width kind w) b) then pair_of kind w a b else Lost

-- ---- `llvm.assume`, `freeze`, `select`

-- whether the condition holds; false and poison stick
abbrev pub assumes : Value → Bool
assumes (Number n) = not (n == 0)
assumes _ = false
