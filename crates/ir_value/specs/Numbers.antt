-- What the operations on numbers give, row by row as the LLVM Language Reference has them; stricter where a row gives a reason for
-- being stuck.
use Rattle.std.specs.Prelude.{ℕ, ◌-◌, ◌*◌, ◌%◌, ◌^◌, Bool, true, false, not, ◌&&◌, ◌||◌, ◌==◌, if◌then◌else◌, nat_lt, nat_le, nat_eq, bit_and, bit_or, bit_xor}
use Rattle.hk_num.specs.Numbers.{bvadd, bvsub, bvmul, bvudiv, bvurem, bvsdiv, bvsrem, bvshl, bvlshr, bvashr, bvult, bvslt, sign_extend, bvuaddo, bvsaddo, bvusubo, bvssubo, bvumulo, bvsmulo}
use Rattle.ir_ast.specs.declared.operand.Flags.{Flags}
use Rattle.ir_ast.specs.declared.instr.BinaryKind.{BinaryKind}
use Rattle.ir_ast.specs.declared.instr.BinaryKind.TheVariants.{Add, Sub, Mul, Shl, Udiv, Sdiv, Lshr, Ashr, Urem, Srem, And, Xor, Or}
use Rattle.ir_ast.specs.declared.instr.Predicate.{Predicate}
use Rattle.ir_ast.specs.declared.instr.Predicate.TheVariants.{Eq, Ne, Ugt, Uge, Ult, Ule, Sgt, Sge, Slt, Sle}
use Rattle.ir_ast.specs.declared.instr.ConvertKind.{ConvertKind}
use Rattle.ir_ast.specs.declared.instr.ConvertKind.TheVariants.{Trunc, Zext, Sext}
use Rattle.ir_value.specs.declared.value.Value.{Value}
use Rattle.ir_value.specs.declared.value.Value.TheVariants.{Number, Poison}
use Rattle.ir_value.specs.declared.value.StuckReason.TheVariants.{U1, U2, U12}
use Rattle.ir_value.specs.declared.value.Made.{Made}
use Rattle.ir_value.specs.declared.value.Made.TheVariants.{Gives, Sticks, Lost}

abbrev pub is_width : ℕ → Bool
is_width w = nat_le 1 w && nat_le w 64

-- a number of the width
abbrev pub is_number : ℕ → ℕ → Bool
is_number w n = nat_lt n (2 ^ w)

-- poison where the test holds, and else the number
abbrev pub unless : Bool → ℕ → Made
unless test n = if test then Gives Poison else Gives (Number n)

-- ---- two numbers of a width

-- shifted back, the number is another one: a bit was shifted out (on the left one that is set, or one that is no copy of the sign)
abbrev pub loses : ℕ → ℕ → ℕ → Bool
loses w a b = not (bvlshr w (bvshl w a b) b == a)

abbrev pub loses_sign : ℕ → ℕ → ℕ → Bool
loses_sign w a b = not (bvashr w (bvshl w a b) b == a)

abbrev pub loses_right : ℕ → ℕ → ℕ → Bool
loses_right w a b = not (bvshl w (bvlshr w a b) b == a)

-- a shift by the width or more is poison
abbrev pub shift : Flags → BinaryKind → ℕ → ℕ → ℕ → Made
shift f Shl w a b = unless ((f.nuw && loses w a b) || (f.nsw && loses_sign w a b)) (bvshl w a b)
shift f Lshr w a b = unless (f.exact && loses_right w a b) (bvlshr w a b)
shift f Ashr w a b = unless (f.exact && loses_right w a b) (bvashr w a b)
shift f _ w a b = Lost

-- the divisor is -1 and the dividend the least number
abbrev pub is_minus_one : ℕ → ℕ → Bool
is_minus_one w b = b == 2 ^ w - 1

abbrev pub is_least : ℕ → ℕ → Bool
is_least w a = a == 2 ^ (w - 1)

-- a divisor that is not 0
abbrev pub divide : Flags → BinaryKind → ℕ → ℕ → ℕ → Made
divide f Udiv w a b = unless (f.exact && not (bvurem w a b == 0)) (bvudiv w a b)
divide f Urem w a b = Gives (Number (bvurem w a b))
divide f Sdiv w a b = if is_minus_one w b && is_least w a then Sticks U2 else unless (f.exact && not (bvsrem w a b == 0)) (bvsdiv w a b)
divide f Srem w a b = if is_minus_one w b && is_least w a then Sticks U2 else Gives (Number (bvsrem w a b))
divide f _ w a b = Lost

abbrev pub is_shift : BinaryKind → Bool
is_shift Shl = true
is_shift Lshr = true
is_shift Ashr = true
is_shift _ = false

abbrev pub is_division : BinaryKind → Bool
is_division Udiv = true
is_division Sdiv = true
is_division Urem = true
is_division Srem = true
is_division _ = false

abbrev pub is_signed_division : BinaryKind → Bool
is_signed_division Sdiv = true
is_signed_division Srem = true
is_signed_division _ = false

abbrev pub plain : Flags → BinaryKind → ℕ → ℕ → ℕ → Made
plain f Add w a b = unless ((f.nuw && bvuaddo w a b) || (f.nsw && bvsaddo w a b)) (bvadd w a b)
plain f Sub w a b = unless ((f.nuw && bvusubo w a b) || (f.nsw && bvssubo w a b)) (bvsub w a b)
plain f Mul w a b = unless ((f.nuw && bvumulo w a b) || (f.nsw && bvsmulo w a b)) (bvmul w a b)
plain f And w a b = Gives (Number (bit_and a b))
plain f Xor w a b = Gives (Number (bit_xor a b))
plain f Or w a b = unless (f.disjoint && not (bit_and a b == 0)) (bit_or a b)
plain f _ w a b = Lost

abbrev pub of_numbers : Flags → BinaryKind → ℕ → ℕ → ℕ → Made
of_numbers f kind w a b =
    if is_division kind then (if b == 0 then Sticks U1 else divide f kind w a b)
    else (if is_shift kind then (if nat_le w b then Gives Poison else shift f kind w a b) else plain f kind w a b)

-- a poison divisor counts as 0, and a poison dividend as the least number
abbrev pub by_poison : BinaryKind → Made
by_poison kind = if is_division kind then Sticks U1 else Gives Poison

abbrev pub poison_by : BinaryKind → ℕ → ℕ → Made
poison_by kind w b =
    if is_division kind && (b == 0) then Sticks U1
    else (if is_signed_division kind && is_minus_one w b then Sticks U2 else Gives Poison)

-- the operands of an operation at a width
abbrev pub takes : ℕ → Value → Bool
takes w (Number n) = is_number w n
takes w Poison = true
takes w _ = false

abbrev pub binary_of : Flags → BinaryKind → ℕ → Value → Value → Made
binary_of f kind w (Number a) (Number b) = of_numbers f kind w a b
binary_of f kind w (Number a) Poison = by_poison kind
binary_of f kind w Poison (Number b) = poison_by kind w b
binary_of f kind w Poison Poison = by_poison kind
binary_of f kind w _ _ = Lost

abbrev pub binary : Flags → BinaryKind → ℕ → Value → Value → Made
binary f kind w a b = if is_width w && (takes w a && takes w b) then binary_of f kind w a b else Lost

-- ---- comparisons

abbrev pub truth : Bool → ℕ
truth b = if b then 1 else 0

abbrev pub holds : Predicate → ℕ → ℕ → ℕ → Bool
holds Eq w a b = a == b
holds Ne w a b = not (a == b)
holds Ugt w a b = bvult w b a
holds Uge w a b = not (bvult w a b)
holds Ult w a b = bvult w a b
holds Ule w a b = not (bvult w b a)
holds Sgt w a b = bvslt w b a
holds Sge w a b = not (bvslt w a b)
holds Slt w a b = bvslt w a b
holds Sle w a b = not (bvslt w b a)

-- one of the two is negative
abbrev pub signs_differ : ℕ → ℕ → ℕ → Bool
signs_differ w a b = if bvslt w a 0 then not (bvslt w b 0) else bvslt w b 0

-- with `samesign` poison where the signs differ
abbrev pub compare_of : Bool → Predicate → ℕ → Value → Value → Made
compare_of samesign p w (Number a) (Number b) = unless (samesign && signs_differ w a b) (truth (holds p w a b))
compare_of samesign p w (Number a) Poison = Gives Poison
compare_of samesign p w Poison (Number b) = Gives Poison
compare_of samesign p w Poison Poison = Gives Poison
compare_of samesign p w _ _ = Lost

abbrev pub compare_numbers : Bool → Predicate → ℕ → Value → Value → Made
compare_numbers samesign p w a b = if is_width w && (takes w a && takes w b) then compare_of samesign p w a b else Lost

-- ---- changes of width

-- with zeros before the low bits, the number is another one: a dropped bit is one
abbrev pub drops_one : ℕ → ℕ → Bool
drops_one to n = not (n % 2 ^ to == n)

-- with copies of their sign before the low bits, the number is another one: a dropped bit differs from the result's sign bit
abbrev pub drops_sign : ℕ → ℕ → ℕ → Bool
drops_sign from to n = not (sign_extend to from (n % 2 ^ to) == n)

abbrev pub convert_number : Flags → ConvertKind → ℕ → ℕ → ℕ → Made
convert_number f Trunc from to n = unless ((f.nuw && drops_one to n) || (f.nsw && drops_sign from to n)) (n % 2 ^ to)
convert_number f Zext from to n = unless (f.nneg && bvslt from n 0) n
convert_number f Sext from to n = Gives (Number (sign_extend from to n))

abbrev pub convert_of : Flags → ConvertKind → ℕ → ℕ → Value → Made
convert_of f kind from to (Number n) = convert_number f kind from to n
convert_of f kind from to Poison = Gives Poison
convert_of f kind from to _ = Lost

abbrev pub is_narrower : ConvertKind → ℕ → ℕ → Bool
is_narrower Trunc from to = nat_lt to from
is_narrower _ from to = nat_lt from to

abbrev pub convert : Flags → ConvertKind → ℕ → ℕ → Value → Made
convert f kind from to a =
    if (is_width from && is_width to) && (is_narrower kind from to && takes from a) then convert_of f kind from to a else Lost

-- ---- ranges

-- from the low number up to but not including the high one, modulo 2 to the power of the width
abbrev pub is_between : ℕ → ℕ → ℕ → ℕ → Bool
is_between w low high n = is_width w && (is_number w low && is_number w high && is_number w n) && nat_lt (bvsub w n low) (bvsub w high low)

-- ---- `freeze` and `select`

abbrev pub freeze : Value → Made
freeze Poison = Sticks U12
freeze a = Gives a

-- the chosen operand alone counts
abbrev pub select : Value → Value → Value → Made
select (Number c) a b = if nat_eq c 0 then Gives b else (if nat_eq c 1 then Gives a else Lost)
select Poison a b = Gives Poison
select _ a b = Lost
