-- The operations on terms, with the meanings of SMT-LIB's theory of fixed-size bit-vectors. A truth value is a number of width 1.
use Rattle.std.specs.Prelude.{◌≡◌, ℕ, ◌+◌, ◌-◌, ◌*◌, ◌/◌, ◌%◌, ◌^◌, ◌≤◌, Bool, true, false, if◌then◌else◌, nat_eq, nat_lt, bit_and, bit_or, bit_xor}
use Rattle.hk_num.specs.Numbers.{bvadd, bvsub, bvmul, bvudiv, bvurem, bvsdiv, bvsrem, bvshl, bvlshr, bvashr, bvult, bvslt, sign_extend}
use Rattle.hk_term.specs.declared.node.UnaryKind.{UnaryKind}
use Rattle.hk_term.specs.declared.node.UnaryKind.TheVariants.{Not, Neg}
use Rattle.hk_term.specs.declared.node.TermKind.{TermKind}
use Rattle.hk_term.specs.declared.node.TermKind.TheVariants.{Add, Sub, Mul, Udiv, Urem, Sdiv, Srem, Shl, Lshr, Ashr, And, Or, Xor, Eq, Ult, Slt, Concat}
use Rattle.hk_term.specs.declared.node.TermResize.{TermResize}
use Rattle.hk_term.specs.declared.node.TermResize.TheVariants.{Zero, Sign, Extract}

-- a truth value as a number
abbrev pub bit : Bool → ℕ
bit true = 1
bit false = 0

-- the complement of each bit, and the two's complement
abbrev pub unary_value : UnaryKind → ℕ → ℕ → ℕ
unary_value Not w a = 2 ^ w - 1 - a
unary_value Neg w a = (2 ^ w - a) % 2 ^ w

-- division by 0: all ones; the dividend; all ones of a dividend from 0 on and 1 of a negative one; the dividend
abbrev pub udiv_value : ℕ → ℕ → ℕ → ℕ
udiv_value w a b = if nat_eq b 0 then 2 ^ w - 1 else bvudiv w a b

abbrev pub urem_value : ℕ → ℕ → ℕ → ℕ
urem_value w a b = if nat_eq b 0 then a else bvurem w a b

abbrev pub sdiv_value : ℕ → ℕ → ℕ → ℕ
sdiv_value w a b = if nat_eq b 0 then (if nat_lt a (2 ^ (w - 1)) then 2 ^ w - 1 else 1) else bvsdiv w a b

abbrev pub srem_value : ℕ → ℕ → ℕ → ℕ
srem_value w a b = if nat_eq b 0 then a else bvsrem w a b

-- an operation on a number of width w and one of width u; but for `Concat`, which puts the first above the second, the widths are one
abbrev pub binary_value : TermKind → ℕ → ℕ → ℕ → ℕ → ℕ
binary_value Add w u a b = bvadd w a b
binary_value Sub w u a b = bvsub w a b
binary_value Mul w u a b = bvmul w a b
binary_value Udiv w u a b = udiv_value w a b
binary_value Urem w u a b = urem_value w a b
binary_value Sdiv w u a b = sdiv_value w a b
binary_value Srem w u a b = srem_value w a b
binary_value Shl w u a b = bvshl w a b
binary_value Lshr w u a b = bvlshr w a b
binary_value Ashr w u a b = bvashr w a b
binary_value And w u a b = bit_and a b
binary_value Or w u a b = bit_or a b
binary_value Xor w u a b = bit_xor a b
binary_value Eq w u a b = bit (nat_eq a b)
binary_value Ult w u a b = bit (bvult w a b)
binary_value Slt w u a b = bit (bvslt w a b)
binary_value Concat w u a b = a * 2 ^ u + b

-- the width of the result
abbrev pub binary_width : TermKind → ℕ → ℕ → ℕ
binary_width Add w u = w
binary_width Sub w u = w
binary_width Mul w u = w
binary_width Udiv w u = w
binary_width Urem w u = w
binary_width Sdiv w u = w
binary_width Srem w u = w
binary_width Shl w u = w
binary_width Lshr w u = w
binary_width Ashr w u = w
binary_width And w u = w
binary_width Or w u = w
binary_width Xor w u = w
binary_width Eq w u = 1
binary_width Ult w u = 1
binary_width Slt w u = 1
binary_width Concat w u = w + u

-- the widths that an operation takes
abbrev pub BinaryFits : TermKind → ℕ → ℕ → Type 0
BinaryFits Concat w u = w + u ≤ 64
BinaryFits _ w u = w ≡ u

-- a number of another width: with zeros or copies of the sign above, or the bits from `low` on
abbrev pub resize_value : TermResize → ℕ → ℕ → ℕ → ℕ
resize_value Zero from to a = a
resize_value Sign from to a = sign_extend from to a
resize_value (Extract low) from to a = a / 2 ^ low % 2 ^ to

abbrev pub ResizeFits : TermResize → ℕ → ℕ → Type 0
ResizeFits Zero from to = (from ≤ to) × (to ≤ 64)
ResizeFits Sign from to = (from ≤ to) × (to ≤ 64)
ResizeFits (Extract low) from to = (1 ≤ to) × (low + to ≤ from)
