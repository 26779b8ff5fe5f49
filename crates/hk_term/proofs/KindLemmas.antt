-- Each operation gives a number of its width.
use Rattle.std.proofs.Common.{ℕ, ◌+◌, ◌-◌, ◌*◌, ◌/◌, ◌^◌, ◌<◌, ◌≤◌, Bool, true, false, cond, nat_eq, nat_lt, arith, subst, sym, mul_comm}
use Rattle.std.proofs.Math.Nat.{mod-lt}
use Rattle.std.proofs.Math.Pow.{pow_mono}
use Rattle.std.proofs.lemmas.Nat.{pow_pos, pow-add, or_lt, xor_lt, mul-add-lt}
use Rattle.std.specs.Int.Bits.{and_lt}
use Rattle.hk_num.proofs.Algebra.{number_below, udiv_below, urem_below, lshr_below}
use Rattle.hk_term.specs.declared.node.UnaryKind.{UnaryKind}
use Rattle.hk_term.specs.declared.node.UnaryKind.TheVariants.{Not, Neg}
use Rattle.hk_term.specs.declared.node.TermKind.{TermKind}
use Rattle.hk_term.specs.declared.node.TermKind.TheVariants.{Add, Sub, Mul, Udiv, Urem, Sdiv, Srem, Shl, Lshr, Ashr, And, Or, Xor, Eq, Ult, Slt, Concat}
use Rattle.hk_term.specs.declared.node.TermResize.{TermResize}
use Rattle.hk_term.specs.declared.node.TermResize.TheVariants.{Zero, Sign, Extract}
use Rattle.hk_term.specs.Operations.{bit, unary_value, binary_value, binary_width, BinaryFits, resize_value, ResizeFits}
use Rattle.hk_term.specs.Shape.{IsWidth}

pub bit_below : (b : Bool) → bit b < 2 ^ 1
bit_below true = omega arith
bit_below false = omega arith

-- one of two numbers that are below is below
either_below : (b : Bool) (m x y : ℕ) → x < m → y < m → cond b x y < m
either_below true m x y h k = h
either_below false m x y h k = k

-- the greatest number of a width, and 1, are numbers of it
ones_below : (w : ℕ) → 2 ^ w - 1 < 2 ^ w
ones_below w = omega (arith, pow_pos w)

one_below : (w : ℕ) → 1 ≤ w → 1 < 2 ^ w
one_below w h = let two : 2 ^ 1 ≤ 2 ^ w = pow_mono h in omega arith

pub unary_below : (kind : UnaryKind) (w a : ℕ) → a < 2 ^ w → unary_value kind w a < 2 ^ w
unary_below Not w a h = omega (arith, pow_pos w)
unary_below Neg w a h = mod-lt (2 ^ w - a) (pow_pos w)

-- a number above another
pub joined_below : (w u a b : ℕ) → a < 2 ^ w → b < 2 ^ u → a * 2 ^ u + b < 2 ^ (w + u)
joined_below w u a b h k = omega (arith, mul-add-lt a (2 ^ u) b (2 ^ w) h k, pow-add 2 w u, mul_comm (2 ^ w) (2 ^ u))

pub binary_below : (kind : TermKind) (w u a b : ℕ) → IsWidth w → BinaryFits kind w u → a < 2 ^ w → b < 2 ^ u → binary_value kind w u a b < 2 ^ binary_width kind w u
binary_below Add w u a b is fits h k = mod-lt (a + b) (pow_pos w)
binary_below Sub w u a b is fits h k = mod-lt (2 ^ w + a - b) (pow_pos w)
binary_below Mul w u a b is fits h k = mod-lt (a * b) (pow_pos w)
binary_below Udiv w u a b is fits h k = either_below (nat_eq b 0) (2 ^ w) _ _ (ones_below w) (udiv_below w a b h)
binary_below Urem w u a b is fits h k = either_below (nat_eq b 0) (2 ^ w) _ _ h (urem_below w a b h)
binary_below Sdiv w u a b is fits h k =
    either_below (nat_eq b 0) (2 ^ w) _ _
    (either_below (nat_lt a (2 ^ (w - 1))) (2 ^ w) _ _ (ones_below w) (one_below w is.0)) (number_below w _)
binary_below Srem w u a b is fits h k = either_below (nat_eq b 0) (2 ^ w) _ _ h (number_below w _)
binary_below Shl w u a b is fits h k = mod-lt (a * 2 ^ b) (pow_pos w)
binary_below Lshr w u a b is fits h k = lshr_below w a b h
binary_below Ashr w u a b is fits h k = number_below w _
binary_below And w u a b is fits h k = and_lt w a b h (subst (λ n. b < 2 ^ n) (sym fits) k)
binary_below Or w u a b is fits h k = or_lt w a b h (subst (λ n. b < 2 ^ n) (sym fits) k)
binary_below Xor w u a b is fits h k = xor_lt w a b h (subst (λ n. b < 2 ^ n) (sym fits) k)
binary_below Eq w u a b is fits h k = bit_below (nat_eq a b)
binary_below Ult w u a b is fits h k = bit_below _
binary_below Slt w u a b is fits h k = bit_below _
binary_below Concat w u a b is fits h k = joined_below w u a b h k

pub binary_is_width : (kind : TermKind) (w u : ℕ) → IsWidth w → BinaryFits kind w u → IsWidth (binary_width kind w u)
binary_is_width Add w u is fits = is
binary_is_width Sub w u is fits = is
binary_is_width Mul w u is fits = is
binary_is_width Udiv w u is fits = is
binary_is_width Urem w u is fits = is
binary_is_width Sdiv w u is fits = is
binary_is_width Srem w u is fits = is
binary_is_width Shl w u is fits = is
binary_is_width Lshr w u is fits = is
binary_is_width Ashr w u is fits = is
binary_is_width And w u is fits = is
binary_is_width Or w u is fits = is
binary_is_width Xor w u is fits = is
binary_is_width Eq w u is fits = (omega arith, omega arith)
binary_is_width Ult w u is fits = (omega arith, omega arith)
binary_is_width Slt w u is fits = (omega arith, omega arith)
binary_is_width Concat w u is fits = (omega (arith, is.0), fits)

pub resize_below : (kind : TermResize) (from to a : ℕ) → ResizeFits kind from to → a < 2 ^ from → resize_value kind from to a < 2 ^ to
resize_below Zero from to a fits h = let wider : 2 ^ from ≤ 2 ^ to = pow_mono fits.0 in omega arith
resize_below Sign from to a fits h = number_below to _
resize_below (Extract low) from to a fits h = mod-lt (a / 2 ^ low) (pow_pos to)

pub resize_is_width : (kind : TermResize) (from to : ℕ) → IsWidth from → ResizeFits kind from to → IsWidth to
resize_is_width Zero from to is fits = (omega (arith, is.0, fits.0), fits.1)
resize_is_width Sign from to is fits = (omega (arith, is.0, fits.0), fits.1)
resize_is_width (Extract low) from to is fits = (fits.0, omega (arith, is.1, fits.1))
