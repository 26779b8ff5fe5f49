-- Numbers of a width w: the whole numbers from 0 to 2^w - 1. Each operation is its whole-number formula modulo 2^w.
-- The names are those of SMT-LIB's theory of fixed-size bit-vectors; LLVM's integers have the same operations.
use Rattle.std.specs.Prelude.{ℕ, ◌+◌, ◌-◌, ◌*◌, ◌/◌, ◌%◌, ◌^◌, Bool, not, if◌then◌else◌, nat_lt, nat_le, ℤ, pos, negsuc, ◌+ℤ◌, ◌-ℤ◌, ◌*ℤ◌, int_lt, int_div, int_rem, unsigned_abs}
use Rattle.std.specs.Int.{int_div_euclid, int_rem_euclid}

-- the signed reading of n: n below 2^(w-1), and n - 2^w otherwise (`negsuc k` is -(k + 1))
abbrev pub signed_of : ℕ → ℕ → ℤ
signed_of w n = if nat_lt n (2 ^ (w - 1)) then pos n else negsuc (2 ^ w - 1 - n)

-- the number of a width that is z modulo 2^w
abbrev pub number_of : ℕ → ℤ → ℕ
number_of w z = unsigned_abs (int_rem_euclid z (pos (2 ^ w)))

-- z has a signed reading of the width: it is from -2^(w-1) to 2^(w-1) - 1
abbrev pub fits_signed : ℕ → ℤ → Bool
fits_signed w (pos n) = nat_lt n (2 ^ (w - 1))
fits_signed w (negsuc n) = nat_lt n (2 ^ (w - 1))

-- addition, subtraction and multiplication
abbrev pub bvadd : ℕ → ℕ → ℕ → ℕ
bvadd w a b = (a + b) % 2 ^ w

abbrev pub bvsub : ℕ → ℕ → ℕ → ℕ
bvsub w a b = (2 ^ w + a - b) % 2 ^ w

abbrev pub bvmul : ℕ → ℕ → ℕ → ℕ
bvmul w a b = (a * b) % 2 ^ w

-- division of the numbers, and of their signed readings towards zero, with the remainders that belong to them
abbrev pub bvudiv : ℕ → ℕ → ℕ → ℕ
bvudiv w a b = a / b

abbrev pub bvurem : ℕ → ℕ → ℕ → ℕ
bvurem w a b = a % b

abbrev pub bvsdiv : ℕ → ℕ → ℕ → ℕ
bvsdiv w a b = number_of w (int_div (signed_of w a) (signed_of w b))

abbrev pub bvsrem : ℕ → ℕ → ℕ → ℕ
bvsrem w a b = number_of w (int_rem (signed_of w a) (signed_of w b))

-- shifts by b bits: to the left, and to the right with zeros or with copies of the sign
abbrev pub bvshl : ℕ → ℕ → ℕ → ℕ
bvshl w a b = (a * 2 ^ b) % 2 ^ w

abbrev pub bvlshr : ℕ → ℕ → ℕ → ℕ
bvlshr w a b = a / 2 ^ b

abbrev pub bvashr : ℕ → ℕ → ℕ → ℕ
bvashr w a b = number_of w (int_div_euclid (signed_of w a) (pos (2 ^ b)))

-- the order of the numbers, and of their signed readings
abbrev pub bvult : ℕ → ℕ → ℕ → Bool
bvult w a b = nat_lt a b

abbrev pub bvslt : ℕ → ℕ → ℕ → Bool
bvslt w a b = int_lt (signed_of w a) (signed_of w b)

-- the number of a greater width with the same signed reading
abbrev pub sign_extend : ℕ → ℕ → ℕ → ℕ
sign_extend from to a = number_of to (signed_of from a)

-- a sum, a difference or a product that the width cannot hold, as a number (`u`) or as a signed reading (`s`)
abbrev pub bvuaddo : ℕ → ℕ → ℕ → Bool
bvuaddo w a b = nat_le (2 ^ w) (a + b)

abbrev pub bvsaddo : ℕ → ℕ → ℕ → Bool
bvsaddo w a b = not (fits_signed w (signed_of w a +ℤ signed_of w b))

abbrev pub bvusubo : ℕ → ℕ → ℕ → Bool
bvusubo w a b = nat_lt a b

abbrev pub bvssubo : ℕ → ℕ → ℕ → Bool
bvssubo w a b = not (fits_signed w (signed_of w a -ℤ signed_of w b))

abbrev pub bvumulo : ℕ → ℕ → ℕ → Bool
bvumulo w a b = nat_le (2 ^ w) (a * b)

abbrev pub bvsmulo : ℕ → ℕ → ℕ → Bool
bvsmulo w a b = not (fits_signed w (signed_of w a *ℤ signed_of w b))
