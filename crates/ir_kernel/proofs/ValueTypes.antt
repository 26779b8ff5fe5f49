-- Instructions make values of their types of operands of theirs, or are stuck.
use Rattle.std.proofs.Common.{◌≡◌, ℕ, zero, suc, ◌+◌, ◌-◌, ◌*◌, ◌%◌, ◌^◌, ◌<◌, ◌==◌, ◌&&◌, ◌||◌, Bool, true, false, if◌then◌else◌, nat_le, nat_eq, refl, sym, subst, arith}
use Rattle.std.specs.Prelude.{ℤ, pos, ◌+ℤ◌, bit_and, bit_or, bit_xor}
use Rattle.std.specs.Int.{int_div_euclid}
use Rattle.std.specs.Int.RustNames.{int_div, int_rem}
use Rattle.std.proofs.Math.Nat.{mod-lt}
use Rattle.std.proofs.lemmas.Nat.{pow_pos, pow_below, and_le_l, or_lt, xor_lt}
use Rattle.std.proofs.lemmas.Bool.{and_from, lt-ltb, ltb-true}
use Rattle.hk_num.specs.Numbers.{signed_of, sign_extend, bvadd, bvsub, bvmul, bvudiv, bvurem, bvsdiv, bvsrem, bvshl, bvlshr, bvashr, bvslt, bvult}
use Rattle.hk_num.proofs.Algebra.{number_below, udiv_below, urem_below, lshr_below}
use Rattle.ir_ast.specs.Plain.{Ty, integer, pointer}
use Rattle.ir_ast.specs.declared.operand.Flags.{Flags}
use Rattle.ir_ast.specs.declared.instr.BinaryKind.{BinaryKind}
use Rattle.ir_ast.specs.declared.instr.BinaryKind.TheVariants.{Add, Sub, Mul, Shl, Udiv, Sdiv, Lshr, Ashr, Urem, Srem, And, Xor, Or}
use Rattle.ir_ast.specs.declared.instr.Predicate.{Predicate}
use Rattle.ir_ast.specs.declared.instr.ConvertKind.{ConvertKind}
use Rattle.ir_ast.specs.declared.instr.ConvertKind.TheVariants.{Trunc, Zext, Sext}
use Rattle.ir_value.specs.declared.value.Value.{Value}
use Rattle.ir_value.specs.declared.value.Value.TheVariants.{Number, Null, Address, Poison}
use Rattle.ir_value.specs.declared.value.Made.{Made}
use Rattle.ir_value.specs.declared.value.Made.TheVariants.{Gives, Sticks, Lost}
use Rattle.ir_value.specs.declared.value.StuckReason.TheVariants.{U1, U2, U15}
use Rattle.ir_value.specs.declared.intrinsics.OverflowKind.{OverflowKind}
use Rattle.ir_value.specs.declared.intrinsics.OverflowKind.TheVariants as overflow
use Rattle.ir_value.specs.declared.intrinsics.PairKind.{PairKind}
use Rattle.ir_value.specs.declared.intrinsics.PairKind.TheVariants as two
use Rattle.ir_value.specs.Numbers.{is_width, is_number, is_narrower, is_division, is_signed_division, is_minus_one, is_least, takes, unless, truth, holds, signs_differ, of_numbers, by_poison, binary_of, binary, compare_of, compare_numbers, convert_number, convert_of, convert, freeze, select}
use Rattle.ir_value.specs.Pointers.{is_equality, is_pointer, compare_within, compare_known, compare_pointers, is_within, is_no_move, move_by, begin_at, signed_step, wraps, step_of, added_by}
use Rattle.ir_value.specs.Intrinsics.{wrapped, overflowed, overflow_of, with_overflow, pick, pair_numbers, pair_of, second_width, pair}
use Rattle.ir_kernel.specs.Typed.{is_of, MakesOf}

either : (t : Ty) (b : Bool) (m n : Made) → MakesOf t m → MakesOf t n → MakesOf t (if b then m else n)
either t true m n h k = h
either t false m n h k = k

asked : (t : Ty) (b : Bool) (m : Made) → b ≡ true → MakesOf t m → MakesOf t (if b then m else Lost)
asked t b m e h = subst (λ c. MakesOf t (if c then m else Lost)) (sym e) h

below : (w n : ℕ) → n < 2 ^ w → MakesOf (integer w) (Gives (Number n))
below w n l = lt-ltb n (2 ^ w) l

pub number_of_width : (w n : ℕ) → is_number w n ≡ true → n < 2 ^ w
number_of_width w n e = ltb-true n (2 ^ w) e

unless_makes : (w n : ℕ) (b : Bool) → n < 2 ^ w → MakesOf (integer w) (unless b n)
unless_makes w n b l = either (integer w) b (Gives Poison) (Gives (Number n)) refl (below w n l)

truth_makes : (b : Bool) → MakesOf (integer 1) (Gives (Number (truth b)))
truth_makes true = refl
truth_makes false = refl

-- ---- operations

numbers_make : (f : Flags) (kind : BinaryKind) (w a b : ℕ) → a < 2 ^ w → b < 2 ^ w → MakesOf (integer w) (of_numbers f kind w a b)
numbers_make f Add w a b l n = unless_makes w (bvadd w a b) _ (mod-lt (a + b) (pow_pos w))
numbers_make f Sub w a b l n = unless_makes w (bvsub w a b) _ (mod-lt (2 ^ w + a - b) (pow_pos w))
numbers_make f Mul w a b l n = unless_makes w (bvmul w a b) _ (mod-lt (a * b) (pow_pos w))
numbers_make f And w a b l n = below w (bit_and a b) (omega (arith, l, and_le_l a b))
numbers_make f Xor w a b l n = below w (bit_xor a b) (xor_lt w a b l n)
numbers_make f Or w a b l n = unless_makes w (bit_or a b) _ (or_lt w a b l n)
numbers_make f Shl w a b l n = either (integer w) (nat_le w b) _ _ refl (unless_makes w (bvshl w a b) _ (mod-lt (a * 2 ^ b) (pow_pos w)))
numbers_make f Lshr w a b l n = either (integer w) (nat_le w b) _ _ refl (unless_makes w (bvlshr w a b) _ (lshr_below w a b l))
numbers_make f Ashr w a b l n = either (integer w) (nat_le w b) _ _ refl (unless_makes w (bvashr w a b) _ (number_below w (int_div_euclid (signed_of w a) (pos (2 ^ b)))))
numbers_make f Udiv w a b l n = either (integer w) (b == 0) _ _ tt (unless_makes w (bvudiv w a b) _ (udiv_below w a b l))
numbers_make f Urem w a b l n = either (integer w) (b == 0) _ _ tt (below w (bvurem w a b) (urem_below w a b l))
numbers_make f Sdiv w a b l n =
    either (integer w) (b == 0) _ _ tt (either (integer w) (is_minus_one w b && is_least w a) _ _ tt (unless_makes w (bvsdiv w a b) _ (number_below w (int_div (signed_of w a) (signed_of w b)))))
numbers_make f Srem w a b l n =
    either (integer w) (b == 0) _ _ tt (either (integer w) (is_minus_one w b && is_least w a) _ _ tt (below w (bvsrem w a b) (number_below w (int_rem (signed_of w a) (signed_of w b)))))

poison_makes : (w : ℕ) (kind : BinaryKind) → MakesOf (integer w) (by_poison kind)
poison_makes w kind = either (integer w) (is_division kind) (Sticks U1) (Gives Poison) tt refl

operation_makes : (f : Flags) (kind : BinaryKind) (w : ℕ) (a b : Value) → takes w a ≡ true → takes w b ≡ true → MakesOf (integer w) (binary_of f kind w a b)
operation_makes f kind w (Number a) (Number b) x y = numbers_make f kind w a b (number_of_width w a x) (number_of_width w b y)
operation_makes f kind w (Number a) Poison x y = poison_makes w kind
operation_makes f kind w (Number a) Null x y = absurd cc
operation_makes f kind w (Number a) (Address o z) x y = absurd cc
operation_makes f kind w Poison (Number b) x y =
    either (integer w) (is_division kind && (b == 0)) (Sticks U1) _ tt (either (integer w) (is_signed_division kind && is_minus_one w b) (Sticks U2) (Gives Poison) tt refl)
operation_makes f kind w Poison Poison x y = poison_makes w kind
operation_makes f kind w Poison Null x y = absurd cc
operation_makes f kind w Poison (Address o z) x y = absurd cc
operation_makes f kind w Null b x y = absurd cc
operation_makes f kind w (Address o z) b x y = absurd cc

pub binary_makes : (f : Flags) (kind : BinaryKind) (w : ℕ) (a b : Value) → is_width w ≡ true → is_of (integer w) a ≡ true → is_of (integer w) b ≡ true → MakesOf (integer w) (binary f kind w a b)
binary_makes f kind w a b width x y =
    asked (integer w) (is_width w && (takes w a && takes w b)) (binary_of f kind w a b) (and_from (is_width w) _ width (and_from (takes w a) (takes w b) x y)) (operation_makes f kind w a b x y)

-- ---- comparisons

comparison_makes : (samesign : Bool) (p : Predicate) (w : ℕ) (a b : Value) → takes w a ≡ true → takes w b ≡ true → MakesOf (integer 1) (compare_of samesign p w a b)
comparison_makes samesign p w (Number a) (Number b) x y = either (integer 1) (samesign && signs_differ w a b) (Gives Poison) (Gives (Number (truth (holds p w a b)))) refl (truth_makes (holds p w a b))
comparison_makes samesign p w (Number a) Poison x y = refl
comparison_makes samesign p w (Number a) Null x y = absurd cc
comparison_makes samesign p w (Number a) (Address o z) x y = absurd cc
comparison_makes samesign p w Poison (Number b) x y = refl
comparison_makes samesign p w Poison Poison x y = refl
comparison_makes samesign p w Poison Null x y = absurd cc
comparison_makes samesign p w Poison (Address o z) x y = absurd cc
comparison_makes samesign p w Null b x y = absurd cc
comparison_makes samesign p w (Address o z) b x y = absurd cc

pub compare_makes : (samesign : Bool) (p : Predicate) (w : ℕ) (a b : Value) → is_width w ≡ true → is_of (integer w) a ≡ true → is_of (integer w) b ≡ true → MakesOf (integer 1) (compare_numbers samesign p w a b)
compare_makes samesign p w a b width x y =
    asked (integer 1) (is_width w && (takes w a && takes w b)) (compare_of samesign p w a b) (and_from (is_width w) _ width (and_from (takes w a) (takes w b) x y)) (comparison_makes samesign p w a b x y)

says_makes : (b c : Bool) → MakesOf (integer 1) (if b then Gives (Number (truth c)) else Sticks U15)
says_makes b c = either (integer 1) b (Gives (Number (truth c))) (Sticks U15) (truth_makes c) tt

known_makes : (p : Predicate) (m n : ℕ) (a b : Value) → MakesOf (integer 1) (compare_known p m n a b)
known_makes p m n Null Null = says_makes (is_equality p) (holds p 64 0 0)
known_makes p m n Null (Address o x) = says_makes (is_equality p && nat_le x n) (holds p 64 0 1)
known_makes p m n Null Poison = refl
known_makes p m n Null (Number y) = refl
known_makes p m n (Address o x) Null = says_makes (is_equality p && nat_le x m) (holds p 64 0 1)
known_makes p m n (Address o x) (Address q y) =
    either (integer 1) (o == q) (compare_within p m x y) (Sticks U15) (says_makes (is_equality p || (nat_le x m && nat_le y m)) (holds p 64 x y)) tt
known_makes p m n (Address o x) Poison = refl
known_makes p m n (Address o x) (Number y) = refl
known_makes p m n Poison b = refl
known_makes p m n (Number x) b = refl

pub compare_pointers_makes : (p : Predicate) (m n : ℕ) (a b : Value) → is_of pointer a ≡ true → is_of pointer b ≡ true → MakesOf (integer 1) (compare_pointers p m n a b)
compare_pointers_makes p m n a b x y = asked (integer 1) (is_pointer a && is_pointer b) (compare_known p m n a b) (and_from (is_pointer a) (is_pointer b) x y) (known_makes p m n a b)

-- ---- `freeze` and `select`

pub freeze_makes : (t : Ty) (a : Value) → is_of t a ≡ true → MakesOf t (freeze a)
freeze_makes t (Number n) x = x
freeze_makes t Null x = x
freeze_makes t (Address o z) x = x
freeze_makes t Poison x = tt

chosen : (t : Ty) (c : ℕ) (a b : Value) → c < 2 → is_of t a ≡ true → is_of t b ≡ true → MakesOf t (if nat_eq c 0 then Gives b else (if nat_eq c 1 then Gives a else Lost))
chosen t zero a b l x y = y
chosen t (suc zero) a b l x y = x
chosen t (suc (suc c)) a b l x y = absurd (omega (arith, l))

pub poison_of : (t : Ty) (a : Value) → is_of t a ≡ true → is_of t Poison ≡ true
poison_of (integer w) a x = refl
poison_of pointer a x = refl
poison_of t a x = absurd cc

pub select_makes : (t : Ty) (c a b : Value) → is_of (integer 1) c ≡ true → is_of t a ≡ true → is_of t b ≡ true → MakesOf t (select c a b)
select_makes t (Number c) a b z x y = chosen t c a b (number_of_width 1 c z) x y
select_makes t Poison a b z x y = poison_of t a x
select_makes t Null a b z x y = absurd cc
select_makes t (Address o k) a b z x y = absurd cc

-- ---- steps of addresses

if_pointer : (b : Bool) (u v : Value) → is_pointer u ≡ true → is_pointer v ≡ true → is_pointer (if b then u else v) ≡ true
if_pointer true u v x y = x
if_pointer false u v x y = y

move_makes : (inbounds : Bool) (size : ℕ) (z : ℤ) (v : Value) → is_pointer (move_by inbounds size z v) ≡ true
move_makes true size z (Address o x) = if_pointer (is_within size (pos x +ℤ z)) _ Poison refl refl
move_makes false size z (Address o x) = refl
move_makes inbounds size z Null = if_pointer (is_no_move inbounds z) Null Poison refl refl
move_makes inbounds size z Poison = refl
move_makes inbounds size z (Number n) = refl

pub begin_makes : (inbounds : Bool) (size : ℕ) (v : Value) → is_of pointer (begin_at inbounds size v) ≡ true
begin_makes inbounds size v = move_makes inbounds size (pos 0) v

signed_makes : (inbounds : Bool) (size w each : ℕ) (i v : Value) → is_pointer (signed_step inbounds size w each i v) ≡ true
signed_makes inbounds size w each (Number n) v = if_pointer (is_width w && is_number w n) _ Poison (move_makes inbounds size (added_by w n each) v) refl
signed_makes inbounds size w each Null v = refl
signed_makes inbounds size w each (Address o x) v = refl
signed_makes inbounds size w each Poison v = refl

pub step_makes : (inbounds nuw : Bool) (size w each : ℕ) (i v : Value) → is_of pointer (step_of inbounds nuw size w each i v) ≡ true
step_makes inbounds nuw size w each i v = if_pointer ((inbounds && nuw) && wraps w each i v) Poison _ refl (signed_makes inbounds size w each i v)

-- ---- changes of width

conversion_makes : (f : Flags) (kind : ConvertKind) (from to n : ℕ) → is_narrower kind from to ≡ true → n < 2 ^ from → MakesOf (integer to) (convert_number f kind from to n)
conversion_makes f Trunc from to n e l = unless_makes to (n % 2 ^ to) _ (mod-lt n (pow_pos to))
conversion_makes f Zext from to n e l = unless_makes to n _ (omega (arith, l, pow_below from to (ltb-true from to e)))
conversion_makes f Sext from to n e l = below to (sign_extend from to n) (number_below to (signed_of from n))

converted_makes : (f : Flags) (kind : ConvertKind) (from to : ℕ) (a : Value) → is_narrower kind from to ≡ true → takes from a ≡ true → MakesOf (integer to) (convert_of f kind from to a)
converted_makes f kind from to (Number n) e x = conversion_makes f kind from to n e (number_of_width from n x)
converted_makes f kind from to Poison e x = refl
converted_makes f kind from to Null e x = absurd cc
converted_makes f kind from to (Address o z) e x = absurd cc

pub convert_makes : (f : Flags) (kind : ConvertKind) (from to : ℕ) (a : Value) → is_width from ≡ true → is_width to ≡ true → is_narrower kind from to ≡ true → is_of (integer from) a ≡ true
    → MakesOf (integer to) (convert f kind from to a)
convert_makes f kind from to a x y e z =
    asked (integer to) ((is_width from && is_width to) && (is_narrower kind from to && takes from a)) (convert_of f kind from to a)
    (and_from (is_width from && is_width to) _ (and_from (is_width from) (is_width to) x y) (and_from (is_narrower kind from to) (takes from a) e z)) (converted_makes f kind from to a e z)

-- ---- intrinsics

wrapped_below : (kind : OverflowKind) (w a b : ℕ) → wrapped kind w a b < 2 ^ w
wrapped_below overflow.Add w a b = mod-lt (a + b) (pow_pos w)
wrapped_below overflow.Sub w a b = mod-lt (2 ^ w + a - b) (pow_pos w)
wrapped_below overflow.Mul w a b = mod-lt (a * b) (pow_pos w)

others_make : (t : Ty) (w : ℕ) (kind : OverflowKind) (signed : Bool) (part : ℕ) (a b : Value) → is_of t Poison ≡ true → ((m n : ℕ) → MakesOf t (overflow_of kind signed w part (Number m) (Number n)))
    → MakesOf t (overflow_of kind signed w part a b)
others_make t w kind signed part (Number a) (Number b) p h = h a b
others_make t w kind signed part (Number a) Null p h = p
others_make t w kind signed part (Number a) (Address o x) p h = p
others_make t w kind signed part (Number a) Poison p h = p
others_make t w kind signed part Null b p h = p
others_make t w kind signed part (Address o x) b p h = p
others_make t w kind signed part Poison b p h = p

pub first_makes : (kind : OverflowKind) (signed : Bool) (w : ℕ) (a b : Value) → is_width w ≡ true → is_of (integer w) a ≡ true → is_of (integer w) b ≡ true
    → MakesOf (integer w) (with_overflow kind signed w 0 a b)
first_makes kind signed w a b width x y =
    asked (integer w) (is_width w && (takes w a && takes w b)) (overflow_of kind signed w 0 a b) (and_from (is_width w) _ width (and_from (takes w a) (takes w b) x y))
    (others_make (integer w) w kind signed 0 a b refl (λ m n. below w (wrapped kind w m n) (wrapped_below kind w m n)))

pub second_makes : (kind : OverflowKind) (signed : Bool) (w : ℕ) (a b : Value) → is_width w ≡ true → is_of (integer w) a ≡ true → is_of (integer w) b ≡ true
    → MakesOf (integer 1) (with_overflow kind signed w 1 a b)
second_makes kind signed w a b width x y =
    asked (integer 1) (is_width w && (takes w a && takes w b)) (overflow_of kind signed w 1 a b) (and_from (is_width w) _ width (and_from (takes w a) (takes w b) x y))
    (others_make (integer 1) w kind signed 1 a b refl (λ m n. truth_makes (overflowed kind signed w m n)))

pick_makes : (w : ℕ) (first : Bool) (a b : ℕ) → a < 2 ^ w → b < 2 ^ w → MakesOf (integer w) (pick first a b)
pick_makes w true a b l n = below w a l
pick_makes w false a b l n = below w b n

two_make : (kind : PairKind) (w a b : ℕ) → a < 2 ^ w → b < 2 ^ second_width kind w → MakesOf (integer w) (pair_numbers kind w a b)
two_make two.Umin w a b l n = pick_makes w (bvult w b a) b a n l
two_make two.Umax w a b l n = pick_makes w (bvult w b a) a b l n
two_make two.Smin w a b l n = pick_makes w (bvslt w b a) b a n l
two_make two.Smax w a b l n = pick_makes w (bvslt w b a) a b l n
two_make two.Abs w a b l n =
    either (integer w) (is_least w a) (unless (b == 1) a) _ (unless_makes w a (b == 1) l) (pick_makes w (bvslt w a 0) (bvsub w 0 a) a (mod-lt (2 ^ w + 0 - a) (pow_pos w)) l)
two_make two.Expect w a b l n = below w a l

pair_of_makes : (kind : PairKind) (w : ℕ) (a b : Value) → takes w a ≡ true → takes (second_width kind w) b ≡ true → MakesOf (integer w) (pair_of kind w a b)
pair_of_makes kind w (Number a) (Number b) x y = two_make kind w a b (number_of_width w a x) (number_of_width (second_width kind w) b y)
pair_of_makes kind w (Number a) Null x y = refl
pair_of_makes kind w (Number a) (Address o z) x y = refl
pair_of_makes kind w (Number a) Poison x y = refl
pair_of_makes kind w Null b x y = refl
pair_of_makes kind w (Address o z) b x y = refl
pair_of_makes kind w Poison b x y = refl

pub pair_makes : (kind : PairKind) (w : ℕ) (a b : Value) → is_width w ≡ true → is_of (integer w) a ≡ true → is_of (integer (second_width kind w)) b ≡ true → MakesOf (integer w) (pair kind w a b)
pair_makes kind w a b width x y =
    asked (integer w) (is_width w && (takes w a && takes (second_width kind w) b)) (pair_of kind w a b) (and_from (is_width w) _ width (and_from (takes w a) (takes (second_width kind w) b) x y))
    (pair_of_makes kind w a b x y)
