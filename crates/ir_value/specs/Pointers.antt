-- Addresses: how they compare, what is added to them, and where they reach.
use Rattle.std.specs.Prelude.{ℕ, ◌+◌, ◌*◌, ◌%◌, ◌^◌, ℤ, pos, ◌+ℤ◌, ◌*ℤ◌, int_le, Bool, true, false, not, ◌&&◌, ◌||◌, ◌==◌, if◌then◌else◌, nat_le, nat_eq}
use Rattle.hk_num.specs.Numbers.{signed_of, number_of, sign_extend, bvslt}
use Rattle.ir_ast.specs.declared.instr.Predicate.{Predicate}
use Rattle.ir_ast.specs.declared.instr.Predicate.TheVariants.{Eq, Ne}
use Rattle.ir_value.specs.declared.value.Value.{Value}
use Rattle.ir_value.specs.declared.value.Value.TheVariants.{Number, Null, Address, Poison}
use Rattle.ir_value.specs.declared.value.StuckReason.TheVariants.{U5, U6, U7, U8, U15}
use Rattle.ir_value.specs.declared.value.Made.{Made}
use Rattle.ir_value.specs.declared.value.Made.TheVariants.{Gives, Sticks, Lost}
use Rattle.ir_value.specs.declared.access.Access.{Access}
use Rattle.ir_value.specs.declared.access.Access.TheVariants.{At, Not, Nowhere}
use Rattle.ir_value.specs.Numbers.{is_width, is_number, truth, holds}

-- ---- comparisons; the sizes are those of the operands' objects

abbrev pub is_equality : Predicate → Bool
is_equality Eq = true
is_equality Ne = true
is_equality _ = false

abbrev pub says : Bool → Made
says b = Gives (Number (truth b))

-- two addresses in one object: an order asks that both lie in the object or at its end
abbrev pub compare_within : Predicate → ℕ → ℕ → ℕ → Made
compare_within p size x y = if is_equality p || (nat_le x size && nat_le y size) then says (holds p 64 x y) else Sticks U15

-- an address with null: they differ where the address lies in its object or at its end
abbrev pub compare_with_null : Predicate → ℕ → ℕ → Made
compare_with_null p size x = if is_equality p && nat_le x size then says (holds p 64 0 1) else Sticks U15

abbrev pub compare_nulls : Predicate → Made
compare_nulls p = if is_equality p then says (holds p 64 0 0) else Sticks U15

abbrev pub compare_addresses : Predicate → ℕ → ℕ → ℕ → ℕ → ℕ → Made
compare_addresses p size o x q y = if o == q then compare_within p size x y else Sticks U15

abbrev pub is_pointer : Value → Bool
is_pointer (Number n) = false
is_pointer _ = true

abbrev pub compare_known : Predicate → ℕ → ℕ → Value → Value → Made
compare_known p size_a size_b Null Null = compare_nulls p
compare_known p size_a size_b Null (Address o x) = compare_with_null p size_b x
compare_known p size_a size_b (Address o x) Null = compare_with_null p size_a x
compare_known p size_a size_b (Address o x) (Address q y) = compare_addresses p size_a o x q y
compare_known p size_a size_b _ _ = Gives Poison

abbrev pub compare_pointers : Predicate → ℕ → ℕ → Value → Value → Made
compare_pointers p size_a size_b a b = if is_pointer a && is_pointer b then compare_known p size_a size_b a b else Lost

-- ---- what `getelementptr` adds

-- an index, read as a signed number, steps over so many values of a size
abbrev pub added_by : ℕ → ℕ → ℕ → ℤ
added_by w n size = signed_of w n *ℤ pos size

-- from 0 to the size
abbrev pub is_within : ℕ → ℤ → Bool
is_within size z = int_le (pos 0) z && int_le z (pos size)

abbrev pub moved_within : ℕ → ℕ → ℤ → Value
moved_within size o z = if is_within size z then Address o (number_of 64 z) else Poison

abbrev pub is_no_move : Bool → ℤ → Bool
is_no_move inbounds z = if inbounds then int_le (pos 0) z && int_le z (pos 0) else number_of 64 z == 0

-- an offset is added: with `inbounds` the sum is a whole number that must lie in the object or at its end, else one modulo 2^64. Null
-- moves by nothing alone.
abbrev pub move_by : Bool → ℕ → ℤ → Value → Value
move_by inbounds size z (Address o x) = if inbounds then moved_within size o (pos x +ℤ z) else Address o (number_of 64 (pos x +ℤ z))
move_by inbounds size z Null = if is_no_move inbounds z then Null else Poison
move_by inbounds size z _ = Poison

-- with `inbounds` the start must lie in the object or at its end, too
abbrev pub begin_at : Bool → ℕ → Value → Value
begin_at inbounds size v = move_by inbounds size (pos 0) v

-- an index of a type that has a size up to 2^32; a poison index makes all poison
abbrev pub signed_step : Bool → ℕ → ℕ → ℕ → Value → Value → Value
signed_step inbounds size w each (Number n) v = if is_width w && is_number w n then move_by inbounds size (added_by w n each) v else Poison
signed_step inbounds size w each _ v = Poison

-- the bytes that an index steps over, extended by its sign to 64 bits and read unsigned
abbrev pub unsigned_by : ℕ → ℕ → ℕ → ℕ
unsigned_by w n each = sign_extend w 64 n * each

-- read so, they or the sum with the offset are 2^64 or more
abbrev pub wraps : ℕ → ℕ → Value → Value → Bool
wraps w each (Number n) (Address o x) = nat_le (2 ^ 64) (unsigned_by w n each) || nat_le (2 ^ 64) (x + unsigned_by w n each)
wraps w each _ _ = false

-- an index steps back over values that have a size: within an object, that is where it wraps
abbrev pub steps_back : ℕ → ℕ → Value → Bool
steps_back w each (Number n) = (is_width w && is_number w n) && (not (each == 0) && bvslt w n 0)
steps_back w each _ = false

-- with `inbounds nuw` that is poison, too
abbrev pub step_of : Bool → Bool → ℕ → ℕ → ℕ → Value → Value → Value
step_of inbounds nuw size w each i v = if (inbounds && nuw) && wraps w each i v then Poison else signed_step inbounds size w each i v

-- ---- where an access reaches

-- so many bytes of an object at an offset
abbrev pub reach_of : ℕ → ℕ → ℕ → ℕ → ℕ → ℕ → Access
reach_of size object_align bytes align o x =
    if not (nat_le (x + bytes) size) then Not U6
    else (if not ((x % align == 0) && (object_align % align == 0)) then Not U7 else At o x)

-- the address of an access, in the order of its tests
abbrev pub reach : ℕ → ℕ → ℕ → ℕ → Value → Access
reach size object_align bytes align Poison = Not U8
reach size object_align bytes align Null = Not U5
reach size object_align bytes align (Address o x) = if nat_le 1 align then reach_of size object_align bytes align o x else Nowhere
reach size object_align bytes align (Number n) = Nowhere
