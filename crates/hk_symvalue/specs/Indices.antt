-- An index of a `getelementptr` as terms tell it: a sign, and how many bytes it steps over.
use Rattle.std.specs.Prelude.{ℕ, ◌+◌, ◌-◌, ◌*◌, ◌%◌, ◌^◌, Bool, not, ◌&&◌, ◌||◌, ◌==◌, if◌then◌else◌, nat_lt, nat_eq, List, unsigned_abs}
use Rattle.hk_num.specs.Numbers.{signed_of}
use Rattle.hk_term.specs.declared.node.Node.{Node}
use Rattle.hk_symvalue.specs.declared.value.Moved.{Moved}
use Rattle.hk_symvalue.specs.Meaning.{IsTruth, IsWord}

-- how many bytes an index of a width steps over, forwards or back
abbrev pub distance : ℕ → ℕ → ℕ → ℕ
distance w n each = unsigned_abs (signed_of w n) * each

abbrev pub is_back : ℕ → ℕ → Bool
is_back w n = not (nat_lt n (2 ^ (w - 1)))

-- so many bytes forwards or back, modulo 2^64
abbrev pub delta_of : Bool → ℕ → ℕ
delta_of back n = if back then (2 ^ 64 - n % 2 ^ 64) % 2 ^ 64 else n % 2 ^ 64

-- a step from x that comes to y modulo 2^64 leaves an object of a size: it wraps, or y is beyond the end
abbrev pub leaves_object : Bool → Bool → ℕ → ℕ → ℕ → Bool
leaves_object over back size x y = over || ((if back then nat_lt x y else nat_lt y x) || nat_lt size y)

-- a pointer that is not poison takes no step by such an index: it is a number, null moves, or the offset leaves its object
abbrev pub stays_at : Bool → Bool → Bool → ℕ → ℕ → ℕ → ℕ → Bool
stays_at inbounds back over by base x size =
    nat_eq base 0 || (if nat_eq base 1 then (inbounds && over) || not (by == 0) else inbounds && leaves_object over back size x ((x + by) % 2 ^ 64))

-- three terms of a step
pub record IsMoved (nodes : List Node) (m : Moved) : Type 0 where
  pub back : IsTruth nodes m.back
  pub over : IsTruth nodes m.over
  pub by : IsWord nodes 64 m.by
