-- How often a place stands in a list, told apart up to two.
use Rattle.std.specs.Prelude.{◌≡◌, ℕ, Bool, true, false, if◌then◌else◌, nat_eq, Option, Some, None, List, slice_index_or, count_by}
use Rattle.spec_lines.specs.declared.equated.Times.{Times}
use Rattle.spec_lines.specs.declared.equated.Times.TheVariants.{Never, Once, Often}
use Rattle.spec_lines.specs.Equations.{is_place}

abbrev pub times_of : ℕ → Times
times_of n = if nat_eq n 0 then Never else (if nat_eq n 1 then Once else Often)

abbrev pub more : Times → Times
more Never = Once
more _ = Often

abbrev pub is_once : Times → Bool
is_once Once = true
is_once _ = false

-- at place p, where it is once more at this place
abbrev pub more_at : ℕ → ℕ → Times → Times
more_at place p times = if nat_eq p place then more times else times

abbrev pub more_for : Option ℕ → ℕ → Times → Times
more_for None p times = times
more_for (Some place) p times = more_at place p times

-- by its place, how often each stands there
abbrev pub AreTallied : List Times → List (Option ℕ) → Type 0
AreTallied times places = (p : ℕ) → slice_index_or times p Never ≡ times_of (count_by (is_place p) places)
