-- Numbers in bytes, the low one first.
use Rattle.std.specs.Prelude.{◌≡◌, ℕ, zero, suc, ◌+◌, ◌*◌, ◌/◌, ◌%◌, ◌⊎◌, List, [], slice_index, slice_index_or, slice_set}

-- the widths of loads and stores
abbrev pub IsWidth : ℕ → Type 0
IsWidth bytes = (bytes ≡ 1) ⊎ ((bytes ≡ 2) ⊎ ((bytes ≡ 4) ⊎ (bytes ≡ 8)))

-- the bytes of an object
abbrev pub object_of : List (List ℕ) → ℕ → List ℕ
object_of memory object = slice_index_or memory object []

-- the number in so many bytes from a place on
abbrev pub number_at : ℕ → ℕ → List ℕ → ℕ
number_at zero at bytes = 0
number_at (suc n) at bytes = slice_index bytes at + 256 * number_at n (at + 1) bytes

-- the bytes with a number in so many of them from a place on; all others are as before
abbrev pub with_number : ℕ → ℕ → ℕ → List ℕ → List ℕ
with_number zero at value bytes = bytes
with_number (suc n) at value bytes = with_number n (at + 1) (value / 256) (slice_set bytes at (value % 256))
