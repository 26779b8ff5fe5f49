-- What is read of the bytes of an object.
use Rattle.std.specs.Prelude.{◌≡◌, ℕ, ◌+◌, ◌^◌, ◌<◌, ◌≤◌, List, length}
use Rattle.std.specs.List.{All}
use Rattle.ir_layout.specs.Bytes.{number_at}

-- a number is that of a range that lies in these bytes, which have places below 2^64
pub record IsRead (at count : ℕ) (bytes : List ℕ) (n : ℕ) : Type 0 where
  pub there : at + count ≤ length bytes
  pub room : length bytes < 2 ^ 64
  pub small : All (λ b. b < 256) bytes
  pub is : n ≡ number_at count at bytes
