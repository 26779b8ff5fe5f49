-- A room for the values of terms: for each place of a list the number of its term, where it is known.
use Rattle.std.specs.Prelude.{◌≡◌, ℕ, ◌^◌, ◌≤◌, if◌then◌else◌, nat_eq, List, [], ◌∷◌, length, slice_get, Option, Some, None}
use Rattle.hk_term.specs.Meaning.{Reading, value}
use Rattle.hk_term.specs.Walk.{IsTimed}
use Rattle.hk_term.specs.declared.node.Node.{Node}

-- the numbers whose mark is this stamp
abbrev pub known_numbers : ℕ → List ℕ → List ℕ → List (Option ℕ)
known_numbers stamp values [] = []
known_numbers stamp [] (m ∷ ms) = []
known_numbers stamp (v ∷ vs) (m ∷ ms) = (if nat_eq m stamp then Some v else None) ∷ known_numbers stamp vs ms

-- how the numbers are kept: no mark is later than the clock, and the stamp leaves room for those of quantifiers
pub record IsRoom (stamp clock : ℕ) (values marks : List ℕ) : Type 0 where
  pub each : length marks ≤ length values
  pub some : 1 ≤ stamp
  pub last : stamp ≤ 2 ^ 63
  pub past : stamp ≤ clock
  pub timed : IsTimed marks clock

-- a room is for a list and a reading: it has a place for each term, and what it knows are their values
pub record IsFor (nodes : List Node) (r : Reading) (room : List (Option ℕ)) : Type 0 where
  pub size : length room ≡ length nodes
  pub known : (k n : ℕ) → slice_get room k ≡ Some (Some n) → n ≡ value nodes k r
