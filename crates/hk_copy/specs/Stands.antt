-- What variables stand for, and the reading in which they do.
use Rattle.std.specs.Prelude.{◌≡◌, ℕ, ◌%◌, ◌^◌, Bool, false, not, ◌||◌, nat_eq, List, [], ◌∷◌, filter, Option, Some, None}
use Rattle.std.specs.Map.{lookup}
use Rattle.hk_term.specs.Shape.{IsWidth}
use Rattle.hk_term.specs.Meaning.{Reading, with_var}
use Rattle.hk_term.specs.declared.bounds.Bound.{Bound}
use Rattle.hk_copy.specs.declared.stand.Stand.{Stand}
use Rattle.hk_copy.specs.declared.stand.Stand.TheVariants.{Number, Other}

-- what variables, by their ids, stand for; of two entries of one id the first counts
abbrev pub Stands : Type 0
Stands = List (ℕ × Stand)

-- what a stand is under a reading
abbrev pub stand_value : Reading → Stand → ℕ
stand_value v (Number n) = n
stand_value v (Other width id) = v.var id % 2 ^ width

-- the number of a variable that stands for this, or for nothing
abbrev pub number_of : Reading → Option Stand → ℕ → ℕ
number_of v None id = v.var id
number_of v (Some s) id = stand_value v s

-- the reading in which each variable that stands for something has its number
abbrev pub replaced : Stands → Reading → Reading
replaced env v = record v { var = λ id. number_of v (lookup (nat_eq id) env) id }

-- whether a list binds an id
abbrev pub is_bound : List Bound → ℕ → Bool
is_bound [] id = false
is_bound (b ∷ bs) id = nat_eq id b.id || is_bound bs id

-- inside a quantifier: the ids that it binds stand for nothing
abbrev pub without : List Bound → Stands → Stands
without bound env = filter (λ e. not (is_bound bound e.0)) env

-- a quantifier does not capture a stand
abbrev pub IsApart : List Bound → Stand → Type 0
IsApart bound (Number n) = Unit {0}
IsApart bound (Other width id) = is_bound bound id ≡ false

-- a stand has a width
abbrev pub HasWidth : Stand → Type 0
HasWidth (Number n) = Unit {0}
HasWidth (Other width id) = IsWidth width

-- the bound variables of a tuple stand for these, one after another; the last comes first, as an inner binding hides an outer one
abbrev pub standing_on : List Bound → List Stand → Stands → Stands
standing_on [] ss env = env
standing_on (b ∷ bs) [] env = env
standing_on (b ∷ bs) (s ∷ ss) env = standing_on bs ss ((b.id, s) ∷ env)

-- the bound variables of a tuple stand for these, and no other variable for anything
abbrev pub standing : List Bound → List Stand → Stands
standing bs ss = standing_on bs ss []

-- the reading with a tuple of numbers for the bound variables
abbrev pub with_tuple : List Bound → List ℕ → Reading → Reading
with_tuple [] ks v = v
with_tuple (b ∷ bs) [] v = v
with_tuple (b ∷ bs) (k ∷ ks) v = with_tuple bs ks (with_var v b.id k)
