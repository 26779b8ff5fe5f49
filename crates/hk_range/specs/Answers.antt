-- What is asked of terms in place of a comparison of sums.
use Rattle.std.specs.Prelude.{◌≡◌, ℕ, ◌<◌, Bool, true, false, not, ◌&&◌, nat_eq, nat_lt, List, length, All}
use Rattle.std.specs.List.{list_all}
use Rattle.hk_range.specs.declared.answers.Equation.{Equation}
use Rattle.hk_range.specs.declared.answers.Equation.TheVariants.{Is, Same}
use Rattle.hk_range.specs.declared.answers.Found.{Found}
use Rattle.hk_range.specs.declared.answers.Found.TheVariants.{Unequal, Solved, Open}
use Rattle.hk_range.specs.declared.answers.Order.{Order}
use Rattle.hk_range.specs.declared.answers.Order.TheVariants.{Always, Never, Below, Above, Less, NotLess}

-- an equation of a term and a number, or of two terms, where f gives the numbers of terms
abbrev pub equation_true : (ℕ → ℕ) → Equation → Bool
equation_true f (Is x n) = nat_eq (f x) n
equation_true f (Same x y) = nat_eq (f x) (f y)

abbrev pub all_true : (ℕ → ℕ) → List Equation → Bool
all_true f equations = list_all (equation_true f) equations

abbrev pub EquationThere : ℕ → Equation → Type 0
EquationThere size (Is x n) = x < size
EquationThere size (Same x y) = (x < size) × (y < size)

-- an order of a term and a number, or of two terms
abbrev pub order_true : (ℕ → ℕ) → Order → Bool
order_true f Always = true
order_true f Never = false
order_true f (Below x n) = nat_lt (f x) n
order_true f (Above x n) = nat_lt n (f x)
order_true f (Less x y) = nat_lt (f x) (f y)
order_true f (NotLess x y) = not (nat_lt (f x) (f y))

abbrev pub OrderThere : ℕ → Order → Type 0
OrderThere size Always = Unit {0}
OrderThere size Never = Unit {0}
OrderThere size (Below x n) = x < size
OrderThere size (Above x n) = x < size
OrderThere size (Less x y) = (x < size) × (y < size)
OrderThere size (NotLess x y) = (x < size) × (y < size)

-- what is found of two sums with the numbers l and r, where equations were put behind others: they differ, or they are equal exactly where these hold
abbrev pub IsFound : (ℕ → ℕ) → List Equation → List Equation → ℕ → ℕ → Found → Type 0
IsFound f old new l r Unequal = nat_eq l r ≡ false
IsFound f old new l r Solved = all_true f new ≡ (all_true f old && nat_eq l r)
IsFound f old new l r Open = Unit {0}
