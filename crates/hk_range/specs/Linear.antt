-- Two linear forms over the whole numbers, beside each other: numbers, and terms with how often each stands in the first and in the second.
use Rattle.std.specs.Prelude.{◌≡◌, ℕ, ◌+◌, ◌*◌, ◌<◌, Bool, true, ◌&&◌, nat_eq, sum_by, List, [], ◌∷◌, length, All}
use Rattle.hk_term.specs.Meaning.{Reading, value}
use Rattle.hk_term.specs.declared.node.Node.{Node}
use Rattle.hk_range.specs.Ranges.{InRange, Knows}
use Rattle.hk_range.specs.declared.range.Range.{Range}
use Rattle.hk_range.specs.declared.known.Known.{Known}
use Rattle.hk_range.specs.declared.sums.Item.{Item}
use Rattle.hk_range.specs.declared.sums.Sums.{Sums}
use Rattle.hk_range.specs.declared.ends.Ends.{Ends}
use Rattle.hk_range.specs.declared.parts.Parts.{Parts}
use Rattle.hk_range.specs.declared.parts.Parts.TheVariants.{Number, Times, Linear, Minus, Whole}

-- how much the terms make in each, where f gives their numbers
abbrev pub left_items : (ℕ → ℕ) → List Item → ℕ
left_items f items = sum_by (λ i. i.left * f i.term) items

abbrev pub right_items : (ℕ → ℕ) → List Item → ℕ
right_items f items = sum_by (λ i. i.right * f i.term) items

-- the numbers of the two sums
abbrev pub left_of : (ℕ → ℕ) → Sums → ℕ
left_of f s = s.left + left_items f s.items.items

abbrev pub right_of : (ℕ → ℕ) → Sums → ℕ
right_of f s = s.right + right_items f s.items.items

-- the numbers of terms under a reading
abbrev pub numbers : List Node → Reading → ℕ → ℕ
numbers nodes v k = value nodes k v

-- a number was put l times into the first sum and r times into the second, but for what both have: their difference is as it should be
abbrev pub Puts : (ℕ → ℕ) → Sums → Sums → ℕ → ℕ → ℕ → Type 0
Puts f old new l r n = left_of f new + (right_of f old + r * n) ≡ right_of f new + (left_of f old + l * n)

-- the terms stand in the list
abbrev pub ItemsThere : ℕ → List Item → Type 0
ItemsThere size items = All (λ i. i.term < size) items

-- the two sums are in their ranges
pub record InEnds (e : Ends) (l r : ℕ) : Type 0 where
  pub left : InRange e.left l
  pub right : InRange e.right r

-- what a term is made of, under every reading of which this is known
abbrev pub IsMadeOf : List Node → Known → ℕ → Parts → Type 0
IsMadeOf nodes known a (Number n) = (v : Reading) → Knows nodes known v → value nodes a v ≡ n
IsMadeOf nodes known a (Times x n) = (x < length nodes) × ((v : Reading) → Knows nodes known v → value nodes a v ≡ n * value nodes x v)
IsMadeOf nodes known a (Linear x n y) = (x < length nodes) × (y < length nodes) × ((v : Reading) → Knows nodes known v → value nodes a v ≡ n * value nodes x v + value nodes y v)
IsMadeOf nodes known a (Minus x y) = (x < length nodes) × (y < length nodes) × ((v : Reading) → Knows nodes known v → value nodes a v + value nodes y v ≡ value nodes x v)
IsMadeOf nodes known a Whole = Unit {0}

-- whether none of the items stands in the second sum
abbrev pub only_first : List Item → Bool
only_first [] = true
only_first (i ∷ is) = nat_eq i.right 0 && only_first is
