-- The inputs of a question, the table that gives them literals, and the reading that an assignment gives through the table.
--
-- The inputs are of four kinds: the bits of variables; the reads of arrays, each with its place and the bits of its value; the truth of
-- each quantifier; and the bits of the tuple that makes a false quantifier false, which are those of variables of its own. All of them are
-- terms, and the table has the literals of each term's bits: a read's place is the word of its index, its value its own word.
use Rattle.std.specs.Prelude.{◌≡◌, ℕ, ◌<◌, Bool, false, true, ◌&&◌, if◌then◌else◌, nat_eq, List, [], ◌∷◌, ◌++◌, Option, Some, slice_get}
use Rattle.std.specs.List.{AllPairs, Contains, list_any}
use Rattle.hk_term.specs.Meaning.{Reading}
use Rattle.hk_term.specs.declared.node.Node.{Node}
use Rattle.hk_term.specs.declared.node.Node.TheVariants.{Var, Select, ForAll}
use Rattle.hk_copy.specs.declared.stand.Stand.{Stand}
use Rattle.hk_copy.specs.declared.stand.Stand.TheVariants.{Number, Other}
use Rattle.hk_blast.specs.Blasted.{Words, HasWord, word_in, word_number}
use Rattle.hk_inst.specs.declared.opening.Opening.{Opening}

-- the words of terms, the reads and the quantifiers by their numbers, and for each quantifier the variables that stand for a tuple
pub record Table : Type 0 where
  pub words : Words
  pub reads : List ℕ
  pub quantifiers : List ℕ
  pub openings : List Opening

-- ---- the case that is read through the table

-- the number that an assignment gives to the word of a term
abbrev pub number_in : Words → List Bool → ℕ → ℕ
number_in words a t = word_number a (word_in words t)

-- the node is the variable of this id
abbrev pub is_variable : Option Node → ℕ → Bool
is_variable (Some (Var width i)) id = nat_eq i id
is_variable _ id = false

-- the node reads this array at this place, where terms have the numbers f
abbrev pub is_read_at : Option Node → (ℕ → ℕ) → ℕ → ℕ → Bool
is_read_at (Some (Select a width index)) f array place = nat_eq a array && nat_eq (f index) place
is_read_at _ f array place = false

-- the number of the first term that is the variable, and 0 where none is
abbrev pub variable_number : List Node → (ℕ → ℕ) → Words → ℕ → ℕ
variable_number nodes f [] id = 0
variable_number nodes f (e ∷ es) id = if is_variable (slice_get nodes e.0) id then f e.0 else variable_number nodes f es id

-- the number of the first read of the array at the place, and 0 where none is
abbrev pub entry_number : List Node → (ℕ → ℕ) → List ℕ → ℕ → ℕ → ℕ
entry_number nodes f [] array place = 0
entry_number nodes f (r ∷ rs) array place = if is_read_at (slice_get nodes r) f array place then f r else entry_number nodes f rs array place

-- the completed case: each variable and each place of an array has the number that a term of the table has for it, and 0 where none does.
-- By it are read the reads and the quantifiers that the table does not have: such a read has the value of a read of the table at an equal
-- place, and 0 where there is none; such a quantifier is true where its body, so read, is true at every tuple.
abbrev pub completed : List Node → Table → (ℕ → ℕ) → Reading
completed nodes table f = record { var = variable_number nodes f table.words; entry = entry_number nodes f table.reads }

-- ---- the numbers of reads and quantifiers

abbrev pub is_select : Option Node → Bool
is_select (Some (Select array width index)) = true
is_select _ = false

abbrev pub is_quantifier : Option Node → Bool
is_quantifier (Some (ForAll bound body)) = true
is_quantifier _ = false

-- the terms of one kind among the entries of one step, in the order of the term list
pub record AreNumbered (nodes : List Node) (kind : Option Node → Bool) (entries : Words) (terms : List ℕ) : Type 0 where
  pub rising : AllPairs (λ t u. t < u) terms
  pub are : (t : ℕ) → Contains terms t → (HasWord entries t) × (kind (slice_get nodes t) ≡ true)
  pub all : (t : ℕ) → HasWord entries t → kind (slice_get nodes t) ≡ true → Contains terms t

-- first those of the goal, then those that each added instance brought
pub data IsNumbering (nodes : List Node) (kind : Option Node → Bool) : List Words → List ℕ → Type 0 where
  none : IsNumbering nodes kind [] []
  step : {entries : Words} {steps : List Words} {first terms : List ℕ} → AreNumbered nodes kind entries first → IsNumbering nodes kind steps terms → IsNumbering nodes kind (entries ∷ steps) (first ++ terms)

-- ---- the variables that stand for tuples

-- the variable is what stands here
abbrev pub is_other : ℕ → Stand → Bool
is_other id (Number n) = false
is_other id (Other width other) = nat_eq id other

-- the variable stands for a number of a tuple of some quantifier
abbrev pub is_witness : List Opening → ℕ → Bool
is_witness openings id = list_any (λ o. list_any (is_other id) o.stands) openings
