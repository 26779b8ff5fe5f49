-- What a table of words says of terms: the literals of each term's bits, least bit first, in the order in which they were made.
use Rattle.std.specs.Prelude.{◌≡◌, ◌⊎◌, ℕ, zero, suc, ◌+◌, ◌*◌, ◌<◌, ◌≤◌, Bool, true, false, if◌then◌else◌, nat_eq, List, [], ◌∷◌, ◌++◌, length, map, take, ℤ, None, Some, option_map, unwrap_or, slice_get, IsSome}
use Rattle.std.specs.List.{All, flat_map}
use Rattle.std.specs.Map.{lookup}
use Rattle.hk_term.specs.Operations.{unary_value, binary_value, resize_value}
use Rattle.hk_term.specs.Shape.{IsWidth, width}
use Rattle.hk_term.specs.declared.node.Node.{Node}
use Rattle.hk_term.specs.declared.node.Node.TheVariants.{Const, Var, Select, Unary, Binary, Choose, Resize, ForAll}
use Rattle.hk_cnf.specs.Literal.{IsWithin, place_of, value_at}
use Rattle.hk_cnf.specs.Circuit.{Circuit, gate_value, variable}
use Rattle.hk_cnf.specs.CircuitGrowth.{inputs_of, values_of, Extends}
use Rattle.hk_circuit.specs.Words.{bit, gate_number}

-- terms with their words
abbrev pub Words : Type 0
Words = List (ℕ × List ℤ)

-- the word of a term
abbrev pub word_in : Words → ℕ → List ℤ
word_in table t = unwrap_or (lookup (nat_eq t) table) []

abbrev pub HasWord : Words → ℕ → Type 0
HasWord table t = IsSome (lookup (nat_eq t) table)

abbrev pub IsMissing : Words → ℕ → Type 0
IsMissing table t = lookup (nat_eq t) table ≡ None

-- a term of whose bits a node's bits are made: not an array's index, and not a quantifier's body
abbrev pub IsPart : Node → ℕ → Type 0
IsPart (Unary kind a) k = k ≡ a
IsPart (Binary kind a b) k = (k ≡ a) ⊎ (k ≡ b)
IsPart (Choose condition a b) k = (k ≡ condition) ⊎ ((k ≡ a) ⊎ (k ≡ b))
IsPart (Resize kind to a) k = k ≡ a
IsPart _ k = ⊥

-- a term of whose bits those of the term t are made, in any number of steps, and t itself
pub data Needs (nodes : List Node) (t : ℕ) : ℕ → Type 0 where
  own : Needs nodes t t
  part : (u k : ℕ) (node : Node) → Needs nodes t u → slice_get nodes u ≡ Some node → IsPart node k → Needs nodes t k

abbrev pub HasParts : Words → Node → Type 0
HasParts table node = (k : ℕ) → IsPart node k → HasWord table k

-- n is what the node's operation gives on the numbers f of its parts, at the widths w; an input may have any number
abbrev pub HasValue : (ℕ → ℕ) → (ℕ → ℕ) → Node → ℕ → Type 0
HasValue w f (Const width number) n = n ≡ number
HasValue w f (Var width id) n = Unit {0}
HasValue w f (Select array width index) n = Unit {0}
HasValue w f (Unary kind a) n = n ≡ unary_value kind (w a) (f a)
HasValue w f (Binary kind a b) n = n ≡ binary_value kind (w a) (w b) (f a) (f b)
HasValue w f (Choose condition a b) n = n ≡ (if nat_eq (f condition) 1 then f a else f b)
HasValue w f (Resize kind to a) n = n ≡ resize_value kind (w a) to (f a)
HasValue w f (ForAll bound body) n = Unit {0}

-- a variable, an entry of an array, a quantifier: its bits are chosen freely
abbrev pub is_input : Node → Bool
is_input (Var width id) = true
is_input (Select array width index) = true
is_input (ForAll bound body) = true
is_input _ = false

abbrev pub is_input_at : List Node → ℕ → Bool
is_input_at nodes t = unwrap_or (option_map is_input (slice_get nodes t)) false

-- the places of the variables that are the bits of inputs
abbrev pub places_of : List Node → ℕ × List ℤ → List ℕ
places_of nodes e = if is_input_at nodes e.0 then map place_of e.1 else []

abbrev pub input_places : List Node → Words → List ℕ
input_places nodes table = flat_map (places_of nodes) table

-- the second table is the first with entries at its end; the bits of the inputs among these are variables from a place on
pub record Lengthens (nodes : List Node) (first : ℕ) (old new : Words) : Type 0 where
  pub more : Words
  pub is : new ≡ old ++ more
  pub fresh : All (λ p. first ≤ p) (input_places nodes more)

-- so many variables, from a place on
abbrev pub variables_from : ℕ → ℕ → List ℤ
variables_from start zero = []
variables_from start (suc n) = variable start ∷ variables_from (suc start) n

-- the word is of variables that no gate fixes and no earlier input has: each has the value that is chosen for it
pub record IsFree (nodes : List Node) (c : Circuit) (before : Words) (word : List ℤ) : Type 0 where
  pub start : ℕ
  pub is : word ≡ variables_from start (length word)
  pub later : All (λ p. p < start) (input_places nodes before)
  pub free : (p : ℕ) → start ≤ p → p < start + length word → (v : ℕ → Bool) → gate_value c (variable p) v ≡ v p

-- the word of a term, behind these entries: it has the term's width, and its number is what the term's operation gives on the
-- numbers of its parts' words, for every choice of values for the variables that no gate fixes
pub record IsBlasted (nodes : List Node) (c : Circuit) (before : Words) (t : ℕ) (word : List ℤ) : Type 0 where
  pub node : Node
  pub at : slice_get nodes t ≡ Some node
  pub first : IsMissing before t
  pub size : length word ≡ width nodes t
  pub is_width : IsWidth (length word)
  pub within : All (IsWithin c.vars) word
  pub parts : HasParts before node
  pub value : (v : ℕ → Bool) → HasValue (width nodes) (λ k. gate_number c (word_in before k) v) node (gate_number c word v)
  pub free : is_input node ≡ true → IsFree nodes c before word

-- each entry is the word of its term, over the entries before it
abbrev pub AreBlasted : List Node → Circuit → Words → Type 0
AreBlasted nodes c table = (i : ℕ) (e : ℕ × List ℤ) → slice_get table i ≡ Some e → IsBlasted nodes c (take i table) e.0 e.1

-- as many variables that no gate fixes are added as the inputs among the new entries have bits
abbrev pub AddsInputs : List Node → Circuit → Circuit → Words → Words → Type 0
AddsInputs nodes c d old new = (inputs_of d).free + length (input_places nodes old) ≡ (inputs_of c).free + length (input_places nodes new)

-- more values behind an assignment satisfy the circuit's clauses, and give the new inputs the chosen bits
pub record ExtendsBy (nodes : List Node) (c : Circuit) (table : Words) (a : List Bool) (chosen : ℕ → Bool) : Type 0 where
  pub more : List Bool
  pub extends : Extends c a more
  pub gives : All (λ p. length a ≤ p → values_of (a ++ more) p ≡ chosen p) (input_places nodes table)

-- the number of a word under an assignment
abbrev pub word_number : List Bool → List ℤ → ℕ
word_number a [] = 0
word_number a (l ∷ ls) = bit (value_at a l) + 2 * word_number a ls

-- the assignment gives each term's word the number that the term's operation gives on the numbers of its parts' words
abbrev pub HaveValues : List Node → List Bool → Words → Type 0
HaveValues nodes a table = (t : ℕ) (node : Node) → slice_get nodes t ≡ Some node → HasWord table t →
    HasValue (width nodes) (λ k. word_number a (word_in table k)) node (word_number a (word_in table t))
