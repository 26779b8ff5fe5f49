-- Variables for the keys of a field.
use Rattle.std.specs.Prelude.{◌≡◌, ℕ, ◌+◌, ◌<◌, ◌≤◌, List, [], ◌∷◌, length}
use Rattle.hk_term.specs.Shape.{width}
use Rattle.hk_term.specs.Meaning.{Reading, value}
use Rattle.hk_term.specs.declared.node.Node.{Node}
use Rattle.spec_tree.specs.Plain.{Key}
use Rattle.hk_symexpr.specs.declared.names.Limit.{Limit}

-- a term of the key's width with a variable's number, where that is below the key's size; its limit is not below any such number
pub record IsKeyVariable (nodes : List Node) (id : ℕ) (k : Key) (l : Limit) : Type 0 where
  pub within : l.term < length nodes
  pub width_is : width nodes l.term ≡ k.width
  pub value_is : (v : Reading) → v.var id < k.size → value nodes l.term v ≡ v.var id
  pub most_is : (n : ℕ) → n < k.size → n ≤ l.most

-- one for each key, their variables in order
abbrev pub AreKeyVariables : List Node → ℕ → List Key → List Limit → Type 0
AreKeyVariables nodes id [] index = index ≡ []
AreKeyVariables nodes id (k ∷ ks) [] = ⊥
AreKeyVariables nodes id (k ∷ ks) (l ∷ ls) = IsKeyVariable nodes id k l × AreKeyVariables nodes (id + 1) ks ls
