-- How a list of heads is kept: each with what is asked of its type, and an index from heads to numbers.
use Rattle.std.specs.Prelude.{◌≡◌, ℕ, true, false, ◌||◌, Some, List, [], ◌∷◌, map, slice_get, slice_index_or}
use Rattle.std.specs.declared.cmp.Ordering.{Ordering}
use Rattle.std.specs.BTreeMap.{BTreeMap, get}
use Rattle.ir_ast.specs.Plain.{Ty, integer}
use Rattle.ir_type.specs.Whole.{is_odd, has_odd, has_pointer}
use Rattle.ir_whole.specs.declared.head.Head.{Head}
use Rattle.ir_whole.specs.declared.head.Head.TheVariants.{Opaque, Void, Int, Ptr, Array, Struct, Packed}
use Rattle.ir_whole.specs.declared.node.Facts.{Facts}
use Rattle.ir_whole.specs.declared.node.Node.{Node}
use Rattle.ir_whole.specs.contracts.head.HeadOrd.TheImpl as head_ord
use Rattle.ir_whole.specs.Heads.{types_by, AreHeads}

abbrev pub head_cmp : Head → Head → Ordering
head_cmp = (head_ord.ghosts).cmp

abbrev pub no_facts : Facts
no_facts = record { odd = false; pointer = false }

abbrev pub either : Facts → Facts → Facts
either a b = record { odd = a.odd || b.odd; pointer = a.pointer || b.pointer }

-- what is asked of a type
abbrev pub type_facts : Ty → Facts
type_facts t = record { odd = has_odd t; pointer = has_pointer t }

abbrev pub fact_at : List Facts → ℕ → Facts
fact_at facts n = slice_index_or facts n no_facts

abbrev pub row_facts : List Facts → Facts → List ℕ → Facts
row_facts facts all [] = all
row_facts facts all (p ∷ row) = row_facts facts (either all (fact_at facts p)) row

-- the same of a head, by its parts
abbrev pub head_facts : List Facts → Head → Facts
head_facts facts Opaque = no_facts
head_facts facts Void = no_facts
head_facts facts (Int w) = record { odd = is_odd (integer w); pointer = false }
head_facts facts Ptr = record { odd = false; pointer = true }
head_facts facts (Array n element) = fact_at facts element
head_facts facts (Struct row) = row_facts facts no_facts row
head_facts facts (Packed row) = row_facts facts no_facts row

abbrev pub heads_of : List Node → List Head
heads_of nodes = map (λ n. n.head) nodes

abbrev pub facts_of : List Node → List Facts
facts_of nodes = map (λ n. n.facts) nodes

pub record IsKept (nodes : List Node) (index : BTreeMap Head ℕ) : Type 0 where
  pub heads : AreHeads (heads_of nodes)
  pub indexed : (k : ℕ) (h : Head) → slice_get (heads_of nodes) k ≡ Some h → get head_cmp index h ≡ Some k
  pub found : (k : ℕ) (h : Head) → get head_cmp index h ≡ Some k → slice_get (heads_of nodes) k ≡ Some h
  pub facts : facts_of nodes ≡ map type_facts (types_by (heads_of nodes))
