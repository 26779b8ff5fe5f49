-- What a question keeps: a term list with a goal, the circuit of what is required, the table, and the added instances with the terms that
-- are required of them.
use Rattle.std.specs.Prelude.{◌≡◌, ℕ, ◌+◌, ◌<◌, ◌≤◌, Bool, false, ◌&&◌, List, [], ◌∷◌, length, reverse, slice_get, Some}
use Rattle.std.specs.List.{All, Contains, list_all}
use Rattle.hk_term.specs.Shape.{AllFitIn, IsDistinct, width}
use Rattle.hk_term.specs.declared.bounds.Bound.{Bound}
use Rattle.hk_term.specs.declared.node.Node.{Node}
use Rattle.hk_term.specs.declared.node.Node.TheVariants.{Var, Select}
use Rattle.hk_copy.specs.declared.stand.Stand.{Stand}
use Rattle.hk_copy.specs.declared.stand.Stand.TheVariants.{Number, Other}
use Rattle.hk_cnf.specs.Clauses.{clause_value, clauses_value}
use Rattle.hk_cnf.specs.Circuit.{Circuit}
use Rattle.hk_cnf.specs.CircuitParts.{IsCircuit}
use Rattle.hk_cnf.specs.Determined.{is_output}
use Rattle.hk_cnf.specs.Required.{required_of}
use Rattle.hk_blast.specs.Blasted.{Words, HasWord, word_in, input_places, AreBlasted}
use Rattle.hk_inst.specs.declared.instance.Instance.{Instance}
use Rattle.hk_inst.specs.declared.opening.Opening.{Opening}
use Rattle.hk_inst.specs.Inputs.{Table}
use Rattle.hk_inst.specs.Demanded.{IsDemand}
use Rattle.hk_inst.specs.Exactness.{IsTable}

pub record Asked : Type 0 where
  pub nodes : List Node
  pub goal : ℕ
  pub circuit : Circuit
  pub table : Table
  pub instances : List Instance
  pub demands : List ℕ

-- each instance has its required term
abbrev pub AreDemands : List Node → Table → List Instance → List ℕ → Type 0
AreDemands nodes table [] [] = Unit {0}
AreDemands nodes table [] (d ∷ ds) = ⊥
AreDemands nodes table (i ∷ is) [] = ⊥
AreDemands nodes table (i ∷ is) (d ∷ ds) = (IsDemand nodes table i d) × (AreDemands nodes table is ds)

-- an assignment makes a term's literal true
abbrev pub says : Words → List Bool → ℕ → Bool
says words a t = clause_value a (word_in words t)

-- what is required: the goal, and the required terms of quantifiers and of instances
abbrev pub all_said : Asked → List Bool → Bool
all_said q a = says q.table.words a q.goal && (list_all (λ o. says q.table.words a o.demand) q.table.openings && list_all (says q.table.words a) q.demands)

-- variables of 64 bits with rising ids, from one up to a limit
abbrev pub AreVariables : ℕ → ℕ → List Stand → Type 0
AreVariables first limit [] = first ≤ limit
AreVariables first limit (Number n ∷ ss) = ⊥
AreVariables first limit (Other width id ∷ ss) = (id ≡ first) × (width ≡ 64) × (AreVariables (first + 1) limit ss)

-- such variables for bound ones, from an id on
abbrev pub wide_from : List Bound → ℕ → List Stand
wide_from [] first = []
wide_from (b ∷ bs) first = Other 64 first ∷ wide_from bs (first + 1)

-- the ids of bound variables with what they stand for, the outermost first
abbrev pub pairs_from : List Bound → ℕ → List (ℕ × Stand)
pairs_from [] first = []
pairs_from (b ∷ bs) first = (b.id, Other 64 first) ∷ pairs_from bs (first + 1)

-- the variables of a quantifier's tuple are new: when they were chosen, so many nodes stood in the list, with the goal, the quantifier and
-- all earlier ones among them, and no variable among these nodes has such an id
pub record IsChosen (nodes : List Node) (goal limit : ℕ) (earlier : List Opening) (o : Opening) : Type 0 where
  pub made : ℕ
  pub first : ℕ
  pub made_there : made ≤ length nodes
  pub goal_made : goal < made
  pub term_made : o.term < made
  pub earlier_made : All (λ p. p.term < made) earlier
  pub below : (k size id : ℕ) → k < made → slice_get nodes k ≡ Some (Var size id) → id < first
  pub stands : AreVariables first limit o.stands

-- the quantifiers were opened one after another; the newest first
abbrev pub AreChosen : List Node → ℕ → ℕ → List Opening → Type 0
AreChosen nodes goal limit [] = Unit {0}
AreChosen nodes goal limit (o ∷ earlier) = (c : IsChosen nodes goal limit earlier o) × (AreChosen nodes goal c.first earlier)

pub record IsQuestion (q : Asked) : Type 0 where
  pub fit : AllFitIn (reverse q.nodes)
  pub distinct : IsDistinct q.nodes
  pub truth : width q.nodes q.goal ≡ 1
  pub circuit : IsCircuit q.circuit
  pub blasted : AreBlasted q.nodes q.circuit q.table.words
  pub table : IsTable q.nodes q.goal q.instances q.table
  pub places : (t array size i : ℕ) → slice_get q.nodes t ≡ Some (Select array size i) → HasWord q.table.words t → HasWord q.table.words i
  pub openings_known : All (λ o. HasWord q.table.words o.demand) q.table.openings
  pub demands_known : All (HasWord q.table.words) q.demands
  pub demands : AreDemands q.nodes q.table q.instances q.demands
  pub required : (a : List Bool) → clauses_value a (required_of q.circuit) ≡ all_said q a
  pub count : length (required_of q.circuit) ≡ 1 + length q.instances + length q.table.openings
  pub one_width : (t s size other id : ℕ) → HasWord q.table.words t → HasWord q.table.words s → slice_get q.nodes t ≡ Some (Var size id) → slice_get q.nodes s ≡ Some (Var other id) → size ≡ other
  pub one_size : (t s array size other i j : ℕ) → HasWord q.table.words t → HasWord q.table.words s → slice_get q.nodes t ≡ Some (Select array size i) → slice_get q.nodes s ≡ Some (Select array other j) → size ≡ other
  pub limit : ℕ
  pub chosen : AreChosen q.nodes q.goal limit (reverse q.table.openings)
  pub only : (p : ℕ) → p < q.circuit.vars → is_output q.circuit.gates p ≡ false → Contains (input_places q.nodes q.table.words) p
