-- What a question keeps while terms come into its table. The entries of the table are gone through one after another: the place of a read
-- comes in, and a quantifier is opened. So many entries are done.
use Rattle.std.specs.Prelude.{◌≡◌, ◌≢◌, ℕ, ◌+◌, ◌<◌, ◌≤◌, ◌⊎◌, ◌++◌, Bool, true, false, nat_lt, List, [], ◌∷◌, length, reverse, take, ℤ, slice_get, Some}
use Rattle.std.specs.List.{All, AllPairs, Contains, list_all, flat_map}
use Rattle.hk_term.specs.Shape.{AllFitIn, IsDistinct, width}
use Rattle.hk_term.specs.declared.bounds.Bound.{Bound}
use Rattle.hk_term.specs.declared.node.Node.{Node}
use Rattle.hk_term.specs.declared.node.Node.TheVariants.{Select, ForAll}
use Rattle.hk_copy.specs.Reach.{Reads, Frees, Tests, AllPass}
use Rattle.hk_cnf.specs.Clauses.{clauses_value}
use Rattle.hk_cnf.specs.Circuit.{Circuit, gate_value}
use Rattle.hk_cnf.specs.CircuitParts.{IsCircuit}
use Rattle.hk_cnf.specs.Determined.{is_output}
use Rattle.hk_cnf.specs.Required.{required_of}
use Rattle.hk_cnf.specs.Front.{IsFront}
use Rattle.hk_blast.specs.Blasted.{Words, HasWord, Needs, Lengthens, input_places, AreBlasted}
use Rattle.hk_inst.specs.declared.instance.Instance.{Instance}
use Rattle.hk_inst.specs.declared.opening.Opening.{Opening}
use Rattle.hk_inst.specs.Inputs.{Table, is_select, is_quantifier, IsNumbering}
use Rattle.hk_inst.specs.Demanded.{IsOpening, IsMentioned}
use Rattle.hk_inst.specs.Questions.{Asked, AreDemands, all_said, AreChosen}
use Rattle.hk_inst.specs.Origins.{Arises}

-- what is asked of a goal: it is a truth value, each of its free variables has one width, and each array is read at one width
pub record IsGoal (nodes : List Node) (goal : ℕ) : Type 0 where
  pub truth : width nodes goal ≡ 1
  pub one_width : (id size other : ℕ) → Frees nodes size id goal → Frees nodes other id goal → size ≡ other
  pub one_size : (array size other : ℕ) → Reads nodes array size goal → Reads nodes array other goal → size ≡ other

-- a term of the question: it is mentioned, it reads what the goal reads, and its free variables are the goal's or stand for tuples
pub record IsOurs (nodes : List Node) (goal : ℕ) (instances : List Instance) (table : Table) (first t : ℕ) : Type 0 where
  pub mentioned : IsMentioned nodes goal instances table t
  pub reads : (array size : ℕ) → Reads nodes array size t → Reads nodes array size goal
  pub frees : (size id : ℕ) → Frees nodes size id t → (Frees nodes size id goal) ⊎ ((first ≤ id) × (size ≡ 64))

-- all ids in a list, free and bound, are below one
abbrev pub ids_below : ℕ → Tests
ids_below next = record { variable = λ size id. nat_lt id next; read = λ array size. true; quantifier = λ bound. list_all (λ b. nat_lt b.id next) bound }

-- the terms, the circuit and the table
pub record IsBase (q : Asked) (first next done : ℕ) : Type 0 where
  pub fit : AllFitIn (reverse q.nodes)
  pub distinct : IsDistinct q.nodes
  pub goal_is : IsGoal q.nodes q.goal
  pub goal_first : (size id : ℕ) → Frees q.nodes size id q.goal → id < first
  pub first_next : first ≤ next
  pub ids : AllPass (ids_below next) q.nodes
  pub circuit : IsCircuit q.circuit
  pub blasted : AreBlasted q.nodes q.circuit q.table.words
  pub of_goal : HasWord q.table.words q.goal
  pub ours : (t : ℕ) → HasWord q.table.words t → IsOurs q.nodes q.goal q.instances q.table first t
  pub arises : (t : ℕ) → HasWord q.table.words t → Arises q.nodes q.goal q.table.openings q.demands t
  pub done_there : done ≤ length q.table.words
  pub places : (t array size i : ℕ) → HasWord (take done q.table.words) t → slice_get q.nodes t ≡ Some (Select array size i) → HasWord q.table.words i
  pub only : (p : ℕ) → p < q.circuit.vars → is_output q.circuit.gates p ≡ false → Contains (input_places q.nodes q.table.words) p

-- the quantifiers that were opened
pub record AreOpened (q : Asked) (limit done : ℕ) : Type 0 where
  pub opened : (t body : ℕ) (bound : List Bound) → HasWord (take done q.table.words) t → slice_get q.nodes t ≡ Some (ForAll bound body) → (o : Opening) × (Contains q.table.openings o) × (o.term ≡ t)
  pub openings_are : (o : Opening) → Contains q.table.openings o → (HasWord (take done q.table.words) o.term) × (IsOpening q.nodes o)
  pub once : AllPairs (λ o p. o.term ≢ p.term) q.table.openings
  pub chosen : AreChosen q.nodes q.goal limit (reverse q.table.openings)

-- what is required
pub record AreRequired (q : Asked) : Type 0 where
  pub openings_known : All (λ o. HasWord q.table.words o.demand) q.table.openings
  pub demands_known : All (HasWord q.table.words) q.demands
  pub demands : AreDemands q.nodes q.table q.instances q.demands
  pub required : (a : List Bool) → clauses_value a (required_of q.circuit) ≡ all_said q a
  pub count : length (required_of q.circuit) ≡ 1 + length q.instances + length q.table.openings

pub record IsGrowing (q : Asked) (first next done : ℕ) : Type 0 where
  pub base : IsBase q first next done
  pub opened : AreOpened q next done
  pub required : AreRequired q

-- a circuit and a table, once a term was blasted
pub record IsMade (nodes : List Node) (c d : Circuit) (old new : Words) (t : ℕ) : Type 0 where
  pub circuit : IsCircuit d
  pub front : IsFront c d
  pub beside : required_of d ≡ required_of c
  pub table : AreBlasted nodes d new
  pub lengthens : Lengthens nodes c.vars old new
  pub only : (k : ℕ) → HasWord new k → (HasWord old k) ⊎ (Needs nodes t k)
  pub there : HasWord new t
  pub inputs : (p : ℕ) → c.vars ≤ p → p < d.vars → is_output d.gates p ≡ false → Contains (input_places nodes new) p

-- the circuit with one more clause
pub record IsRequiring (c d : Circuit) (clause : List ℤ) : Type 0 where
  pub circuit : IsCircuit d
  pub vars : d.vars ≡ c.vars
  pub gates : d.gates ≡ c.gates
  pub keeps : (l : ℤ) (v : ℕ → Bool) → gate_value d l v ≡ gate_value c l v
  pub beside : required_of d ≡ required_of c ++ clause ∷ []

-- the numbers of reads and quantifiers, step by step
pub record AreStepped (q : Asked) : Type 0 where
  pub steps : List Words
  pub steps_are : q.table.words ≡ flat_map (λ s. s) steps
  pub each_step : length steps ≡ 1 + length q.instances
  pub reads : IsNumbering q.nodes is_select steps q.table.reads
  pub quantifiers : IsNumbering q.nodes is_quantifier steps q.table.quantifiers
