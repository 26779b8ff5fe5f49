-- When a clause list is exact for a goal and instances. The goal is given by a test of readings, which are the cases.
--
-- A list is exact where there are a term list with a goal, which has the value 1 under a reading exactly where the test accepts it, and a
-- table from inputs to literals of the list with three properties. Each is a sentence of its own below.
use Rattle.std.specs.Prelude.{◌≡◌, ◌≢◌, ℕ, ◌+◌, ◌<◌, ◌≤◌, Bool, false, true, nat_eq, List, length, map, ℤ, slice_get, Some}
use Rattle.std.specs.List.{All, AllPairs, Contains, flat_map}
use Rattle.hk_term.specs.Meaning.{Reading, value}
use Rattle.hk_term.specs.declared.bounds.Bound.{Bound}
use Rattle.hk_term.specs.declared.node.Node.{Node}
use Rattle.hk_term.specs.declared.node.Node.TheVariants.{ForAll}
use Rattle.hk_copy.specs.Stands.{stand_value, with_tuple}
use Rattle.hk_cnf.specs.Clauses.{Clauses, clauses_value}
use Rattle.hk_cnf.specs.Circuit.{Circuit, all_gate_clauses}
use Rattle.hk_cnf.specs.Determined.{is_output, IsDetermined, Mixes}
use Rattle.hk_blast.specs.Blasted.{Words, HasWord, input_places}
use Rattle.hk_inst.specs.declared.instance.Instance.{Instance}
use Rattle.hk_inst.specs.declared.opening.Opening.{Opening}
use Rattle.hk_inst.specs.Inputs.{Table, number_in, completed, is_select, is_quantifier, IsNumbering, is_witness}
use Rattle.hk_inst.specs.Truths.{IsTuple, IsTrue, is_among}
use Rattle.hk_inst.specs.Demanded.{IsOpening, IsMentioned}

-- ---- the table

-- the table is that of this goal and these instances: every term in it is of them, reads and quantifiers have their numbers step by step,
-- and each quantifier has variables for the tuple that makes it false, once
pub record IsTable (nodes : List Node) (goal : ℕ) (instances : List Instance) (table : Table) : Type 0 where
  pub of_goal : HasWord table.words goal
  pub mentions : (t : ℕ) → HasWord table.words t → IsMentioned nodes goal instances table t
  pub steps : List Words
  pub steps_are : table.words ≡ flat_map (λ s. s) steps
  pub each_step : length steps ≡ 1 + length instances
  pub reads : IsNumbering nodes is_select steps table.reads
  pub quantifiers : IsNumbering nodes is_quantifier steps table.quantifiers
  pub opened : (t : ℕ) → Contains table.quantifiers t → (o : Opening) × (Contains table.openings o) × (o.term ≡ t)
  pub openings_are : (o : Opening) → Contains table.openings o → (Contains table.quantifiers o.term) × (IsOpening nodes o)
  pub once : AllPairs (λ o p. o.term ≢ p.term) table.openings

-- ---- instances

-- every instance is true of the inputs that a case gives
abbrev pub AreSound : List Node → Table → Type 0
AreSound nodes table = (v : Reading) (i : Instance) → IsTrue nodes table (λ t. value nodes t v) v i

-- ---- first part: each case extends to an assignment

-- the tuple of a quantifier that is false in a case makes its body false there
abbrev pub IsRefuted : List Node → Reading → Opening → Type 0
IsRefuted nodes v o = (bound : List Bound) (body : ℕ) → slice_get nodes o.term ≡ Some (ForAll bound body) → value nodes o.term v ≡ 0 →
    (IsTuple bound (map (stand_value v) o.stands)) × (value nodes body (with_tuple bound (map (stand_value v) o.stands) v) ≡ 0)

-- an assignment agrees with a case on the table: each term has its number in the case, with numbers for the variables that stand for
-- tuples, which make the body of each false quantifier false
pub record Agrees (nodes : List Node) (table : Table) (v : Reading) (a : List Bool) : Type 0 where
  pub case : Reading
  pub entry : case.entry ≡ v.entry
  pub var : (id : ℕ) → is_witness table.openings id ≡ false → case.var id ≡ v.var id
  pub numbers : (t : ℕ) → HasWord table.words t → number_in table.words a t ≡ value nodes t case
  pub tuples : (o : Opening) → Contains table.openings o → IsRefuted nodes case o

-- each case that the test accepts extends to an assignment that satisfies the clauses and agrees with the case on the table
abbrev pub EachCaseExtends : (Reading → Bool) → List Node → Table → Clauses → Type 0
EachCaseExtends test nodes table list = (v : Reading) → test v ≡ true →
    (a : List Bool) × (length a ≡ list.vars) × (clauses_value a list.clauses ≡ true) × (Agrees nodes table v a)

-- ---- second part: assignments are cases

-- an assignment satisfies the clauses, and every instance that is not among these is true under it; then the test accepts the case that is
-- read through the table
abbrev pub EachAssignmentCompletes : (Reading → Bool) → List Node → List Instance → Table → Clauses → Type 0
EachAssignmentCompletes test nodes instances table list = (a : List Bool) → length a ≡ list.vars → clauses_value a list.clauses ≡ true →
    ((i : Instance) → is_among instances i ≡ false → IsTrue nodes table (number_in table.words a) (completed nodes table (number_in table.words a)) i) →
    test (completed nodes table (number_in table.words a)) ≡ true

-- ---- third part: inputs determine each variable

-- the clauses are those of a circuit and few others: at most one for the goal, one for each instance and one for each quantifier. Each
-- choice of values for the variables that no gate fixes extends to exactly one assignment that satisfies the circuit's clauses, and these
-- variables are the bits that the table gives to inputs other than places.
pub record IsDeterminedBy (nodes : List Node) (instances : List Instance) (table : Table) (list : Clauses) : Type 0 where
  pub circuit : Circuit
  pub vars : circuit.vars ≡ list.vars
  pub required : List (List ℤ)
  pub mixes : Mixes (all_gate_clauses circuit.gates) required list.clauses
  pub few : length required ≤ 1 + length instances + length table.openings
  pub determined : IsDetermined circuit
  pub free : All (λ p. is_output circuit.gates p ≡ false) (input_places nodes table.words)
  pub only : (p : ℕ) → p < list.vars → is_output circuit.gates p ≡ false → Contains (input_places nodes table.words) p

-- ---- all of it

pub record Exact (test : Reading → Bool) (instances : List Instance) (list : Clauses) : Type 0 where
  pub nodes : List Node
  pub goal : ℕ
  pub means : (v : Reading) → nat_eq (value nodes goal v) 1 ≡ test v
  pub table : Table
  pub is_table : IsTable nodes goal instances table
  pub sound : AreSound nodes table
  pub from_case : EachCaseExtends test nodes table list
  pub to_case : EachAssignmentCompletes test nodes instances table list
  pub determined : IsDeterminedBy nodes instances table list
