-- What a call that adds an instance tells: what the instance speaks of, when it is refused, and that nothing of what stood before is lost.
use Rattle.std.specs.Prelude.{◌≡◌, ℕ, ◌++◌, List, length}
use Rattle.hk_term.specs.Shape.{Grows}
use Rattle.hk_term.specs.declared.node.Node.{Node}
use Rattle.hk_cnf.specs.CircuitParts.{IsCircuit}
use Rattle.hk_cnf.specs.Front.{IsFront}
use Rattle.hk_inst.specs.declared.undo.Sizes.{Sizes}
use Rattle.hk_inst.specs.declared.instance.Instance.{Instance}
use Rattle.hk_inst.specs.declared.instance.Instance.TheVariants.{Pair, Tuple}
use Rattle.hk_inst.specs.declared.subject.AddFault.{AddFault}
use Rattle.hk_inst.specs.declared.subject.AddFault.TheVariants.{NoSuch, Memory}
use Rattle.hk_inst.specs.declared.subject.Subject.{Subject}
use Rattle.hk_inst.specs.declared.subject.Subject.TheVariants.{Reads, Quantifier}
use Rattle.hk_inst.specs.Inputs.{Table}
use Rattle.hk_inst.specs.Truths.{PairOf, TupleOf, IsInstance}
use Rattle.hk_inst.specs.Questions.{Asked}

-- why an instance is refused: its numbers name no reads of one array, or no quantifier with a tuple of its variables; where they do, it is
-- want of memory alone
abbrev pub IsFault : List Node → Table → Instance → AddFault → Type 0
IsFault nodes table i NoSuch = IsInstance nodes table i → ⊥
IsFault nodes table i Memory = IsInstance nodes table i

-- what an instance speaks of: two reads with their places, or a quantifier with its bound variables and its body
abbrev pub IsSubject : List Node → Table → Instance → Subject → Type 0
IsSubject nodes table (Pair a b) (Reads r s i j) = (p : PairOf nodes table a b) × (p.first ≡ r) × (p.second ≡ s) × (p.place ≡ i) × (p.other_place ≡ j)
IsSubject nodes table (Pair a b) (Quantifier t bound body) = ⊥
IsSubject nodes table (Tuple k ks) (Reads r s i j) = ⊥
IsSubject nodes table (Tuple k ks) (Quantifier t bound body) = (q : TupleOf nodes table k ks) × (q.term ≡ t) × (q.bound ≡ bound) × (q.body ≡ body)

-- a list with more at its end
abbrev pub IsLonger : {X : Type 0} → List X → List X → Type 0
IsLonger {X} old new = (more : List X) × (new ≡ old ++ more)

-- what stood before stands at the front: terms, clauses, gates, words, reads, quantifiers and instances were added at the end alone
pub record Lengthened (old new : Asked) : Type 0 where
  pub nodes : Grows old.nodes new.nodes
  pub goal : new.goal ≡ old.goal
  pub circuit : IsFront old.circuit new.circuit
  pub words : IsLonger old.table.words new.table.words
  pub reads : IsLonger old.table.reads new.table.reads
  pub quantifiers : IsLonger old.table.quantifiers new.table.quantifiers
  pub openings : IsLonger old.table.openings new.table.openings
  pub instances : IsLonger old.instances new.instances
  pub demands : IsLonger old.demands new.demands

-- so much of each kind was there
pub record AreSizes (q : Asked) (next : ℕ) (z : Sizes) : Type 0 where
  pub terms : z.terms ≡ length q.nodes
  pub vars : z.gates.vars ≡ q.circuit.vars
  pub clauses : z.gates.clauses ≡ length q.circuit.clauses
  pub gates : z.gates.gates ≡ length q.circuit.gates
  pub bits : z.bits ≡ length q.table.words
  pub reads : z.reads ≡ length q.table.reads
  pub quantifiers : z.quantifiers ≡ length q.table.quantifiers
  pub openings : z.openings ≡ length q.table.openings
  pub instances : z.instances ≡ length q.instances
  pub demands : z.demands ≡ length q.demands
  pub next_is : z.next ≡ next

-- so much of each kind was there of what now stands at the front
pub record WasSized (now : Asked) (z : Sizes) : Type 0 where
  pub before : Asked
  pub next : ℕ
  pub circuit : IsCircuit before.circuit
  pub front : Lengthened before now
  pub sizes : AreSizes before next z
