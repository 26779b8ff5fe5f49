-- What settling a question comes to.
use Rattle.std.specs.Prelude.{◌≡◌, ℕ, ◌+◌, ◌≤◌, Bool, nat_eq, List, length, None}
use Rattle.hk_term.specs.Meaning.{Reading, value}
use Rattle.hk_term.specs.declared.valuation.Valuation.{Valuation}
use Rattle.hk_cnf.specs.Clauses.{Clauses, IsUnsatisfiable}
use Rattle.hk_lrat.specs.declared.log.LratRow.{LratRow}
use Rattle.hk_lrat.specs.Log.{log_fault}
use Rattle.hk_lrat.specs.Refutes.{Refutes}
use Rattle.hk_inst.specs.declared.instance.Instance.{Instance}
use Rattle.hk_inst.specs.Questions.{Asked}
use Rattle.hk_inst.specs.Exactness.{Exact}
use Rattle.hk_settle.specs.declared.answers.Settled.{Settled}
use Rattle.hk_settle.specs.declared.answers.Settled.TheVariants.{Refuted, True, Spent}
use Rattle.hk_settle.specs.declared.answers.Figures.{Figures}
use Rattle.hk_settle.specs.declared.answers.End.{End}
use Rattle.hk_settle.specs.declared.answers.End.TheVariants.{Refuted as EndRefuted, True as EndTrue, Spent as EndSpent}

-- the test of readings that a question is about: its goal is true
abbrev pub goal_test : Asked → Reading → Bool
goal_test q v = nat_eq (value q.nodes q.goal v) 1

-- the clauses of a question
abbrev pub clauses_of : Asked → Clauses
clauses_of q = record { vars = q.circuit.vars; clauses = q.circuit.clauses }

-- no reading makes the goal true
abbrev pub HasNone : Asked → Type 0
HasNone q = (v : Reading) → value q.nodes q.goal v ≡ 1 → ⊥

-- the log refutes some clause list that is exact for the goal and the instances, so that the checker finds no fault in it
pub record IsRefuted (q : Asked) (instances : List Instance) (log : List LratRow) : Type 0 where
  pub list : Clauses
  pub exact : Exact (goal_test q) instances list
  pub refutes : Refutes list log
  pub accepted : log_fault list log ≡ None

-- what holds of the instances with the log of a refutation, of the valuation, and of the parts of a spent budget
abbrev pub IfRefuted : (List Instance → List LratRow → Type 0) → Settled → Type 0
IfRefuted P (Refuted instances log) = P instances log
IfRefuted P (True valuation) = Unit {0}
IfRefuted P (Spent instances clauses log) = Unit {0}

abbrev pub IfTrue : (Valuation → Type 0) → Settled → Type 0
IfTrue P (Refuted instances log) = Unit {0}
IfTrue P (True valuation) = P valuation
IfTrue P (Spent instances clauses log) = Unit {0}

abbrev pub IfSpent : (List Instance → Clauses → List LratRow → Type 0) → Settled → Type 0
IfSpent P (Refuted instances log) = Unit {0}
IfSpent P (True valuation) = Unit {0}
IfSpent P (Spent instances clauses log) = P instances clauses log

-- the figures count what the answer hands out
abbrev pub Counts : Figures → Settled → Type 0
Counts f (Refuted instances log) = f.instances ≡ length instances
Counts f (True valuation) = Unit {0}
Counts f (Spent instances clauses log) = (f.instances ≡ length instances) × (f.clauses ≡ length clauses.clauses) × (f.vars ≡ clauses.vars)

-- from so many instances on each round but the last brought in at least one
pub record AreRounds (instances : ℕ) (f : Figures) : Type 0 where
  pub some : 1 ≤ f.rounds
  pub each : instances + f.rounds ≤ f.instances + 1

-- what holds of the log that refutes, of the valuation, and of the spent log of the last round
abbrev pub OnRefuted : (List LratRow → Type 0) → End → Type 0
OnRefuted P (EndRefuted log) = P log
OnRefuted P (EndTrue valuation) = Unit {0}
OnRefuted P (EndSpent log) = Unit {0}

abbrev pub OnTrue : (Valuation → Type 0) → End → Type 0
OnTrue P (EndRefuted log) = Unit {0}
OnTrue P (EndTrue valuation) = P valuation
OnTrue P (EndSpent log) = Unit {0}

abbrev pub OnSpent : (List LratRow → Type 0) → End → Type 0
OnSpent P (EndRefuted log) = Unit {0}
OnSpent P (EndTrue valuation) = Unit {0}
OnSpent P (EndSpent log) = P log

-- the log refutes the list
pub record Refuting (list : Clauses) (log : List LratRow) : Type 0 where
  pub refutes : Refutes list log
  pub accepted : log_fault list log ≡ None
  pub unsatisfiable : IsUnsatisfiable list

-- the figures are those of the question
abbrev pub figures_after : Asked → ℕ → Figures
figures_after q rounds = record { rounds = rounds; vars = q.circuit.vars; clauses = length q.circuit.clauses; instances = length q.instances }
