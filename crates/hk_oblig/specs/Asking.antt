-- What a handler is made ready for, and what a question of it asks.
use Rattle.std.specs.Prelude.{◌≡◌, ◌<◌, ◌↔◌, ℕ, Bool, true, false, Option, Some, None, List, length}
use Rattle.hk_term.specs.Meaning.{Reading}
use Rattle.hk_term.specs.declared.node.Node.{Node}
use Rattle.ir_ast.specs.Program.{ModuleView}
use Rattle.hk_symmem.specs.Origins.{Origin}
use Rattle.spec_tree.specs.Plain.{Transition, Spec}
use Rattle.hk_case.specs.declared.Obligation.{Obligation}
use Rattle.hk_case.specs.declared.Obligation.TheVariants.{Property}
use Rattle.hk_case.specs.Obligations.{IsObligation}
use Rattle.hk_case.specs.Violation.{Violates}
use Rattle.hk_oblig.specs.declared.parts.Parts.{Parts}
use Rattle.hk_oblig.specs.declared.parts.Parts.TheVariants.{Run, Step}
use Rattle.hk_oblig.specs.declared.listed.Listed.{Listed}
use Rattle.hk_oblig.specs.Cases.{case_at}
use Rattle.hk_oblig.specs.GoalTruths.{AreParts, HasGoal}
use Rattle.hk_oblig.specs.Telling.{Tells}

-- ---- questions

-- a test is true under a reading exactly where the case of the reading violates the obligation
abbrev pub Asks : ModuleView → List Origin → Spec → Transition → Obligation → (Reading → Bool) → Type 0
Asks m origins s t o test = (v : Reading) → (test v ≡ true) ↔ Violates m s t o (case_at origins s t o v)

-- ---- handlers

-- where the first bytes of objects come from, the parts of a run, and those of a transition from any abstract state
pub record PreparedView : Type 0 where
  pub origins : List Origin
  pub run : Listed
  pub step : Listed

abbrev pub is_property : Obligation → Bool
is_property (Property k) = true
is_property o = false

-- the parts of an obligation
abbrev pub listed_for : PreparedView → Obligation → Listed
listed_for p (Property k) = p.step
listed_for p o = p.run

-- the obligation speaks of a run, and not of a transition from any abstract state
abbrev pub IsOfRun : Obligation → Type 0
IsOfRun (Property k) = ⊥
IsOfRun o = Unit {0}

-- a term of the list, where there is one
abbrev pub IsTermOf : List Node → Option ℕ → Type 0
IsTermOf nodes None = Unit {0}
IsTermOf nodes (Some k) = k < length nodes

abbrev pub HaveResults : List Node → Parts → Type 0
HaveResults nodes (Run p) = IsTermOf nodes p.result × IsTermOf nodes p.wanted
HaveResults nodes (Step p) = Unit {0}

-- the list has the terms of the parts
pub record AreListed (l : Listed) : Type 0 where
  pub parts : AreParts l.terms l.parts
  pub results : HaveResults l.terms l.parts

-- the parts have a goal for an obligation that the handler owes, and tell under every reading what they mean for its case
pub record IsReady (m : ModuleView) (origins : List Origin) (s : Spec) (t : Transition) (l : Listed) (o : Obligation) : Type 0 where
  pub goal : IsObligation s t o → HasGoal l.terms l.parts o
  pub told : (v : Reading) → Tells m l.terms v l.parts s t (case_at origins s t o v)

-- the handler is made ready for all questions of it
pub record IsPrepared (m : ModuleView) (s : Spec) (t : Transition) (p : PreparedView) : Type 0 where
  pub run : AreListed p.run
  pub step : AreListed p.step
  pub ready : (o : Obligation) → IsReady m p.origins s t (listed_for p o) o
