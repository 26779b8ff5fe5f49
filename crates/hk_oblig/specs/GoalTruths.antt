-- Goals over the truths of their parts.
use Rattle.std.specs.Prelude.{◌≡◌, ◌<◌, ℕ, All, Bool, false, not, ◌&&◌, Option, Some, None, option_map, List, length, slice_index}
use Rattle.hk_term.specs.Shape.{width}
use Rattle.hk_term.specs.Meaning.{Reading, value}
use Rattle.hk_term.specs.declared.node.Node.{Node}
use Rattle.hk_symvalue.specs.Meaning.{IsTruth, is_true}
use Rattle.spec_tree.specs.Meaning.{meets_result}
use Rattle.hk_case.specs.declared.Obligation.{Obligation}
use Rattle.hk_case.specs.declared.Obligation.TheVariants.{Undefined, Invariant, State, ResultValue, Property}
use Rattle.hk_oblig.specs.declared.parts.RunParts.{RunParts}
use Rattle.hk_oblig.specs.declared.parts.StepParts.{StepParts}
use Rattle.hk_oblig.specs.declared.parts.Parts.{Parts}
use Rattle.hk_oblig.specs.declared.parts.Parts.TheVariants.{Run, Step}

-- ---- when parts have a goal for an obligation

-- the number of the result's term: 0 where the run has none
abbrev pub number_of : List Node → Option ℕ → Reading → ℕ
number_of nodes (Some r) v = value nodes r v
number_of nodes None v = 0

-- a specified result has the width of the returned one
abbrev pub IsWanted : List Node → ℕ → Option ℕ → Type 0
IsWanted nodes r None = Unit {0}
IsWanted nodes r (Some w) = (w < length nodes) × (width nodes r ≡ width nodes w)

abbrev pub HasResult : List Node → Option ℕ → Option ℕ → Type 0
HasResult nodes None wanted = ⊥
HasResult nodes (Some r) wanted = (r < length nodes) × IsWanted nodes r wanted

pub record AreRunParts (nodes : List Node) (p : RunParts) : Type 0 where
  pub invariants : IsTruth nodes p.invariants
  pub undefined : IsTruth nodes p.undefined
  pub kept : All (λ k. IsTruth nodes k) p.kept
  pub agree : All (λ k. IsTruth nodes k) p.agree
  pub valid : IsTruth nodes p.valid

pub record AreStepParts (nodes : List Node) (p : StepParts) : Type 0 where
  pub properties : IsTruth nodes p.properties
  pub behind : All (λ k. IsTruth nodes k) p.behind

abbrev pub AreParts : List Node → Parts → Type 0
AreParts nodes (Run p) = AreRunParts nodes p
AreParts nodes (Step p) = AreStepParts nodes p

-- the parts are of the obligation's kind, and what it speaks of has its term
abbrev pub HasGoal : List Node → Parts → Obligation → Type 0
HasGoal nodes (Run p) Undefined = Unit {0}
HasGoal nodes (Run p) (Invariant i) = i < length p.kept
HasGoal nodes (Run p) (State f) = f < length p.agree
HasGoal nodes (Run p) ResultValue = HasResult nodes p.result p.wanted
HasGoal nodes (Step p) (Property k) = k < length p.behind
HasGoal nodes _ _ = ⊥

-- ---- goals

-- the invariants hold and the run comes back, which then misses something
abbrev pub missed : List Node → RunParts → Reading → Bool → Bool
missed nodes p v met = is_true nodes p.invariants v && (not (is_true nodes p.undefined v) && not met)

-- the returned number meets the specified result
abbrev pub is_met : List Node → RunParts → Reading → Bool
is_met nodes p v = meets_result (option_map (λ k. value nodes k v) p.wanted) (is_true nodes p.valid v) (number_of nodes p.result v)

-- whether the goal is true, by the truths of the parts
abbrev pub goal_is : List Node → Parts → Obligation → Reading → Bool
goal_is nodes (Run p) Undefined v = is_true nodes p.invariants v && is_true nodes p.undefined v
goal_is nodes (Run p) (Invariant i) v = missed nodes p v (is_true nodes (slice_index p.kept i) v)
goal_is nodes (Run p) (State f) v = missed nodes p v (is_true nodes (slice_index p.agree f) v)
goal_is nodes (Run p) ResultValue v = missed nodes p v (is_met nodes p v)
goal_is nodes (Step p) (Property k) v = is_true nodes p.properties v && not (is_true nodes (slice_index p.behind k) v)
goal_is nodes _ _ v = false
