-- The case that a reading of variables and arrays gives (the state and the arguments of Nelson et al., Hyperkernel, SOSP 2017, as the
-- inputs of a solver).
use Rattle.std.specs.Prelude.{ℕ, ◌+◌, ◌%◌, ◌^◌, ◌<◌, All, List, [], ◌∷◌}
use Rattle.hk_term.specs.Meaning.{Reading}
use Rattle.hk_symmem.specs.Origins.{Origin, start_memory}
use Rattle.spec_tree.specs.Plain.{Transition, Spec}
use Rattle.spec_tree.specs.Sorted.{field_sorts}
use Rattle.hk_symspec.specs.States.{free_state}
use Rattle.hk_case.specs.declared.Obligation.{Obligation}
use Rattle.hk_case.specs.declared.Obligation.TheVariants.{Property}
use Rattle.hk_case.specs.declared.Case.{Case}
use Rattle.hk_case.specs.declared.Case.TheVariants.{Machine, Abstract}

-- one number for each width: a variable for each, from a number on, modulo 2 to the width
abbrev pub arguments_from : ℕ → List ℕ → (ℕ → ℕ) → List ℕ
arguments_from first [] var = []
arguments_from first (w ∷ ws) var = var first % 2 ^ w ∷ arguments_from (first + 1) ws var

-- argument k is the variable k
abbrev pub arguments_at : List ℕ → (ℕ → ℕ) → List ℕ
arguments_at widths var = arguments_from 0 widths var

-- the case of an obligation: field k is the array k for a property, and object o the array o for all others
abbrev pub case_at : List Origin → Spec → Transition → Obligation → Reading → Case
case_at origins s t (Property p) v = Abstract (free_state 0 (field_sorts s) v.entry) (arguments_at t.widths v.var)
case_at origins s t o v = Machine (start_memory origins v.entry) (arguments_at t.widths v.var)

-- the bytes of a machine case are below 256
abbrev pub HasBytes : Case → Type 0
HasBytes (Machine memory args) = All (λ o. All (λ b. b < 256) o) memory
HasBytes (Abstract state args) = Unit {0}
