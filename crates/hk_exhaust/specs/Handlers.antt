-- A transition of a specification, and what its runs leave.
use Rattle.std.specs.Prelude.{◌≡◌, ◌<◌, ℕ, Bool, true, false, Some, List, length, slice_get}
use Rattle.ir_ast.specs.Program.{ModuleView}
use Rattle.ir_kernel.specs.declared.ends.RunEnd.{RunEnd}
use Rattle.ir_kernel.specs.declared.ends.RunEnd.TheVariants.{Returned}
use Rattle.ir_kernel.specs.Ends.{IsEndOfRun}
use Rattle.ir_sound.specs.Shapes.{sizes_of}
use Rattle.spec_tree.specs.View.{view_spec, view_transition}
use Rattle.spec_tree.specs.Sorted.{IsWellSorted, field_sorts}
use Rattle.spec_tree.specs.Shapes.{AreNumbers, IsState, IsMemory}
use Rattle.spec_tree.specs.Plain as plain
use Rattle.spec_tree.specs.Meaning as meaning
use Rattle.spec_tree.specs.declared.spec.Transition.{Transition}
use Rattle.spec_tree.specs.declared.spec.Spec.{Spec}
use Rattle.hk_case.specs.declared.Obligation.{Obligation}
use Rattle.hk_case.specs.declared.Obligation.TheVariants.{Undefined, Invariant, State, Property}
use Rattle.hk_case.specs.declared.Case.{Case}
use Rattle.hk_case.specs.declared.Case.TheVariants.{Machine, Abstract}
use Rattle.hk_case.specs.Violation.{Misses}
use Rattle.hk_exhaust.specs.declared.handler.Handler.{Handler}

-- the transition stands at its place in the specification, which is well sorted, and the objects are counted
pub record IsHandler (x : Handler) : Type 0 where
  pub sorted : IsWellSorted (view_spec x.spec.now)
  pub there : slice_get (view_spec x.spec.now).transitions x.place ≡ Some (view_transition x.transition.now)
  pub counted : x.objects ≡ length x.spec.now.objects

-- a memory that a run leaves has the sizes of the one it began with
abbrev pub HasSizes : List (List ℕ) → RunEnd → Type 0
HasSizes memory (Returned value after) = sizes_of after ≡ sizes_of memory
HasSizes memory _ = Unit {0}

-- what the obligation speaks of exists
abbrev pub IsOwed : Spec → Obligation → Type 0
IsOwed s (Invariant i) = i < length s.invariants
IsOwed s (State f) = f < length s.fields
IsOwed s (Property p) = p < length s.properties
IsOwed s _ = Unit {0}

abbrev pub is_undefined : Obligation → Bool
is_undefined Undefined = true
is_undefined _ = false

-- the shape of a case, as evaluation asks for it
abbrev pub HasShape : Spec → Transition → Obligation → Case → Type 0
HasShape s t (Property p) (Abstract state args) = IsState (field_sorts (view_spec s)) state × AreNumbers t.widths args
HasShape s t (Property p) (Machine memory args) = ⊥
HasShape s t o (Abstract state args) = ⊥
HasShape s t o (Machine memory args) = IsMemory s.objects memory × AreNumbers t.widths args

-- a machine state with arguments violates an obligation that is no property
abbrev pub Falls : ModuleView → plain.Spec → plain.Transition → Obligation → List (List ℕ) → List ℕ → Type 0
Falls m s t o memory args = meaning.Invariant s memory × (end : RunEnd) × IsEndOfRun m t.function args memory end × Misses s t memory args o end
