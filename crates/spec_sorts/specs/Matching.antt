-- When what a scope's names mean has its entry in a context of expressions.
use Rattle.std.specs.Prelude.{◌≡◌, ℕ, ◌<◌, Bool, true, false, Some, List, [], length, slice_get, slice_index, codes, ◌⊎◌}
use Rattle.spec_tree.specs.declared.expr.StateName.{StateName}
use Rattle.spec_tree.specs.Sorted.{Context, FieldSort, IsWidth, IsIndexSort, IsFieldSort, reads}
use Rattle.spec_names.specs.Kernel.{Name, Global}
use Rattle.spec_names.specs.Room.{HasLeaves, Lies}
use Rattle.spec_scope.specs.declared.meaning.Kind.{Kind}
use Rattle.spec_scope.specs.declared.meaning.Kind.TheVariants.{Truth, Number}
use Rattle.spec_scope.specs.declared.meaning.Meaning.TheVariants.{Argument, Variable, Local, State, Kernel}
use Rattle.spec_scope.specs.Scope.{Scope, meaning, field_place, field_sort}
use Rattle.spec_scope.specs.Takes.{AreVariables}

-- the width of a number, or of a truth
abbrev pub kind_width : Kind → ℕ
kind_width Truth = 1
kind_width (Number w) = w

abbrev pub IsKind : Kind → Type 0
IsKind Truth = Unit {0}
IsKind (Number w) = IsWidth w

-- what the names of a scope mean has its entry in a context, under these bound variables. Where `reading` is false, states and local
-- names that read one need none
pub record Matches (reading : Bool) (s : Scope) (b : List Name) (c : Context) : Type 0 where
  pub fields : (f : Name) (place : ℕ) (sort : FieldSort) → field_place s f ≡ Some place → field_sort s f ≡ Some sort → slice_get c.fields place ≡ Some sort
  pub sorts : (f : Name) (sort : FieldSort) → field_sort s f ≡ Some sort → IsFieldSort sort
  pub states : reading ≡ true → (o : Name) (which : StateName) → meaning s o ≡ Some (State which) → reads c which ≡ true
  pub rooted : meaning s (codes "kernel") ≡ Some Kernel → c.kernel ≡ true
  pub objects : (place : ℕ) (g : Global) → slice_get s.kernel.globals place ≡ Some g → (slice_get c.objects place ≡ Some g.size) × HasLeaves g.shape × Lies g.shape g.size
  pub args : (x : Name) (place w : ℕ) → meaning s x ≡ Some (Argument place w) → (place < length c.args) × (slice_index c.args place ≡ w) × IsWidth w
  pub locals : (x : Name) (place : ℕ) (k : Kind) (skipped : Bool) → meaning s x ≡ Some (Local place (Some k) skipped) → (skipped ≡ false) ⊎ (reading ≡ true)
      → (place < length c.locals) × (slice_index c.locals place ≡ kind_width k) × IsKind k
  pub variables : (x : Name) (w n : ℕ) → meaning s x ≡ Some (Variable w n) → IsIndexSort w n
  pub bound : AreVariables s [] b c.bounds
