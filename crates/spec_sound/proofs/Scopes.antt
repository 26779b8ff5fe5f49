-- A scope whose names mean what a context has.
use Rattle.std.proofs.Common.{◌≡◌, ℕ, Bool, Option, Some, None, option_and_then, List, [], slice_get, codes, refl, sym, ap, ◌∙◌}
use Rattle.spec_tree.specs.Sorted.{Context, FieldSort, IsFieldSort}
use Rattle.spec_names.specs.Kernel.{Name, Global, Kernel}
use Rattle.spec_names.specs.Room.{HasLeaves, Lies}
use Rattle.spec_scope.specs.declared.meaning.Meaning.{Meaning}
use Rattle.spec_scope.specs.declared.meaning.Meaning.TheVariants as means
use Rattle.spec_scope.specs.Scope.{Declared, Scope, meaning, field_place, field_sort, sort_at}
use Rattle.spec_sorts.specs.Matching.{Matches}
use Rattle.spec_kernel.specs.Widths.{HaveWidths}
use Rattle.spec_sound.proofs.Parts.{none_some}
use Rattle.spec_sound.proofs.Meanings.{IsTop, IsPlain, Means, AllNames, meant, top_plain, top_means}

-- what holds along all lines: the sorts of the declared fields, the objects, and the widths of the kernel's functions
pub record Fixed (F : List FieldSort) (O : List ℕ) (k : Kernel) (D : List Declared) : Type 0 where
  pub fields : (place : ℕ) (sort : FieldSort) → sort_at D place ≡ Some sort → slice_get F place ≡ Some sort
  pub sorts : (place : ℕ) (sort : FieldSort) → sort_at D place ≡ Some sort → IsFieldSort sort
  pub objects : (place : ℕ) (g : Global) → slice_get k.globals place ≡ Some g → (slice_get O place ≡ Some g.size) × HasLeaves g.shape × Lies g.shape g.size
  pub widths : HaveWidths k

-- a context of these fields and objects, where no variable is bound
pub record IsOver (F : List FieldSort) (O : List ℕ) (c : Context) : Type 0 where
  pub fields : c.fields ≡ F
  pub objects : c.objects ≡ O
  pub bounds : c.bounds ≡ []

-- the names of the scope mean what the context has
pub record IsMeant (reading : Bool) (s : Scope) (c : Context) : Type 0 where
  pub top : AllNames IsTop s.top
  pub plain : AllNames IsPlain s.inner
  pub inner : AllNames (Means reading c) s.inner

placed : (D : List Declared) (o : Option ℕ) (sort : FieldSort) → option_and_then (sort_at D) o ≡ Some sort
    → (place : ℕ) × (o ≡ Some place) × (sort_at D place ≡ Some sort)
placed D None sort is = absurd (none_some sort is)
placed D (Some place) sort is = (place, refl, is)

pub sort_placed : (s : Scope) (f : Name) (sort : FieldSort) → field_sort s f ≡ Some sort
    → (place : ℕ) × (field_place s f ≡ Some place) × (sort_at s.fields place ≡ Some sort)
sort_placed s f sort is = placed s.fields (field_place s f) sort is

pub sort_there : (s : Scope) (f : Name) (place : ℕ) (sort : FieldSort) → field_place s f ≡ Some place → field_sort s f ≡ Some sort
    → sort_at s.fields place ≡ Some sort
sort_there s f place sort there is = sym (ap (option_and_then (sort_at s.fields)) there) ∙ is

pub sort_is : (F : List FieldSort) (O : List ℕ) (s : Scope) (f : Name) (sort : FieldSort) → Fixed F O s.kernel s.fields → field_sort s f ≡ Some sort
    → IsFieldSort sort
sort_is F O s f sort fixed is = let p = sort_placed s f sort is in fixed.sorts p.0 sort p.2

pub matches : (reading : Bool) (F : List FieldSort) (O : List ℕ) (s : Scope) (c : Context) → Fixed F O s.kernel s.fields → IsOver F O c
    → IsMeant reading s c → Matches reading s [] c
matches reading F O s c fixed over is = record {
  fields = λ f place sort there has. ap (λ (fs : List FieldSort). slice_get fs place) over.fields ∙ fixed.fields place sort (sort_there s f place sort there has);
  sorts = λ f sort has. sort_is F O s f sort fixed has;
  states = λ r o which has. at o (means.State which) has r;
  rooted = λ has. at (codes "kernel") means.Kernel has;
  objects = λ place g has. objects place g (fixed.objects place g has);
  args = λ x place w has. at x (means.Argument place w) has;
  locals = λ x place k skipped has. at x (means.Local place (Some k) skipped) has;
  variables = λ x w n has. meant IsPlain top_plain s x (means.Variable w n) is.plain is.top has;
  bound = over.bounds;
} where
  at : (x : Name) (m : Meaning) → meaning s x ≡ Some m → Means reading c m
  at x m has = meant (Means reading c) (top_means reading c) s x m is.inner is.top has

  objects : (place : ℕ) (g : Global) → (slice_get O place ≡ Some g.size) × HasLeaves g.shape × Lies g.shape g.size
      → (slice_get c.objects place ≡ Some g.size) × HasLeaves g.shape × Lies g.shape g.size
  objects place g p = (ap (λ (os : List ℕ). slice_get os place) over.objects ∙ p.0, p.1, p.2)
