-- The layout of a module.
use Rattle.std.specs.Prelude.{◌≡◌, ℕ, ◌<◌, ◌≤◌, ◌^◌, true, false, Option, Some, None, List, [], map, flat_map, length, slice_index, slice_index_or, Contains}
use Rattle.ir_ast.specs.Plain.{Ty, named}
use Rattle.ir_ast.specs.Program.{ModuleView}
use Rattle.ir_ast.specs.Table.{names_of}
use Rattle.ir_type.specs.Names.{entry_of, parts_of}
use Rattle.ir_type.specs.Whole.{meant, has_odd}
use Rattle.ir_type.specs.Items.{Item, IsItem, spelled}
use Rattle.ir_layout.specs.declared.fact.Fact.{Fact}
use Rattle.ir_layout.specs.declared.object.Object.{Object}
use Rattle.ir_layout.specs.Sizes.{size_of, field_offset, object_size, object_align}
use Rattle.ir_layout.specs.Facts.{look_in, AreFacts}
use Rattle.ir_layout.specs.Rules.{IsLaidOut}
use Rattle.ir_layout.specs.Initial.{initial_memory}
use Rattle.ir_layout.specs.InitFits.{have_fitting_inits}
use Rattle.ir_layout.specs.Offsets.{offsets_of, fields_in}

-- what a layout keeps: each named type with the place of what it stands for, by its place what is known of it and where its fields
-- stand, and the objects
pub record LayoutView : Type 0 where
  pub names : List (List ℕ × ℕ)
  pub facts : List Fact
  pub fields : List (List ℕ)
  pub objects : List Object

abbrev pub fields_at : List (List ℕ) → Option ℕ → List ℕ
fields_at fields None = []
fields_at fields (Some root) = slice_index_or fields root []

-- where the fields of a named type stand
abbrev pub fields_of : LayoutView → List ℕ → List ℕ
fields_of l x = fields_at l.fields (entry_of x l.names)

-- where the fields of a type stand
abbrev pub offsets_seen : LayoutView → Ty → List ℕ
offsets_seen l (named x) = fields_of l x
offsets_seen l t = offsets_of (look_in l.names l.facts) t

-- the type is spelled by an item of the module, or is a part of one that is, and no integer of another width stands in it
pub record IsMeasurable (m : ModuleView) (t : Ty) : Type 0 where
  pub occurs : (item : Item) × IsItem m item × Contains (flat_map parts_of (spelled item)) t
  pub even : has_odd (meant m.types t) ≡ false

-- the layout is that of the module
pub record IsLayoutOf (m : ModuleView) (l : LayoutView) : Type 0 where
  pub laid_out : IsLaidOut m
  pub names : names_of l.names ≡ names_of m.types
  pub facts : AreFacts m.types l.facts
  pub fields : (x : List ℕ) → size_of (meant m.types (named x)) ≤ 2 ^ 32 → (k : ℕ) → k < fields_in (meant m.types (named x))
      → slice_index (fields_of l x) k ≡ field_offset (meant m.types (named x)) k
  pub sizes : map (λ o. o.size) l.objects ≡ map (λ g. object_size m.types g.1) m.globals
  pub aligns : map (λ o. o.align) l.objects ≡ map (λ g. object_align m.types g.1) m.globals
  pub constants : map (λ o. o.constant) l.objects ≡ map (λ g. g.1.constant) m.globals
  pub shapes : map (λ o. length o.bytes) l.objects ≡ map (λ o. o.size) l.objects
  pub bytes : have_fitting_inits m ≡ true → map (λ o. o.bytes) l.objects ≡ initial_memory m
