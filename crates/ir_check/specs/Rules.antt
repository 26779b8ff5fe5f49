-- Which items fall under K8 to K15, and when a module is well formed.
use Rattle.std.specs.Prelude.{◌≡◌, ℕ, true, false, None, List}
use Rattle.ir_ast.specs.Program.{Act, load, store, InstrView, BlockView, FunctionView, GlobalView, ModuleView}
use Rattle.ir_type.specs.Whole.{meant, is_pointer, has_pointer}
use Rattle.ir_type.specs.Items.{Item, global_item, function_item, instr_item, Rule, K8, K9, K10, K11, K12, K13, K14, K15, IsFree, IsFirst}
use Rattle.ir_typing.specs.Known.{is_known}
use Rattle.ir_typing.specs.Fits.{Scope, scope_of, instr_fits, head_fits, global_fits, slot_at}
use Rattle.ir_check.specs.Paths.{FallsK10, FallsK11, FallsK12, FallsK14}
use Rattle.ir_check.specs.Arms.{FallsK15}

-- a load or store of a pointer outside a slot
abbrev pub IsPointerAccess : Scope → Act → Type 0
IsPointerAccess s (load over target align range) = (is_pointer (meant s.types over) ≡ true) × (slot_at s target ≡ None)
IsPointerAccess s (store over value target align) = (is_pointer (meant s.types over) ≡ true) × (slot_at s target ≡ None)
IsPointerAccess s _ = ⊥

abbrev pub GlobalFalls : ModuleView → GlobalView → Rule → Type 0
GlobalFalls m g K9 = global_fits m.types g ≡ false
GlobalFalls m g K13 = has_pointer (meant m.types g.over) ≡ true
GlobalFalls m g _ = ⊥

abbrev pub FunctionFalls : ModuleView → FunctionView → Rule → Type 0
FunctionFalls m f K9 = head_fits m.types f ≡ false
FunctionFalls m f K10 = FallsK10 f
FunctionFalls m f K11 = FallsK11 m f
FunctionFalls m f K14 = FallsK14 m f
FunctionFalls m f _ = ⊥

abbrev pub InstrFalls : ModuleView → FunctionView → BlockView → List InstrView → InstrView → Rule → Type 0
InstrFalls m f b before i K8 = is_known m f i.act ≡ false
InstrFalls m f b before i K9 = instr_fits m f before i ≡ false
InstrFalls m f b before i K12 = FallsK12 f b before i
InstrFalls m f b before i K13 = IsPointerAccess (scope_of m f) i.act
InstrFalls m f b before i K15 = FallsK15 m.types f b i.act
InstrFalls m f b before i _ = ⊥

-- the item falls under the rule
abbrev pub FallsByCheck : ModuleView → Item → Rule → Type 0
FallsByCheck m (global_item before g) rule = GlobalFalls m g rule
FallsByCheck m (function_item f) rule = FunctionFalls m f rule
FallsByCheck m (instr_item f b before i) rule = InstrFalls m f b before i rule
FallsByCheck m _ rule = ⊥

abbrev pub IsWellFormed : ModuleView → Type 0
IsWellFormed m = IsFree (FallsByCheck m) m

abbrev pub IsCheckFault : ModuleView → ℕ → Rule → Type 0
IsCheckFault m line rule = IsFirst (FallsByCheck m) m line rule
