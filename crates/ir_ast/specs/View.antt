-- What a tree of the code means: the plain data with the same parts.
use Rattle.std.specs.Prelude.{List, [], ◌∷◌, map}
use Rattle.ir_ast.specs.Plain as plain
use Rattle.ir_ast.specs.Plain.{Ty, Tys, Val, Form, Indices, Ini, Inis, no_types, type_and, no_indices, index_and, no_inits, init_and}
use Rattle.ir_ast.specs.declared.types.IrType.{IrType}
use Rattle.ir_ast.specs.declared.types.TypeList.{TypeList}
use Rattle.ir_ast.specs.declared.types.IrType.TheOpen.{IrType-F, TypeList-F}
use Rattle.ir_ast.specs.declared.types.IrType.TheFolds.{fold-IrType, fold-TypeList}
use Rattle.ir_ast.specs.declared.operand.Operand.{Operand}
use Rattle.ir_ast.specs.declared.operand.Gep.{Gep}
use Rattle.ir_ast.specs.declared.operand.IndexList.{IndexList}
use Rattle.ir_ast.specs.declared.operand.Operand.TheOpen.{Operand-F, Gep-F, IndexList-F}
use Rattle.ir_ast.specs.declared.operand.Operand.TheFolds.{fold-Operand, fold-Gep, fold-IndexList}
use Rattle.ir_ast.specs.declared.global.Init.{Init}
use Rattle.ir_ast.specs.declared.global.InitList.{InitList}
use Rattle.ir_ast.specs.declared.global.Init.TheOpen.{Init-F, InitList-F}
use Rattle.ir_ast.specs.declared.global.Init.TheFolds.{fold-Init, fold-InitList}

abbrev pub types_of : List Ty → Tys
types_of [] = no_types
types_of (t ∷ ts) = type_and t (types_of ts)

abbrev pub type_step : IrType-F Ty Tys → Ty
type_step IrType-F.Void = plain.nothing
type_step (IrType-F.Int w) = plain.integer w
type_step IrType-F.Ptr = plain.pointer
type_step (IrType-F.Array n t) = plain.array n t.value
type_step (IrType-F.Struct ts) = plain.structure ts
type_step (IrType-F.Packed ts) = plain.packed ts
type_step (IrType-F.Named x) = plain.named x
type_step IrType-F.Opaque = plain.opaque

abbrev pub type_list_step : TypeList-F Ty Tys → Tys
type_list_step l = types_of l.items.items

abbrev pub view_type : IrType → Ty
view_type = fold-IrType Ty Tys type_step type_list_step

abbrev pub view_type_list : TypeList → Tys
view_type_list = fold-TypeList Ty Tys type_step type_list_step

abbrev pub view_types : List IrType → Tys
view_types ts = types_of (map view_type ts)

abbrev pub indices_of : List (IrType × Val) → Indices
indices_of [] = no_indices
indices_of (i ∷ is) = index_and (view_type i.0) i.1 (indices_of is)

abbrev pub operand_step : Operand-F Val Form Indices → Val
operand_step (Operand-F.Local x) = plain.local x
operand_step (Operand-F.Global x) = plain.global x
operand_step (Operand-F.Number n) = plain.number n
operand_step Operand-F.Null = plain.null
operand_step Operand-F.Poison = plain.poison
operand_step (Operand-F.Address g) = plain.address g.value

abbrev pub gep_step : Gep-F Val Form Indices → Form
gep_step g = plain.form g.flags (view_type g.base_type) g.base g.indices

abbrev pub index_list_step : IndexList-F Val Form Indices → Indices
index_list_step l = indices_of l.items.items

abbrev pub view_operand : Operand → Val
view_operand = fold-Operand Val Form Indices operand_step gep_step index_list_step

abbrev pub view_gep : Gep → Form
view_gep = fold-Gep Val Form Indices operand_step gep_step index_list_step

abbrev pub view_index_list : IndexList → Indices
view_index_list = fold-IndexList Val Form Indices operand_step gep_step index_list_step

abbrev pub inits_of : List (IrType × Ini) → Inis
inits_of [] = no_inits
inits_of (i ∷ is) = init_and (view_type i.0) i.1 (inits_of is)

abbrev pub init_step : Init-F Ini Inis → Ini
init_step Init-F.Zero = plain.zero_init
init_step (Init-F.Number n) = plain.number_init n
init_step (Init-F.Truth b) = plain.truth_init b
init_step (Init-F.Bytes l) = plain.bytes_init l.items.items
init_step (Init-F.Array is) = plain.array_init is
init_step (Init-F.Struct is) = plain.structure_init is
init_step (Init-F.Packed is) = plain.packed_init is
init_step Init-F.Pointer = plain.pointer_init

abbrev pub init_list_step : InitList-F Ini Inis → Inis
init_list_step l = inits_of l.items.items

abbrev pub view_init : Init → Ini
view_init = fold-Init Ini Inis init_step init_list_step

abbrev pub view_init_list : InitList → Inis
view_init_list = fold-InitList Ini Inis init_step init_list_step

abbrev pub view_indices : List (IrType × Operand) → Indices
view_indices is = indices_of (map (λ i. (i.0, view_operand i.1)) is)

abbrev pub view_inits : List (IrType × Init) → Inis
view_inits is = inits_of (map (λ i. (i.0, view_init i.1)) is)
