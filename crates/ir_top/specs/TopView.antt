-- What the items outside bodies mean: the plain data with the same parts; and what it is to read one.
use Rattle.std.specs.Prelude.{ℕ, ℤ, Option, Some, None, List, map}
use Rattle.ir_ast.specs.Plain.{Ty}
use Rattle.ir_ast.specs.View.{view_type, view_init}
use Rattle.ir_ast.specs.declared.types.IrType.{IrType}
use Rattle.ir_lex.specs.Tok.{Tok}
use Rattle.ir_lex.specs.Items as plain
use Rattle.ir_lex.specs.Items.{Top, SpellsTop, SpellsRangeItem}
use Rattle.ir_ast.specs.declared.global.TypedNumberList.{TypedNumberList}
use Rattle.ir_top.specs.declared.item.TopItem.{TopItem}
use Rattle.ir_top.specs.declared.item.TopItem.TheVariants.{Layout, Named, Global, Define, Declare}
use Rattle.ir_part.specs.declared.stop.PartStop.{PartStop}
use Rattle.ir_part.specs.declared.stop.PartStop.TheVariants.{NotSpelled, Memory}

abbrev pub view_parameters : List (IrType × List ℕ) → List (Ty × List ℕ)
view_parameters parameters = map (λ p. (view_type p.0, p.1)) parameters

abbrev pub view_numbers : List (IrType × ℤ) → List (Ty × ℤ)
view_numbers numbers = map (λ n. (view_type n.0, n.1)) numbers

abbrev pub view_top : TopItem → Top
view_top (Layout bytes) = plain.layout_item bytes.items.items
view_top (Named name over) = plain.type_item name (view_type over)
view_top (Global name constant over init align) = plain.global_item name constant (view_type over) (view_init init) align
view_top (Define name result parameters) = plain.define_item name (view_type result) (view_parameters parameters.items.items)
view_top (Declare name result) = plain.declare_item name (view_type result)

-- why there is no item: nothing is spelled; memory may be refused at any tokens
abbrev pub IsTopStop : List Tok → PartStop → Type 0
IsTopStop ts NotSpelled = (top : Top) → SpellsTop top ts → ⊥
IsTopStop ts Memory = Unit {0}

-- the range that tokens spell, or that they spell none
abbrev pub IsRange : List Tok → Option (List ℕ × TypedNumberList) → Type 0
IsRange ts (Some range) = SpellsRangeItem range.0 (view_numbers range.1.items.items) ts
IsRange ts None = (name : List ℕ) → (numbers : List (Ty × ℤ)) → SpellsRangeItem name numbers ts → ⊥
