-- What the productions of instructions give beside their notes: no text spells a comparison of integers of another width, or a phi
-- without an arm.
use Rattle.std.specs.Prelude.{◌≡◌, Bool, true, false, List, [], ◌∷◌, Contains}
use Rattle.ir_ast.specs.Plain.{Ty, integer}
use Rattle.ir_ast.specs.Program.{Act, compare, phi, InstrView, BlockView, FunctionView, ModuleView}
use Rattle.ir_type.specs.Items.{IsFunction}
use Rattle.ir_type.specs.Shape.{is_width}
use Rattle.ir_typing.specs.Registers.{blocks_of}

abbrev pub has_width : Ty → Bool
has_width (integer w) = is_width w
has_width _ = true

abbrev pub is_some_arm : {A : Type 0} → List A → Bool
is_some_arm [] = false
is_some_arm (a ∷ arms) = true

-- integers that are compared have a width from 1 to 64, and a phi has an arm
abbrev pub is_spelled : Act → Bool
is_spelled (compare samesign predicate over a b) = has_width over
is_spelled (phi over arms) = is_some_arm arms
is_spelled _ = true

abbrev pub AreSpelled : ModuleView → Type 0
AreSpelled m = (f : FunctionView) (b : BlockView) (i : InstrView) → IsFunction m f → Contains (blocks_of f) b → Contains b.instrs i → is_spelled i.act ≡ true
