-- What a kernel keeps beside its module.
use Rattle.std.specs.Prelude.{◌≡◌, bytes_eq}
use Rattle.std.specs.List.{IsDistinct}
use Rattle.ir_ast.specs.Program.{ModuleView}
use Rattle.ir_ast.specs.Table.{names_of}
use Rattle.ir_layout.specs.Layouts.{LayoutView, IsLayoutOf}
use Rattle.ir_code.specs.declared.program.Program.{Program}
use Rattle.ir_resolve.specs.Resolved.{program_of}
use Rattle.ir_kernel.specs.Orders.{AreOrdered}

-- no two functions have one name, each has an order of its blocks, and the layout and the code are the module's
pub record IsKernel (m : ModuleView) (layout : LayoutView) (program : Program) : Type 0 where
  pub distinct : IsDistinct bytes_eq (names_of m.functions)
  pub ordered : AreOrdered m
  pub layout_is : IsLayoutOf m layout
  pub code_is : program ≡ program_of m
