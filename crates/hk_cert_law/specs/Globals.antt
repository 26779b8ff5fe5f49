-- What a certificate needs of the globals of a module.
use Rattle.std.specs.Prelude.{◌<◌, All, bytes_eq, map}
use Rattle.std.specs.List.{IsDistinct}
use Rattle.ir_ast.specs.Program.{ModuleView}

-- names of bytes, of which no two are the same
pub record HasGlobals (m : ModuleView) : Type 0 where
  pub bytes : All (λ g. All (λ b. b < 256) g.1.name) m.globals
  pub distinct : IsDistinct bytes_eq (map (λ g. g.1.name) m.globals)
